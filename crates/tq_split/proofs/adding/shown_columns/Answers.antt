use Rattle.std.proofs.Common.{◌≡◌, ◌+◌, ◌-◌, ◌++◌, ◌∙◌, ap, arith}
use Rattle.std.specs.List.{range_with_len}
use Rattle.tq_split.proofs.adding.shown_columns.Goals as goal

pub returns : goal.returns
returns c =
    let groups = c.args.groups in
    let width = c.args.width in
    let first : groups - 0 ≡ groups = omega arith in
    let rest : (width + 1) - (groups + 1) ≡ width - groups = omega arith in
    c.in_ok-push_numbers.ensures
    ∙ ap (λ l. l ++ range_with_len (groups + 1) ((width + 1) - (groups + 1))) (c.in_ok-columns.ensures ∙ ap (range_with_len 0) first)
    ∙ ap (λ n. range_with_len 0 groups ++ range_with_len (groups + 1) n) rest
