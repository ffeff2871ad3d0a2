use Rattle.std.proofs.Common.{◌≡◌, ◌∙◌, ◌++◌, ◌∷◌, ℕ, [], ap, append-nil, cond, rules, sym, true, false}
use Rattle.std.proofs.lemmas.Bool.Decides.{nat_tests}
use Rattle.std.specs.Global.{Vec}
use Rattle.std.specs.Prelude.{◌==◌}
use Rattle.tq_exec.specs.OutputRanges.{numbers_in, range_at}
use Rattle.tq_exec.proofs.RangeLemmas.{numbers_more}
use Rattle.tq_exec.proofs.output_ranges.numbers_in.Goals.{then-range_at-range+in_ok-push, else-range_at-range}
use Rattle.tq_exec.proofs.output_ranges.numbers_in.Goals as goal

pub rows-preserved : goal.rows-preserved
rows-preserved c =
    let ids = c.args.ids.now in
    let count = c.args.count in
    let range = c.args.range in
    let n = c.rows.number in
    elim c.if-range_at-range.branch [
      | then-range_at-range+in_ok-push w ↦
          let is : (range_at ids count n == range) ≡ true = search (rules, nat_tests, c.range_at.ensures, w.if-range_at-range) in
          ap (λ (v : Vec ℕ). v.items) w.numbers-is ∙ w.in_ok-push.ensures.items ∙ ap (λ l. l ++ n ∷ []) c.rows.invariant
          ∙ ap (λ b. numbers_in ids count n range ++ cond b (n ∷ []) []) (sym is)
          ∙ sym (numbers_more ids count n range)
      | else-range_at-range w ↦
          let is : (range_at ids count n == range) ≡ false = search (rules, nat_tests, c.range_at.ensures, w.if-range_at-range) in
          ap (λ (v : Vec ℕ). v.items) w.numbers-is ∙ c.rows.invariant
          ∙ sym (append-nil (numbers_in ids count n range))
          ∙ ap (λ b. numbers_in ids count n range ++ cond b (n ∷ []) []) (sym is)
          ∙ sym (numbers_more ids count n range)
    ]
