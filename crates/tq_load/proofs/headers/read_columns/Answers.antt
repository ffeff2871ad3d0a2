use Rattle.std.proofs.Common.{◌≡◌, ◌∙◌, ◌++◌, ◌-◌, refl, ℕ, List, Ok, ap, append_assoc, arith, drop, length, length-drop, subst, sym, take}
use Rattle.std.specs.Prelude.{IfOk}
use Rattle.std.proofs.lemmas.List.{take-append-drop, take_all}
use Rattle.tq_event.specs.Loading.{columns_of}
use Rattle.tq_load.proofs.headers.read_columns.Goals as goal

-- the bytes are the first line, the rest of its list, and the other lists
pub returns : goal.returns
returns c =
    let (more, split) = c.piece_from-front.ensures in
    let front = c.piece_from-front.result.now in
    let end = c.in-Some-line_end.end in
    let rest = take (length front - end) (drop end front) in
    let tail : rest ≡ drop end front = take_all (length front - end) (drop end front) (omega (arith, length-drop end front)) in
    let whole : take end front ++ (rest ++ more) ≡ c.args.bytes.now =
    sym (append_assoc (take end front) rest more) ∙ ap (λ l. (take end front ++ l) ++ more) tail ∙ ap (λ l. l ++ more) (take-append-drop end front) ∙ sym split in
    subst (λ (b : List ℕ). IfOk c.columns_on_line.result (λ columns. columns_of b ≡ Ok columns.items)) whole (c.columns_on_line.ensures (rest ++ more) (c.if-not-may_begin.ensures refl more))
