use Rattle.std.proofs.Common.{◌≡◌, ◌∙◌, ◌+◌, ◌++◌, ◌∷◌, [], FitsSigned, List, ℕ, ℤ, ap, append_assoc, arith, map, pos, rules, subst, sym}
use Rattle.std.proofs.lemmas.Int.{to_z-of_z}
use Rattle.std.proofs.lemmas.List.FromFn.{map-range_with_len_more}
use Rattle.std.specs.Int.{w128}
use Rattle.std.specs.List.{range_with_len}
use Rattle.std.specs.Prelude.{slice_index_or}
use Rattle.tq_table.specs.Amounts.{number_text}
use Rattle.tq_table.specs.Writing.{IsWriting}
use Rattle.tq_totals.specs.Text.{places_of}
use Rattle.tq_totals.proofs.text.write_sums.Goals as goal

pub sums-preserved : goal.sums-preserved
sums-preserved c text fields is =
    let sums = c.args.sums.now in
    let at = c.sums.place in
    let field = λ (place : ℕ). number_text (places_of c.args.summed.now c.args.places.now place) (slice_index_or sums place (pos 0)) in
    let so_far = map field (range_with_len 0 at) in
    let sum = slice_index_or sums at (pos 0) in
    let fits : FitsSigned w128 sum = search rules in
    let here : number_text c.places_of.result sum ≡ field at = ap (λ (p : ℕ). number_text p sum) c.places_of.ensures in
    let longer =
    ap (λ (z : ℤ). (fields ++ so_far) ++ number_text c.places_of.result z ∷ []) (to_z-of_z w128 sum fits)
    ∙ ap (λ (f : List ℕ). (fields ++ so_far) ++ f ∷ []) here
    ∙ append_assoc fields so_far (field at ∷ [])
    ∙ ap (λ (l : List (List ℕ)). fields ++ l) (sym (map-range_with_len_more field 0 at at (omega arith))) in
    subst (IsWriting c.write_amount.new.writer text) longer (c.in_ok-write_amount.ensures text (fields ++ so_far) (c.sums.invariant text fields is))
