use Rattle.std.proofs.Common.{◌≡◌, ◌∙◌, ◌+◌, ◌++◌, ◌∷◌, [], List, ℕ, ap, append_assoc, arith, map, pos, subst, sym}
use Rattle.std.proofs.lemmas.List.{get_or_default}
use Rattle.std.proofs.lemmas.List.FromFn.{map-range_with_len_more}
use Rattle.std.specs.List.{range_with_len}
use Rattle.std.specs.Prelude.{slice_index_or}
use Rattle.tq_base.specs.Contents.{Int}
use Rattle.tq_base.specs.Values.{value_ref}
use Rattle.tq_base.specs.declared.value.Value.{Value}
use Rattle.tq_table.specs.Writing.{IsWriting}
use Rattle.tq_totals.specs.Text.{amount_field, places_of}
use Rattle.tq_totals.proofs.text.write_group.Goals as goal

pub values-preserved : goal.values-preserved
values-preserved c text fields is =
    let values = c.args.values.now in
    let at = c.values.place in
    let zero : Value = Int (pos 0) in
    let field = λ (place : ℕ). amount_field (places_of c.args.by.now c.args.places.now place) (slice_index_or values place zero) in
    let so_far = map field (range_with_len 0 at) in
    let value : value_ref c.as_ref.result ≡ slice_index_or values at zero =
    c.as_ref.ensures ∙ c.index-values-place.is ∙ get_or_default values at c.index-values-place.result zero c.values-test.true in
    let here : amount_field c.places_of.result (value_ref c.as_ref.result) ≡ field at = λ i. amount_field (c.places_of.ensures i) (value i) in
    let longer =
    ap (λ (f : List ℕ). (fields ++ so_far) ++ f ∷ []) here
    ∙ append_assoc fields so_far (field at ∷ [])
    ∙ ap (λ (l : List (List ℕ)). fields ++ l) (sym (map-range_with_len_more field 0 at at (omega arith))) in
    subst (IsWriting c.write_amount.new.writer text) longer (c.in_ok-write_amount.ensures text (fields ++ so_far) (c.values.invariant text fields is))
