use Rattle.std.proofs.Common.{◌≡◌, ◌∙◌, ◌≤◌, ◌++◌, ◌∷◌, [], ◌⊎◌, inl, inr, Bool, true, false, ℕ, List, ap, append-nil, arith, drop, length, refl, sym, take, take-append-drop}
use Rattle.std.specs.Prelude.{min, nat_le}
use Rattle.std.proofs.lemmas.Bool.{leb-false, leb-true}
use Rattle.std.proofs.lemmas.List.{drop_all, take_all}
use Rattle.csv.specs.Records.{fields_of}
use Rattle.tq_import.specs.declared.plan.Conversion.{Conversion}
use Rattle.tq_import.specs.declared.plan.NumberFormat.{NumberFormat}
use Rattle.tq_import.specs.Kinds.{next_kinds}
use Rattle.tq_import.proofs.kinds.add_record.Goals as goal

no_fields : (format : NumberFormat) (kinds : List Conversion) → next_kinds format kinds [] ≡ kinds
no_fields format [] = refl
no_fields format (kind ∷ kinds) = refl

ended : (format : NumberFormat) (kinds : List Conversion) (fields : List (List ℕ)) (place : ℕ) → (length kinds ≤ place) ⊎ (length fields ≤ place)
    → take place kinds ++ next_kinds format (drop place kinds) (drop place fields) ≡ kinds
ended format kinds fields place (inl all) =
    ap (λ (l : List Conversion). take place kinds ++ next_kinds format l (drop place fields)) (drop_all place kinds all) ∙ append-nil (take place kinds) ∙ take_all place kinds all
ended format kinds fields place (inr all) =
    ap (λ (l : List (List ℕ)). take place kinds ++ next_kinds format (drop place kinds) l) (drop_all place fields all)
    ∙ ap (λ (l : List Conversion). take place kinds ++ l) (no_fields format (drop place kinds)) ∙ take-append-drop place kinds

one_of : (a b place : ℕ) → min a b ≤ place → (a ≤ place) ⊎ (b ≤ place)
one_of a b place least = by (nat_le a place) refl
  where
    by : (t : Bool) → nat_le a place ≡ t → (a ≤ place) ⊎ (b ≤ place)
    by true is = inl (leb-true a place is)
    by false is = let more = leb-false a place is in inr (omega arith)

pub returns : goal.returns
returns c =
    let kinds = c.places.kinds.items in
    let fields = fields_of c.args.record.now in
    let least : min (length kinds) (length fields) ≤ c.places.place = omega (arith, c.places-test.false, c.min-count.ensures, c.len.ensures, c.len-2.ensures, c.places.invariant.many) in
    sym (c.places.invariant.rest ∙ ended c.args.format kinds fields c.places.place (one_of (length kinds) (length fields) c.places.place least))
