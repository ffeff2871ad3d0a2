-- Fields of a record, one at a time.
use Rattle.std.proofs.Common.{◌≡◌, ℕ, zero, suc, ◌+◌, ◌-◌, ◌<◌, ◌≤◌, ◌==◌, true, List, [], ◌∷◌, ◌++◌, length, take, drop, Some, Result, Ok, Err, slice_get, refl, ap, ◌∙◌, arith}
use Rattle.std.proofs.lemmas.List.{drop_all, drop_more, length-take-le, get_or-take}
use Rattle.std.proofs.lemmas.Bool.{eq-eqb}
use Rattle.std.proofs.lemmas.Option.{get_or_from_slice_get}
use Rattle.csv.specs.Records.{field_at}
use Rattle.tq_base.specs.declared.catalogue.Column.{Column}
use Rattle.tq_base.specs.declared.value.Value.{Value}
use Rattle.tq_base.specs.Results.{and_then}
use Rattle.tq_base.specs.declared.form.Form.{Form}
use Rattle.tq_event.specs.declared.fault.LoadFaultKind.{LoadFaultKind}
use Rattle.tq_event.specs.Loading.{entry_of, period_fields, period_of, value_fields, value_of, values_after}

-- a field in terms of the `csv` crate and of the standard library
pub field-slice : (fields : List (List ℕ)) (i : ℕ) → field_at fields i ≡ slice_get fields i
unfolding field_at
field-slice [] i = refl
field-slice (f ∷ fields) zero = refl
field-slice (f ∷ fields) (suc i) = field-slice fields i

-- a field comes before those after it
pub fields_from : (fields : List (List ℕ)) (place : ℕ) (field : List ℕ) → slice_get fields place ≡ Some field → place < length fields → drop place fields ≡ field ∷ drop (place + 1) fields
fields_from fields place field is within = drop_more fields place [] within ∙ ap (λ f. f ∷ drop (place + 1) fields) (get_or_from_slice_get fields place field [] is)

-- a value field comes before those after it
pub value_field_at : (fields : List (List ℕ)) (place : ℕ) (field : List ℕ) → slice_get fields place ≡ Some field → place < length fields - 2
    → drop place (value_fields fields) ≡ field ∷ drop (place + 1) (value_fields fields)
value_field_at fields place field is within =
    let short : place < length (value_fields fields) = omega (arith, length-take-le (length fields - 2) fields (omega arith)) in
    drop_more (value_fields fields) place [] short
    ∙ ap (λ f. f ∷ drop (place + 1) (value_fields fields)) (get_or-take (length fields - 2) fields place [] within ∙ get_or_from_slice_get fields place field [] is)

-- the values need no more fields than there are columns
first_values : (values : List Value) (columns : List Column) (n : ℕ) (fields : List (List ℕ)) → length columns ≤ n → values_after values columns (take n fields) ≡ values_after values columns fields
first_values values [] n fields enough = refl
first_values values (c ∷ columns) zero fields enough = absurd (omega (arith, enough))
first_values values (c ∷ columns) (suc n) [] enough = refl
first_values values (c ∷ columns) (suc n) (field ∷ fields) enough = by (value_of c.kind field) (λ value. first_values (values ++ value ∷ []) columns n fields (omega (arith, enough)))
  where
    by : (r : Result Value LoadFaultKind) → ((value : Value) → values_after (values ++ value ∷ []) columns (take n fields) ≡ values_after (values ++ value ∷ []) columns fields)
        → and_then r (λ value. values_after (values ++ value ∷ []) columns (take n fields)) ≡ and_then r (λ value. values_after (values ++ value ∷ []) columns fields)
    by (Err fault) same = refl
    by (Ok value) same = same value

module _ (form : Form) (table : ℕ) (columns : List Column) (fields : List (List ℕ)) (many : length fields ≡ length columns + 2) where
  as_many : (length fields == length columns + 2) ≡ true
  as_many = eq-eqb (length fields) (length columns + 2) many

  before_period : values_after [] columns (value_fields fields) ≡ values_after [] columns fields
  before_period = first_values [] columns (length fields - 2) fields (omega (arith, many))

  pub entry_fails : (fault : LoadFaultKind) → values_after [] columns fields ≡ Err fault → entry_of form table columns fields ≡ Err fault
  entry_fails fault fails = rw (as_many, before_period, fails) refl

  pub entry_told : (values : List Value) (period : Result (ℕ × ℕ) LoadFaultKind) → values_after [] columns fields ≡ Ok values → period_of form (period_fields fields) ≡ period
      → entry_of form table columns fields ≡ and_then period (λ p. Ok (record { table = table; values = values; from = p.0; to = p.1 }))
  entry_told values period parsed until = rw (as_many, before_period, parsed, until) refl

-- the last two fields
pub period_fields_are : (fields : List (List ℕ)) (a b : List ℕ) → 2 ≤ length fields → slice_get fields (length fields - 2) ≡ Some a → slice_get fields (length fields - 1) ≡ Some b
    → period_fields fields ≡ a ∷ b ∷ []
period_fields_are fields a b long first second =
    let one : length fields - 2 < length fields = omega arith in
    let two : length fields - 1 < length fields = omega arith in
    let next : length fields - 2 + 1 ≡ length fields - 1 = omega arith in
    let past : length fields ≤ length fields - 1 + 1 = omega arith in
    drop_more fields (length fields - 2) [] one
    ∙ ap (λ f. f ∷ drop (length fields - 2 + 1) fields) (get_or_from_slice_get fields (length fields - 2) a [] first)
    ∙ ap (λ n. a ∷ drop n fields) next
    ∙ ap (λ l. a ∷ l) (drop_more fields (length fields - 1) [] two)
    ∙ ap (λ f. a ∷ f ∷ drop (length fields - 1 + 1) fields) (get_or_from_slice_get fields (length fields - 1) b [] second)
    ∙ ap (λ l. a ∷ b ∷ l) (drop_all (length fields - 1 + 1) fields past)
