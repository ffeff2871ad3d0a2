-- The range to which a condition restricts the number at a place, part by part.
use Rattle.std.proofs.Common.{◌≡◌, ℕ, ℤ, ◌⊎◌, inl, inr, Bool, true, false, not, ◌&&◌, ◌||◌, List, Option, refl, sym, ap, ◌∙◌}
use Rattle.std.specs.Prelude.{FitsSigned}
use Rattle.std.specs.Int.{w64}
use Rattle.std.specs.Ordering.{ordering_reverse}
use Rattle.std.specs.declared.cmp.Ordering.{Ordering}
use Rattle.tq_base.specs.RowValues.{value_at}
use Rattle.tq_base.specs.declared.key_range.KeyRange.{KeyRange}
use Rattle.tq_base.specs.declared.value.Value.{Value}
use Rattle.tq_base.specs.Contents.{Int}
use Rattle.tq_base.specs.KeyRanges.{IsInSomeRange}
use Rattle.tq_base.specs.ValueOrder.{value_cmp, value_total}
use Rattle.tq_condition.specs.declared.condition.Compare.{Compare}
use Rattle.tq_condition.specs.declared.condition.Operand.{Operand}
use Rattle.tq_condition.specs.declared.condition.Operand.TheVariants.{Column, Literal}
use Rattle.tq_condition.specs.declared.condition.Test.{Test}
use Rattle.tq_condition.specs.declared.condition.Test.TheVariants.{Is, And, Or, Not}
use Rattle.tq_condition.specs.Conditions.{accepts, operand_value, passes}
use Rattle.tq_condition.specs.KeyRanges.{HasValueRange, HasCompared, BoundsWithin}
use Rattle.tq_condition.specs.Known.{agrees}
use Rattle.tq_condition.proofs.Conditions.{passes-Is, passes-And, passes-Or, passes-Not}

-- ---- one comparison

-- a number compared with the place is the place compared with the number, by the reversed comparison
pub backwards : (left right : Operand) (op reversed : Compare) (value : Value) (column place : ℕ) (numbers : Option KeyRange) → left ≡ Literal value → right ≡ Column column → column ≡ place
    → ((order : Ordering) → accepts reversed order ≡ accepts op (ordering_reverse order)) → HasValueRange reversed value numbers → HasCompared left op right place numbers
backwards left right op reversed value column place numbers is_left is_right same turns beside row n at fits holds =
    beside n fits (turns (value_cmp (Int n) value) ∙ ap (accepts op) (sym (value_total.antisymm value (Int n))) ∙ sym compared ∙ holds)
  where
    compared : accepts op (value_cmp (operand_value left row) (operand_value right row)) ≡ accepts op (value_cmp value (Int n))
    compared =
        (λ i. accepts op (value_cmp (operand_value (is_left i) row) (operand_value (is_right i) row)))
        ∙ ap (λ p. accepts op (value_cmp value (value_at row p))) same
        ∙ ap (λ v. accepts op (value_cmp value v)) at

-- ---- parts

-- a number that the whole allows is one that the part allows within the range, or one of the others
abbrev pub Leads : Test → Bool → ℕ → Option KeyRange → Test → Bool → Option KeyRange → Option KeyRange → Type 0
Leads whole whole_wanted place whole_within part wanted within also =
    (row : List Value) (n : ℤ) → value_at row place ≡ Int n → FitsSigned w64 n → passes whole row ≡ whole_wanted → IsInSomeRange whole_within n
    → ((passes part row ≡ wanted) × IsInSomeRange within n) ⊎ IsInSomeRange also n

agrees_where : (b wanted : Bool) → b ≡ wanted → agrees b wanted ≡ true
agrees_where b true is = is
agrees_where b false is = ap not is

not_twice : (b wanted : Bool) → not b ≡ wanted → b ≡ not wanted
not_twice true wanted is = ap not is
not_twice false wanted is = ap not is

-- a comparison is the last step
pub ends : (whole part : Test) (whole_wanted wanted : Bool) (place : ℕ) (whole_within within also numbers common allowed : Option KeyRange) (left right : Operand) (op agreeing : Compare)
    → part ≡ Is left op right → ((o : Ordering) → accepts agreeing o ≡ agrees (accepts op o) wanted) → HasCompared left agreeing right place numbers
    → ((n : ℤ) → IsInSomeRange numbers n → IsInSomeRange within n → IsInSomeRange common n)
    → ((n : ℤ) → IsInSomeRange also n → IsInSomeRange allowed n) → ((n : ℤ) → IsInSomeRange common n → IsInSomeRange allowed n)
    → Leads whole whole_wanted place whole_within part wanted within also → BoundsWithin whole whole_wanted place whole_within allowed
ends whole part whole_wanted wanted place whole_within within also numbers common allowed left right op agreeing is agree compared both from_also from_common leads row n at fits passed inside =
    elim (leads row n at fits passed inside) as (λ found. IsInSomeRange allowed n) [
      | inl found ↦ from_common n (both n
          (compared row n at fits
          (agree (value_cmp (operand_value left row) (operand_value right row))
          ∙ agrees_where (accepts op (value_cmp (operand_value left row) (operand_value right row))) wanted (sym (passes-Is left op right row) ∙ ap (λ t. passes t row) (sym is) ∙ found.0)))
          found.1)
      | inr found ↦ from_also n found
    ]

-- a part that is negated
pub leads_not : (whole part inner : Test) (whole_wanted wanted : Bool) (place : ℕ) (whole_within within also : Option KeyRange) → part ≡ Not inner
    → Leads whole whole_wanted place whole_within part wanted within also → Leads whole whole_wanted place whole_within inner (not wanted) within also
leads_not whole part inner whole_wanted wanted place whole_within within also is leads row n at fits passed inside =
    elim (leads row n at fits passed inside) [
      | inl found ↦ inl (not_twice (passes inner row) wanted (sym (passes-Not inner row) ∙ ap (λ t. passes t row) (sym is) ∙ found.0), found.1)
      | inr found ↦ inr found
    ]

-- two parts that must both have the truth, or of which either suffices
abbrev pub Both : Test → Test → Test → Bool → Type 0
Both part first last wanted = (row : List Value) → passes part row ≡ wanted → (passes first row ≡ wanted) × (passes last row ≡ wanted)

abbrev pub Either : Test → Test → Test → Bool → Type 0
Either part first last wanted = (row : List Value) → passes part row ≡ wanted → (passes first row ≡ wanted) ⊎ (passes last row ≡ wanted)

leads_both : (whole part first last : Test) (whole_wanted wanted : Bool) (place : ℕ) (whole_within within also numbers narrow more : Option KeyRange)
    → Both part first last wanted → BoundsWithin last wanted place within numbers
    → ((n : ℤ) → IsInSomeRange numbers n → IsInSomeRange narrow n) → ((n : ℤ) → IsInSomeRange also n → IsInSomeRange more n)
    → Leads whole whole_wanted place whole_within part wanted within also → Leads whole whole_wanted place whole_within first wanted narrow more
leads_both whole part first last whole_wanted wanted place whole_within within also numbers narrow more both tells narrows keeps leads row n at fits passed inside =
    elim (leads row n at fits passed inside) [
      | inl found ↦ inl ((both row found.0).0, narrows n (tells row n at fits (both row found.0).1 found.1))
      | inr found ↦ inr (keeps n found)
    ]

leads_either : (whole part first last : Test) (whole_wanted wanted : Bool) (place : ℕ) (whole_within within also numbers narrow more : Option KeyRange)
    → Either part first last wanted → BoundsWithin last wanted place within numbers
    → ((n : ℤ) → IsInSomeRange within n → IsInSomeRange narrow n) → ((n : ℤ) → IsInSomeRange numbers n → IsInSomeRange more n) → ((n : ℤ) → IsInSomeRange also n → IsInSomeRange more n)
    → Leads whole whole_wanted place whole_within part wanted within also → Leads whole whole_wanted place whole_within first wanted narrow more
leads_either whole part first last whole_wanted wanted place whole_within within also numbers narrow more either tells stays adds keeps leads row n at fits passed inside =
    elim (leads row n at fits passed inside) [
      | inl found ↦ by_part found.1 (either row found.0)
      | inr found ↦ inr (keeps n found)
    ]
  where
    by_part : IsInSomeRange within n → (passes first row ≡ wanted) ⊎ (passes last row ≡ wanted) → ((passes first row ≡ wanted) × IsInSomeRange narrow n) ⊎ IsInSomeRange more n
    by_part is (inl comes) = inl (comes, stays n is)
    by_part is (inr comes) = inr (adds n (tells row n at fits comes is))

and_true : (a b : Bool) → (a && b) ≡ true → (a ≡ true) × (b ≡ true)
and_true true b is = (refl, is)
and_true false b is = cc

and_false : (a b : Bool) → (a && b) ≡ false → (a ≡ false) ⊎ (b ≡ false)
and_false true b is = inr is
and_false false b is = inl refl

or_true : (a b : Bool) → (a || b) ≡ true → (a ≡ true) ⊎ (b ≡ true)
or_true true b is = inl refl
or_true false b is = inr is

or_false : (a b : Bool) → (a || b) ≡ false → (a ≡ false) × (b ≡ false)
or_false true b is = cc
or_false false b is = (refl, is)

-- one more part of a pair
pub leads_and : (whole part first last : Test) (whole_wanted wanted : Bool) (place : ℕ) (whole_within within also numbers narrow more : Option KeyRange) → part ≡ And first last
    → BoundsWithin last wanted place within numbers
    → ((n : ℤ) → IsInSomeRange also n → IsInSomeRange more n)
    → (wanted ≡ true → (n : ℤ) → IsInSomeRange numbers n → IsInSomeRange narrow n)
    → (wanted ≡ false → (n : ℤ) → IsInSomeRange within n → IsInSomeRange narrow n)
    → (wanted ≡ false → (n : ℤ) → IsInSomeRange numbers n → IsInSomeRange more n)
    → Leads whole whole_wanted place whole_within part wanted within also → Leads whole whole_wanted place whole_within first wanted narrow more
leads_and whole part first last whole_wanted true place whole_within within also numbers narrow more is tells keeps narrows stays adds leads =
    leads_both whole part first last whole_wanted true place whole_within within also numbers narrow more
    (λ row came. and_true (passes first row) (passes last row) (sym (passes-And first last row) ∙ ap (λ t. passes t row) (sym is) ∙ came)) tells (narrows refl) keeps leads
leads_and whole part first last whole_wanted false place whole_within within also numbers narrow more is tells keeps narrows stays adds leads =
    leads_either whole part first last whole_wanted false place whole_within within also numbers narrow more
    (λ row came. and_false (passes first row) (passes last row) (sym (passes-And first last row) ∙ ap (λ t. passes t row) (sym is) ∙ came)) tells (stays refl) (adds refl) keeps leads

pub leads_or : (whole part first last : Test) (whole_wanted wanted : Bool) (place : ℕ) (whole_within within also numbers narrow more : Option KeyRange) → part ≡ Or first last
    → BoundsWithin last wanted place within numbers
    → ((n : ℤ) → IsInSomeRange also n → IsInSomeRange more n)
    → (not wanted ≡ true → (n : ℤ) → IsInSomeRange numbers n → IsInSomeRange narrow n)
    → (not wanted ≡ false → (n : ℤ) → IsInSomeRange within n → IsInSomeRange narrow n)
    → (not wanted ≡ false → (n : ℤ) → IsInSomeRange numbers n → IsInSomeRange more n)
    → Leads whole whole_wanted place whole_within part wanted within also → Leads whole whole_wanted place whole_within first wanted narrow more
leads_or whole part first last whole_wanted true place whole_within within also numbers narrow more is tells keeps narrows stays adds leads =
    leads_either whole part first last whole_wanted true place whole_within within also numbers narrow more
    (λ row came. or_true (passes first row) (passes last row) (sym (passes-Or first last row) ∙ ap (λ t. passes t row) (sym is) ∙ came)) tells (stays refl) (adds refl) keeps leads
leads_or whole part first last whole_wanted false place whole_within within also numbers narrow more is tells keeps narrows stays adds leads =
    leads_both whole part first last whole_wanted false place whole_within within also numbers narrow more
    (λ row came. or_false (passes first row) (passes last row) (sym (passes-Or first last row) ∙ ap (λ t. passes t row) (sym is) ∙ came)) tells (narrows refl) keeps leads
