-- Numbers in a column that are sufficient for a condition.
use Rattle.std.proofs.Common.{◌≡◌, ℕ, ℤ, Bool, true, false, ◌&&◌, List, Option, Some, None, refl, sym, subst, ap, ◌∙◌}
use Rattle.std.specs.Prelude.{IfSome, T, int_le}
use Rattle.std.specs.Int.Signed.{le_z_yes}
use Rattle.std.proofs.lemmas.Bool.{and_parts, false≢true}
use Rattle.tq_base.specs.RowValues.{value_at}
use Rattle.tq_base.specs.declared.key_range.KeyRange.{KeyRange}
use Rattle.tq_base.specs.declared.value.Value.{Value}
use Rattle.tq_base.specs.Contents.{Int, Text}
use Rattle.tq_base.specs.KeyRanges.{is_number_in, IsInRange}
use Rattle.tq_base.specs.ValueOrder.{value_cmp}
use Rattle.tq_condition.specs.declared.condition.Compare.{Compare}
use Rattle.tq_condition.specs.declared.condition.Operand.{Operand}
use Rattle.tq_condition.specs.declared.condition.Test.{Test}
use Rattle.tq_condition.specs.declared.condition.Test.TheVariants.{Is, And}
use Rattle.tq_condition.specs.Conditions.{accepts, operand_value, passes}
use Rattle.tq_condition.specs.KeyRanges.{IsSufficient}
use Rattle.tq_condition.proofs.Conditions.{passes-Is, passes-And}

-- for a comparison
pub enough_is : (test : Test) (left right : Operand) (op : Compare) (column : ℕ) (range : KeyRange) → test ≡ Is left op right
    → ((row : List Value) (n : ℤ) → value_at row column ≡ Int n → IsInRange range n → accepts op (value_cmp (operand_value left row) (operand_value right row)) ≡ true) → IsSufficient test column range
enough_is test left right op column range is holds row n at within = ap (λ t. passes t row) is ∙ passes-Is left op right row ∙ holds row n at within

both_true : (a b : Bool) → a ≡ true → b ≡ true → (a && b) ≡ true
both_true true b one other = other
both_true false b one other = one

-- for two parts that must both hold
pub enough_and : (test first last : Test) (column one other : ℕ) (range narrow more : KeyRange) → test ≡ And first last → IsSufficient first one narrow → IsSufficient last other more → column ≡ one → column ≡ other
    → ((n : ℤ) → IsInRange range n → IsInRange narrow n) → ((n : ℤ) → IsInRange range n → IsInRange more n) → IsSufficient test column range
enough_and test first last column one other range narrow more is sufficient_range enough_too same same_too within within_too row n at inside =
    ap (λ t. passes t row) is ∙ passes-And first last row
    ∙ both_true (passes first row) (passes last row)
    (sufficient_range row n (sym (ap (value_at row) same) ∙ at) (within n inside))
    (enough_too row n (sym (ap (value_at row) same_too) ∙ at) (within_too n inside))

-- a consequence of four facts about an optional value
pub if_four : {X : Type 0} {A B C D Q : X → Type 0} (r : Option X) → IfSome r A → IfSome r B → IfSome r C → IfSome r D → ((x : X) → A x → B x → C x → D x → Q x) → IfSome r Q
if_four None a b c d f = tt
if_four (Some x) a b c d f = f x a b c d

-- a value that is a number of a range
pub number_there : (range : KeyRange) (value : Value) → is_number_in range value ≡ true → (n : ℤ) × (value ≡ Int n) × IsInRange range n
number_there range (Int n) allowed =
    let both = and_parts (int_le range.low n) (int_le n range.high) allowed in
    (n, refl, (le_z_yes (subst (λ b. T b) (sym both.0) tt), le_z_yes (subst (λ b. T b) (sym both.1) tt)))
number_there range (Text t) allowed = absurd (false≢true allowed)
