-- Columns that a condition wants to be equal.
use Rattle.std.proofs.Common.{◌≡◌, ℕ, Bool, true, false, ◌&&◌, Option, Some, None, refl, sym, ap, ◌∙◌}
use Rattle.std.specs.Prelude.{IfSome, IsTrue}
use Rattle.std.specs.declared.cmp.Ordering.{Ordering}
use Rattle.std.specs.declared.cmp.Ordering.TheVariants.{Less, Equal, Greater}
use Rattle.tq_base.specs.RowValues.{value_at}
use Rattle.tq_base.specs.ValueOrder.{value_cmp, value_same}
use Rattle.tq_agg.specs.Grouping.{Row}
use Rattle.tq_condition.specs.declared.condition.Operand.{Operand}
use Rattle.tq_condition.specs.declared.condition.Compare.{Compare}
use Rattle.tq_condition.specs.declared.condition.Compare.TheVariants.{Eq}
use Rattle.tq_condition.specs.declared.condition.Test.{Test}
use Rattle.tq_condition.specs.declared.condition.Test.TheVariants.{And, Is}
use Rattle.tq_condition.specs.Conditions.{accepts, operand_value, passes}
use Rattle.tq_condition.proofs.Conditions.{passes-And, passes-Is}
use Rattle.tq_plan.specs.declared.plans.QuerySource.{QuerySource}
use Rattle.tq_exec.specs.Scan.{part_of}

-- a row that passes a comparison for equality has equal operands
pub equal_operands : (part : Test) (left right : Operand) (op : Compare) → part ≡ Is left op right → op ≡ Eq → (row : Row) → IsTrue (passes part row) → operand_value left row ≡ operand_value right row
equal_operands part left right op is eq row passed =
    by (value_cmp (operand_value left row) (operand_value right row)) (value_same (operand_value left row) (operand_value right row))
    (sym (ap (λ p. passes p row) is ∙ passes-Is left op right row ∙ (λ i. accepts (eq i) (value_cmp (operand_value left row) (operand_value right row)))) ∙ passed)
  where
    by : (order : Ordering) → (order ≡ Equal → operand_value left row ≡ operand_value right row) → accepts Eq order ≡ true → operand_value left row ≡ operand_value right row
    by Less same is = cc is
    by Equal same is = same refl
    by Greater same is = cc is

-- a column of the source that has what the row has in one column has what it has in an equal one
pub in_equal : (found : Option ℕ) (source : QuerySource) (Holds : Row → Type 0) (one place : ℕ) → ((row : Row) → Holds row → value_at row one ≡ value_at row place)
    → IfSome found (λ column. (row : Row) → value_at (part_of source row) column ≡ value_at row one)
    → IfSome found (λ column. (row : Row) → Holds row → value_at (part_of source row) column ≡ value_at row place)
in_equal None source Holds one place same has = tt
in_equal (Some column) source Holds one place same has = λ row holds. has row ∙ same row holds

-- what holds of rows holds of those of them that something else holds of
pub of_whole : (found : Option ℕ) (source : QuerySource) (Holds Whole : Row → Type 0) (place : ℕ) → ((row : Row) → Whole row → Holds row)
    → IfSome found (λ column. (row : Row) → Holds row → value_at (part_of source row) column ≡ value_at row place)
    → IfSome found (λ column. (row : Row) → Whole row → value_at (part_of source row) column ≡ value_at row place)
of_whole None source Holds Whole place whole has = tt
of_whole (Some column) source Holds Whole place whole has = λ row holds. has row (whole row holds)

-- a row that passes an AND passes both parts
pub both_pass : (test first last : Test) → test ≡ And first last → (row : Row) → IsTrue (passes test row) → IsTrue (passes first row) × IsTrue (passes last row)
both_pass test first last is row passed = by (passes first row) (passes last row) refl refl (sym (ap (λ t. passes t row) is ∙ passes-And first last row) ∙ passed)
  where
    by : (a b : Bool) → passes first row ≡ a → passes last row ≡ b → (passes first row && passes last row) ≡ true → IsTrue (passes first row) × IsTrue (passes last row)
    by true true one other both = (one, other)
    by true false one other both = cc (rw (one, other) at both)
    by false b one other both = cc (rw one at both)
