-- The planned condition: the same condition over places of the joined row. After SQL; a comparison of a number with a
-- text is a fault.
use Rattle.std.specs.Prelude.{Bool, true, false, if◌then◌else◌, List, Option, Some, None, Result, Ok, Err}
use Rattle.tq_base.specs.declared.catalogue.Kind.{Kind}
use Rattle.tq_base.specs.declared.catalogue.Kind.TheVariants as kind
use Rattle.tq_base.specs.Contents as value
use Rattle.tq_base.specs.Results.{and_then}
use Rattle.tq_condition.specs.declared.condition.Operand.{Operand}
use Rattle.tq_condition.specs.declared.condition.Operand.TheVariants as operand
use Rattle.tq_condition.specs.declared.condition.Compare.{Compare}
use Rattle.tq_condition.specs.declared.condition.Compare.TheVariants as compare
use Rattle.tq_condition.specs.declared.condition.Test.{Test}
use Rattle.tq_condition.specs.declared.condition.Test.TheVariants as test
use Rattle.tq_sql.specs.declared.statement.Term.{Term}
use Rattle.tq_sql.specs.declared.statement.Term.TheVariants as term
use Rattle.tq_sql.specs.declared.statement.Sign.{Sign}
use Rattle.tq_sql.specs.declared.statement.Sign.TheVariants as sign
use Rattle.tq_sql.specs.declared.statement.Cond.{Cond, fold-Cond}
use Rattle.tq_sql.specs.declared.statement.Cond.TheOpen.{Cond-F}
use Rattle.tq_plan.specs.declared.fault.PlanFault.{PlanFault}
use Rattle.tq_plan.specs.declared.fault.PlanFault.TheVariants.{TypeMismatch}
use Rattle.tq_plan.specs.Scope.{Field, resolved}

-- the planned operand, and its kind
abbrev pub operand_of : List Field → Term → Result (Operand × Kind) PlanFault
operand_of fields (term.Column column) = and_then (resolved fields column) (λ meaning. Ok (operand.Column meaning.0, meaning.1))
operand_of fields (term.Int number) = Ok (operand.Literal (value.Int number), kind.Int)
operand_of fields (term.Text text) = Ok (operand.Literal (value.Text text), kind.Text)

abbrev pub compare_of : Sign → Compare
compare_of sign.Eq = compare.Eq
compare_of sign.Ne = compare.Ne
compare_of sign.Lt = compare.Lt
compare_of sign.Le = compare.Le
compare_of sign.Gt = compare.Gt
compare_of sign.Ge = compare.Ge

abbrev pub same_kind : Kind → Kind → Bool
same_kind kind.Int kind.Int = true
same_kind kind.Int kind.Text = false
same_kind kind.Text kind.Int = false
same_kind kind.Text kind.Text = true

abbrev pub compared : Sign → Operand × Kind → Operand × Kind → Result Test PlanFault
compared sign left right = if same_kind left.1 right.1 then Ok (test.Is left.0 (compare_of sign) right.0) else Err TypeMismatch

abbrev pub comparison_of : List Field → Term → Sign → Term → Result Test PlanFault
comparison_of fields left sign right =
    and_then (operand_of fields left) (λ l. and_then (operand_of fields right) (λ r. compared sign l r))

-- one part and then the other, from the left
abbrev pub both : (Test → Test → Test) → Result Test PlanFault → Result Test PlanFault → Result Test PlanFault
both joined first last = and_then first (λ a. and_then last (λ b. Ok (joined a b)))

abbrev pub negated : Result Test PlanFault → Result Test PlanFault
negated inner = and_then inner (λ a. Ok (test.Not a))

-- one level of a condition whose parts are planned
abbrev pub test_step : List Field → Cond-F (Result Test PlanFault) → Result Test PlanFault
test_step fields (Cond-F.Is left sign right) = comparison_of fields left sign right
test_step fields (Cond-F.And a b) = both test.And a b
test_step fields (Cond-F.Or a b) = both test.Or a b
test_step fields (Cond-F.Not a) = negated a

-- the planned condition, or the first fault from the left
unfoldable pub test_of : List Field → Cond → Result Test PlanFault
test_of fields cond = fold-Cond (Result Test PlanFault) (test_step fields) cond

-- the planned condition after WHERE, if there is one
abbrev pub where_of : List Field → Option Cond → Result (Option Test) PlanFault
where_of fields None = Ok None
where_of fields (Some cond) = and_then (test_of fields cond) (λ test. Ok (Some test))
