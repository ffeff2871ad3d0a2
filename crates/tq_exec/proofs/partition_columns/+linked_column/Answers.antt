use Rattle.std.proofs.Common.{ap, arith, subst, sym}
use Rattle.std.specs.Prelude.{IsTrue}
use Rattle.tq_condition.specs.Conditions.{passes}
use Rattle.tq_condition.proofs.Conditions.{weight, weight-And}
use Rattle.tq_exec.proofs.ColumnLemmas.{both_pass}
use Rattle.tq_exec.proofs.partition_columns.+linked_column.Goals as goal

pub linked_column-requires : goal.linked_column-requires
linked_column-requires t c = (omega (arith, c.parts.invariant.no_heavier, ap weight c.in-And.is, weight-And c.in-And.first c.in-And.last, ap weight c.get.ensures), tt)

pub returns-in-Some : goal.returns-in-Some
returns-in-Some t c row passed =
    c.in-Some.ensures row (subst (λ p. IsTrue (passes p row)) (sym c.get.ensures) (both_pass c.parts.part.now c.in-And.first c.in-And.last c.in-And.is row (c.parts.invariant.whole row passed)).1)

pub parts-smaller : goal.parts-smaller
parts-smaller t c = omega (arith, ap weight c.in-And.is, weight-And c.in-And.first c.in-And.last, ap weight c.get-part.ensures)

pub parts-preserved : goal.parts-preserved
parts-preserved t c = record {
  no_heavier = omega (arith, c.parts.invariant.no_heavier, ap weight c.in-And.is, weight-And c.in-And.first c.in-And.last, ap weight c.get-part.ensures);
  whole = λ row passed. subst (λ p. IsTrue (passes p row)) (sym c.get-part.ensures) (both_pass c.parts.part.now c.in-And.first c.in-And.last c.in-And.is row (c.parts.invariant.whole row passed)).0;
}
