use Rattle.tq_event.specs.Projection.{is_wanted}
use Rattle.std.proofs.Common.{◌≡◌, ◌+◌, ◌⊎◌, inl, inr, ap, ◌∙◌, subst, arith}
use Rattle.tq_condition.specs.declared.condition.Test.{Test}
use Rattle.tq_condition.specs.declared.condition.Test.TheVariants.{And, Or}
use Rattle.tq_condition.proofs.Conditions.{weight, weight-And, weight-Or, weight-Not}
use Rattle.tq_exec.specs.ColumnUse.{TestReads}
use Rattle.tq_exec.proofs.ColumnUseLemmas.{look_Is, look_Not, look_pair, operand_more, test_more}
use Rattle.tq_exec.proofs.required.+require_test.Goals as goal

-- a pair weighs more than its parts
weight_of_pair : (test one last : Test) → (test ≡ And one last) ⊎ (test ≡ Or one last) → weight test ≡ weight one + weight last + 1
weight_of_pair test one last (inl is) = ap weight is ∙ weight-And one last
weight_of_pair test one last (inr is) = ap weight is ∙ weight-Or one last

pub returns-in-Is : goal.returns-in-Is
returns-in-Is t c =
    let first = c.require_operand in
    let last = c.require_operand-in-Is in
    let now = last.new.places.items in
    record {
      required =
          c.parts.invariant.leads now (λ place is. last.ensures.more place (first.ensures.more place is))
          (look_Is (is_wanted now) c.parts.part.now c.in-Is.left c.in-Is.right c.in-Is.op c.in-Is.is (operand_more c.in-Is.left first.new.places.items now last.ensures.more first.ensures.required) last.ensures.required);
      more = λ place is. last.ensures.more place (first.ensures.more place (c.parts.invariant.more place is));
    }

pub parts-smaller-in-Not-1 : goal.parts-smaller-in-Not-1
parts-smaller-in-Not-1 t c = omega (arith, ap weight c.in-Not.is, weight-Not c.in-Not.inner, ap weight c.get-part.ensures)

pub parts-preserved-in-Not-1 : goal.parts-preserved-in-Not-1
parts-preserved-in-Not-1 t c = record {
  no_heavier = omega (arith, c.parts.invariant.no_heavier, ap weight c.in-Not.is, weight-Not c.in-Not.inner, ap weight c.get-part.ensures);
  more = c.parts.invariant.more;
  leads = λ new more required.
      c.parts.invariant.leads new more (look_Not (is_wanted new) c.parts.part.now c.in-Not.inner c.in-Not.is (subst (TestReads (is_wanted new)) c.get-part.ensures required));
}

pub require_test-requires : goal.require_test-requires
require_test-requires t c =
    (omega (arith, c.parts.invariant.no_heavier, weight_of_pair c.parts.part.now c.in-And.first c.in-And.last c.in-And.is, ap weight c.get.ensures), tt)

pub parts-smaller : goal.parts-smaller
parts-smaller t c = omega (arith, weight_of_pair c.parts.part.now c.in-And.first c.in-And.last c.in-And.is, ap weight c.get-part-in-And.ensures)

pub parts-preserved : goal.parts-preserved
parts-preserved t c =
    let mid = c.require_test.new.places.items in
    record {
      no_heavier = omega (arith, c.parts.invariant.no_heavier, weight_of_pair c.parts.part.now c.in-And.first c.in-And.last c.in-And.is, ap weight c.get-part-in-And.ensures);
      more = λ place is. c.require_test.ensures.more place (c.parts.invariant.more place is);
      leads = λ new more required.
          c.parts.invariant.leads new (λ place is. more place (c.require_test.ensures.more place is))
          (look_pair (is_wanted new) c.parts.part.now c.in-And.first c.in-And.last c.in-And.is
          (subst (TestReads (is_wanted new)) c.get-part-in-And.ensures required)
          (subst (TestReads (is_wanted new)) c.get.ensures (test_more c.get.result.now mid new more c.require_test.ensures.required)));
    }
