use Rattle.std.proofs.Common.{Ok, map, sym, ap, ◌∙◌, arith}
use Rattle.std.proofs.lemmas.Result.{err_from_is_err_and}
use Rattle.tq_condition.specs.declared.condition.Test.TheVariants as test
use Rattle.tq_plan.specs.declared.conditions.Step.TheVariants as step
use Rattle.tq_plan.specs.Conditions.{both, negated, test_of}
use Rattle.tq_plan.specs.Views.{field_view}
use Rattle.tq_plan.specs.Steps.{all_rebuilt}
use Rattle.tq_plan.proofs.ConditionLemmas.{test_of-Is, test_of-And, test_of-Or, test_of-Not, weight, weight-And, weight-Or, weight-Not, all_undone_push, all_undone_fault, deeper, told_is}
use Rattle.tq_plan.proofs.conditions.+plan_condition.Goals as goal

pub parts-init : goal.parts-init
parts-init t c = record {
  no_deeper = omega arith;
  leads_back = ap (λ l. all_rebuilt l (test_of (map field_view c.args.fields.now) c.args.cond.now)) c.new-steps.ensures.items;
}

pub returns-in_err-test-in-Is-clause-fault : goal.returns-in_err-test-in-Is-clause-fault
returns-in_err-test-in-Is-clause-fault t c =
    let p = err_from_is_err_and c.from_residual.result c.from_residual.ensures.1 in
    rw (p.1, p.2) (λ known.
    sym c.parts.invariant.leads_back
    ∙ ap (all_rebuilt c.parts.steps.items) (ap (test_of (map field_view c.args.fields.now)) c.in-Is.is ∙ test_of-Is (map field_view c.args.fields.now) c.in-Is.left c.in-Is.sign c.in-Is.right ∙ c.in_err-test-in-Is.ensures.fault known)
    ∙ all_undone_fault c.parts.steps.items c.in_err-test-in-Is.field-0.0)

pub plan_condition-requires : goal.plan_condition-requires
plan_condition-requires t c =
    omega (arith, c.parts.invariant.no_deeper, ap weight c.in-And.is, weight-And c.in-And.first c.in-And.last, ap weight c.get.ensures)

pub parts-preserved-in-And : goal.parts-preserved-in-And
parts-preserved-in-And t c = record {
  no_deeper = omega (arith, c.parts.invariant.no_deeper, ap weight c.in-And.is, weight-And c.in-And.first c.in-And.last, ap weight c.get-part.ensures);
  leads_back = deeper c.parts.steps.items c.push.new.items.items (step.And c.in_ok-last-in-And.last)
      (test_of (map field_view c.args.fields.now) c.parts.part.now) (test_of (map field_view c.args.fields.now) c.get-part.result.now) (test_of (map field_view c.args.fields.now) c.args.cond.now)
      c.in_ok-push-in-And.ensures
      (ap (test_of (map field_view c.args.fields.now)) c.in-And.is ∙ test_of-And (map field_view c.args.fields.now) c.in-And.first c.in-And.last
      ∙ ap (λ a. both test.And (test_of (map field_view c.args.fields.now) a) (test_of (map field_view c.args.fields.now) c.in-And.last)) (sym c.get-part.ensures)
      ∙ ap (λ r. both test.And (test_of (map field_view c.args.fields.now) c.get-part.result.now) r)
      (ap (test_of (map field_view c.args.fields.now)) (sym c.get.ensures)
      ∙ told_is (test_of (map field_view c.args.fields.now) c.get.result.now) c.in_ok-last-in-And.last c.plan_condition.result c.in_ok-last-in-And.ensures.same c.in_ok-last-in-And.ensures.known c.plan_condition.ensures.test c.plan_condition.ensures.fault))
      c.parts.invariant.leads_back;
}

pub plan_condition-requires-in-Or : goal.plan_condition-requires-in-Or
plan_condition-requires-in-Or t c =
    omega (arith, c.parts.invariant.no_deeper, ap weight c.in-Or.is, weight-Or c.in-Or.first c.in-Or.last, ap weight c.get-in-Or.ensures)

pub parts-smaller-in-And : goal.parts-smaller-in-And
parts-smaller-in-And t c = omega (arith, ap weight c.in-And.is, weight-And c.in-And.first c.in-And.last, ap weight c.get-part.ensures)

pub parts-smaller-in-Or : goal.parts-smaller-in-Or
parts-smaller-in-Or t c = omega (arith, ap weight c.in-Or.is, weight-Or c.in-Or.first c.in-Or.last, ap weight c.get-part-in-Or.ensures)

pub parts-smaller : goal.parts-smaller
parts-smaller t c = omega (arith, ap weight c.in-Not.is, weight-Not c.in-Not.inner, ap weight c.get-part-in-Not.ensures)

pub parts-preserved-in-Or : goal.parts-preserved-in-Or
parts-preserved-in-Or t c = record {
  no_deeper = omega (arith, c.parts.invariant.no_deeper, ap weight c.in-Or.is, weight-Or c.in-Or.first c.in-Or.last, ap weight c.get-part-in-Or.ensures);
  leads_back = deeper c.parts.steps.items c.push-in-Or.new.items.items (step.Or c.in_ok-last-in-Or.last)
      (test_of (map field_view c.args.fields.now) c.parts.part.now) (test_of (map field_view c.args.fields.now) c.get-part-in-Or.result.now) (test_of (map field_view c.args.fields.now) c.args.cond.now)
      c.in_ok-push-in-Or.ensures
      (ap (test_of (map field_view c.args.fields.now)) c.in-Or.is ∙ test_of-Or (map field_view c.args.fields.now) c.in-Or.first c.in-Or.last
      ∙ ap (λ a. both test.Or (test_of (map field_view c.args.fields.now) a) (test_of (map field_view c.args.fields.now) c.in-Or.last)) (sym c.get-part-in-Or.ensures)
      ∙ ap (λ r. both test.Or (test_of (map field_view c.args.fields.now) c.get-part-in-Or.result.now) r)
      (ap (test_of (map field_view c.args.fields.now)) (sym c.get-in-Or.ensures)
      ∙ told_is (test_of (map field_view c.args.fields.now) c.get-in-Or.result.now) c.in_ok-last-in-Or.last c.plan_condition-in-Or.result c.in_ok-last-in-Or.ensures.same c.in_ok-last-in-Or.ensures.known c.plan_condition-in-Or.ensures.test c.plan_condition-in-Or.ensures.fault))
      c.parts.invariant.leads_back;
}

pub parts-preserved : goal.parts-preserved
parts-preserved t c = record {
  no_deeper = omega (arith, c.parts.invariant.no_deeper, ap weight c.in-Not.is, weight-Not c.in-Not.inner, ap weight c.get-part-in-Not.ensures);
  leads_back = deeper c.parts.steps.items c.push-in-Not.new.items.items step.Not
      (test_of (map field_view c.args.fields.now) c.parts.part.now) (test_of (map field_view c.args.fields.now) c.get-part-in-Not.result.now) (test_of (map field_view c.args.fields.now) c.args.cond.now)
      c.in_ok-push-in-Not.ensures
      (ap (test_of (map field_view c.args.fields.now)) c.in-Not.is ∙ test_of-Not (map field_view c.args.fields.now) c.in-Not.inner ∙ ap (λ a. negated (test_of (map field_view c.args.fields.now) a)) (sym c.get-part-in-Not.ensures))
      c.parts.invariant.leads_back;
}

pub steps-init : goal.steps-init
steps-init t c = sym c.parts.invariant.leads_back
    ∙ ap (all_rebuilt c.parts.steps.items) (ap (test_of (map field_view c.args.fields.now)) c.in-Is.is ∙ test_of-Is (map field_view c.args.fields.now) c.in-Is.left c.in-Is.sign c.in-Is.right ∙ c.in_ok-test-in-Is.ensures.test)

pub returns-in_err-test-clause-fault : goal.returns-in_err-test-clause-fault
returns-in_err-test-clause-fault t c =
    let p = err_from_is_err_and c.from_residual-in_err-test.result c.from_residual-in_err-test.ensures.1 in
    rw (p.1, p.2) (λ known.
    c.steps.invariant
    ∙ ap (λ l. all_rebuilt l (Ok c.steps.test)) c.in-Some.ensures.items
    ∙ all_undone_push c.pop.new.self.items c.in-Some.step (Ok c.steps.test)
    ∙ ap (all_rebuilt c.pop.new.self.items) (c.in_err-test.ensures.fault known)
    ∙ all_undone_fault c.pop.new.self.items c.in_err-test.field-0.0)

pub steps-smaller : goal.steps-smaller
steps-smaller t c = omega (arith, c.in-Some.ensures.len)

pub steps-preserved : goal.steps-preserved
steps-preserved t c = c.steps.invariant
    ∙ ap (λ l. all_rebuilt l (Ok c.steps.test)) c.in-Some.ensures.items
    ∙ all_undone_push c.pop.new.self.items c.in-Some.step (Ok c.steps.test)
    ∙ ap (all_rebuilt c.pop.new.self.items) c.in_ok-test.ensures.test
