use Rattle.std.proofs.Common.{sym, ap, ◌∙◌, arith}
use Rattle.tq_base.specs.ValueOrder.{value_cmp}
use Rattle.tq_condition.specs.Conditions.{accepts, passes}
use Rattle.tq_condition.specs.Ordinary.{projection}
use Rattle.tq_condition.specs.Steps.{all_rebuilt}
use Rattle.tq_condition.specs.declared.condition.Step.TheVariants as step
use Rattle.tq_condition.specs.declared.condition.Test.TheVariants.{And, Or, Not, Is}
use Rattle.tq_condition.proofs.Conditions.{passes-Is, weight, weight-And, weight-Or, weight-Not}
use Rattle.tq_condition.proofs.Rebuilding.{all_rebuilt_push, deeper, through_and, through_not, through_or}
use Rattle.tq_condition.proofs.condition.Test.+on_columns.Goals as goal

pub on_columns-requires-in-And : goal.on_columns-requires-in-And
on_columns-requires-in-And t c =
    (omega (arith, c.parts.invariant.no_deeper, ap weight c.in-And.is, weight-And c.in-And.first c.in-And.last, ap weight c.get.ensures), tt)

pub parts-smaller-in-And : goal.parts-smaller-in-And
parts-smaller-in-And t c = omega (arith, ap weight c.in-And.is, weight-And c.in-And.first c.in-And.last, ap weight c.get-part.ensures)

pub parts-preserved-in-And : goal.parts-preserved-in-And
parts-preserved-in-And t c = record {
  no_deeper = omega (arith, c.parts.invariant.no_deeper, ap weight c.in-And.is, weight-And c.in-And.first c.in-And.last, ap weight c.get-part.ensures);
  leads_back = deeper c.args.columns.now c.parts.steps.items c.push.new.self.items (step.And c.in_ok-on_columns-in-And.field-0) c.parts.part.now c.get-part.result.now c.args.self.now
      c.in_ok-push-in-And.ensures.items
      (through_and c.args.columns.now c.parts.part.now c.get-part.result.now c.get.result.now c.in_ok-on_columns-in-And.field-0
      (c.in-And.is ∙ ap (λ a. And a c.in-And.last) (sym c.get-part.ensures) ∙ ap (λ b. And c.get-part.result.now b) (sym c.get.ensures)) c.in_ok-on_columns-in-And.ensures)
      c.parts.invariant.leads_back;
}

pub on_columns-requires-in-Or : goal.on_columns-requires-in-Or
on_columns-requires-in-Or t c =
    (omega (arith, c.parts.invariant.no_deeper, ap weight c.in-Or.is, weight-Or c.in-Or.first c.in-Or.last, ap weight c.get-in-Or.ensures), tt)

pub parts-smaller-in-Or : goal.parts-smaller-in-Or
parts-smaller-in-Or t c = omega (arith, ap weight c.in-Or.is, weight-Or c.in-Or.first c.in-Or.last, ap weight c.get-part-in-Or.ensures)

pub parts-preserved-in-Or : goal.parts-preserved-in-Or
parts-preserved-in-Or t c = record {
  no_deeper = omega (arith, c.parts.invariant.no_deeper, ap weight c.in-Or.is, weight-Or c.in-Or.first c.in-Or.last, ap weight c.get-part-in-Or.ensures);
  leads_back = deeper c.args.columns.now c.parts.steps.items c.push-in-Or.new.self.items (step.Or c.in_ok-on_columns-in-Or.field-0) c.parts.part.now c.get-part-in-Or.result.now c.args.self.now
      c.in_ok-push-in-Or.ensures.items
      (through_or c.args.columns.now c.parts.part.now c.get-part-in-Or.result.now c.get-in-Or.result.now c.in_ok-on_columns-in-Or.field-0
      (c.in-Or.is ∙ ap (λ a. Or a c.in-Or.last) (sym c.get-part-in-Or.ensures) ∙ ap (λ b. Or c.get-part-in-Or.result.now b) (sym c.get-in-Or.ensures)) c.in_ok-on_columns-in-Or.ensures)
      c.parts.invariant.leads_back;
}

pub parts-smaller : goal.parts-smaller
parts-smaller t c = omega (arith, ap weight c.in-Not.is, weight-Not c.in-Not.inner, ap weight c.get-part-in-Not.ensures)

pub parts-preserved : goal.parts-preserved
parts-preserved t c = record {
  no_deeper = omega (arith, c.parts.invariant.no_deeper, ap weight c.in-Not.is, weight-Not c.in-Not.inner, ap weight c.get-part-in-Not.ensures);
  leads_back = deeper c.args.columns.now c.parts.steps.items c.push-in-Not.new.self.items step.Not c.parts.part.now c.get-part-in-Not.result.now c.args.self.now
      c.in_ok-push-in-Not.ensures.items
      (through_not c.args.columns.now c.parts.part.now c.get-part-in-Not.result.now (c.in-Not.is ∙ ap Not (sym c.get-part-in-Not.ensures)))
      c.parts.invariant.leads_back;
}

pub steps-init : goal.steps-init
steps-init t c row =
    let left = c.in_ok-on_columns-in-Is.field-0 in
    let right = c.in_ok-on_columns-in-Is-2.field-0 in
    let columns = projection c.args.columns.now row in
    c.parts.invariant.leads_back (Is left c.in-Is.op right) row
    (passes-Is left c.in-Is.op right row
    ∙ (λ i. accepts c.in-Is.op (value_cmp (c.in_ok-on_columns-in-Is.ensures row i) (c.in_ok-on_columns-in-Is-2.ensures row i)))
    ∙ sym (passes-Is c.in-Is.left c.in-Is.op c.in-Is.right columns)
    ∙ ap (λ t. passes t columns) (sym c.in-Is.is))

pub steps-preserved : goal.steps-preserved
steps-preserved t c row =
    ap (λ t. passes (all_rebuilt c.pop.new.self.items t) row) c.in_ok-copy.ensures
    ∙ ap (λ t. passes t row) (sym (all_rebuilt_push c.pop.new.self.items c.in-Some.step c.steps.copy))
    ∙ ap (λ l. passes (all_rebuilt l c.steps.copy) row) (sym c.in-Some.ensures.items) ∙ c.steps.invariant row
