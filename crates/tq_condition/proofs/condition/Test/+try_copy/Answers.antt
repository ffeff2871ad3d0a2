use Rattle.std.proofs.Common.{◌≡◌, ◌++◌, ◌∷◌, [], List, sym, ap, ◌∙◌, arith}
use Rattle.tq_condition.specs.declared.condition.Step.{Step}
use Rattle.tq_condition.specs.declared.condition.Step.TheVariants as step
use Rattle.tq_condition.specs.declared.condition.Test.{Test}
use Rattle.tq_condition.specs.declared.condition.Test.TheVariants.{And, Or, Not}
use Rattle.tq_condition.specs.Steps.{rebuilt, all_rebuilt}
use Rattle.tq_condition.proofs.Conditions.{weight, weight-And, weight-Or, weight-Not}
use Rattle.tq_condition.proofs.Rebuilding.{all_rebuilt_push}
use Rattle.tq_condition.proofs.condition.Test.+try_copy.Goals as goal

-- one more step down
deeper : (steps new : List Step) (s : Step) (part next whole : Test) → new ≡ steps ++ s ∷ [] → part ≡ rebuilt s next → all_rebuilt steps part ≡ whole → all_rebuilt new next ≡ whole
deeper steps new s part next whole pushed is leads =
    ap (λ l. all_rebuilt l next) pushed ∙ all_rebuilt_push steps s next ∙ ap (all_rebuilt steps) (sym is) ∙ leads

pub parts-preserved-in-And : goal.parts-preserved-in-And
parts-preserved-in-And t c = record {
  no_deeper = omega (arith, c.parts.invariant.no_deeper, ap weight c.in-And.is, weight-And c.in-And.first c.in-And.last, ap weight c.get-part.ensures);
  leads_back = deeper c.parts.steps.items c.push.new.self.items (step.And c.in_ok-try_copy-in-And.field-0) c.parts.part.now c.get-part.result.now c.args.self.now
      c.in_ok-push-in-And.ensures.items
      (c.in-And.is ∙ ap (λ a. And a c.in-And.last) (sym c.get-part.ensures) ∙ ap (λ b. And c.get-part.result.now b) (sym (c.in_ok-try_copy-in-And.ensures ∙ c.get.ensures)))
      c.parts.invariant.leads_back;
}

pub parts-preserved-in-Or : goal.parts-preserved-in-Or
parts-preserved-in-Or t c = record {
  no_deeper = omega (arith, c.parts.invariant.no_deeper, ap weight c.in-Or.is, weight-Or c.in-Or.first c.in-Or.last, ap weight c.get-part-in-Or.ensures);
  leads_back = deeper c.parts.steps.items c.push-in-Or.new.self.items (step.Or c.in_ok-try_copy-in-Or.field-0) c.parts.part.now c.get-part-in-Or.result.now c.args.self.now
      c.in_ok-push-in-Or.ensures.items
      (c.in-Or.is ∙ ap (λ a. Or a c.in-Or.last) (sym c.get-part-in-Or.ensures) ∙ ap (λ b. Or c.get-part-in-Or.result.now b) (sym (c.in_ok-try_copy-in-Or.ensures ∙ c.get-in-Or.ensures)))
      c.parts.invariant.leads_back;
}

pub parts-preserved : goal.parts-preserved
parts-preserved t c = record {
  no_deeper = omega (arith, c.parts.invariant.no_deeper, ap weight c.in-Not.is, weight-Not c.in-Not.inner, ap weight c.get-part-in-Not.ensures);
  leads_back = deeper c.parts.steps.items c.push-in-Not.new.self.items step.Not c.parts.part.now c.get-part-in-Not.result.now c.args.self.now
      c.in_ok-push-in-Not.ensures.items
      (c.in-Not.is ∙ ap Not (sym c.get-part-in-Not.ensures))
      c.parts.invariant.leads_back;
}

pub try_copy-requires-in-And : goal.try_copy-requires-in-And
try_copy-requires-in-And t c =
    omega (arith, c.parts.invariant.no_deeper, ap weight c.in-And.is, weight-And c.in-And.first c.in-And.last, ap weight c.get.ensures)

pub parts-smaller-in-And : goal.parts-smaller-in-And
parts-smaller-in-And t c = omega (arith, ap weight c.in-And.is, weight-And c.in-And.first c.in-And.last, ap weight c.get-part.ensures)

pub try_copy-requires-in-Or : goal.try_copy-requires-in-Or
try_copy-requires-in-Or t c =
    omega (arith, c.parts.invariant.no_deeper, ap weight c.in-Or.is, weight-Or c.in-Or.first c.in-Or.last, ap weight c.get-in-Or.ensures)

pub parts-smaller-in-Or : goal.parts-smaller-in-Or
parts-smaller-in-Or t c = omega (arith, ap weight c.in-Or.is, weight-Or c.in-Or.first c.in-Or.last, ap weight c.get-part-in-Or.ensures)

pub parts-smaller : goal.parts-smaller
parts-smaller t c = omega (arith, ap weight c.in-Not.is, weight-Not c.in-Not.inner, ap weight c.get-part-in-Not.ensures)

pub steps-preserved : goal.steps-preserved
steps-preserved t c =
    ap (all_rebuilt c.pop.new.self.items) c.in_ok-copy.ensures
    ∙ sym (all_rebuilt_push c.pop.new.self.items c.in-Some.step c.steps.copy)
    ∙ ap (λ l. all_rebuilt l c.steps.copy) (sym c.in-Some.ensures.items) ∙ c.steps.invariant
