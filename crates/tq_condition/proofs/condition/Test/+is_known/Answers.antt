use Rattle.std.proofs.Common.{◌≡◌, ℕ, ◌+◌, ◌⊎◌, inl, inr, ap, ◌∙◌, subst, arith}
use Rattle.tq_condition.specs.declared.condition.Test.{Test}
use Rattle.tq_condition.specs.declared.condition.Test.TheVariants.{And, Or}
use Rattle.tq_condition.specs.Known.{IsKnownTest}
use Rattle.tq_condition.proofs.Conditions.{weight, weight-And, weight-Or, weight-Not}
use Rattle.tq_condition.proofs.Knowing.{known_Is, known_And, known_Or, known_Not}
use Rattle.tq_condition.proofs.condition.Test.+is_known.Goals as goal

-- a pair weighs more than its parts, and is known if they are
weight_of_pair : (test one last : Test) → (test ≡ And one last) ⊎ (test ≡ Or one last) → weight test ≡ weight one + weight last + 1
weight_of_pair test one last (inl is) = ap weight is ∙ weight-And one last
weight_of_pair test one last (inr is) = ap weight is ∙ weight-Or one last

known_pair : (test one last : Test) (first count : ℕ) → (test ≡ And one last) ⊎ (test ≡ Or one last) → IsKnownTest one first count → IsKnownTest last first count → IsKnownTest test first count
known_pair test one last first count (inl is) on_one on_last = known_And test one last first count is on_one on_last
known_pair test one last first count (inr is) on_one on_last = known_Or test one last first count is on_one on_last

pub returns-then-is_known : goal.returns-then-is_known
returns-then-is_known t c allowed =
    c.parts.invariant.leads (known_Is c.parts.part.now c.in-Is.left c.in-Is.op c.in-Is.right c.args.first c.args.count c.in-Is.is (c.is_known.ensures c.if-is_known.true) (c.is_known-then-is_known.ensures allowed))

pub parts-smaller-in-Not-1 : goal.parts-smaller-in-Not-1
parts-smaller-in-Not-1 t c = omega (arith, ap weight c.in-Not.is, weight-Not c.in-Not.inner, ap weight c.get-part.ensures)

pub parts-preserved-in-Not-1 : goal.parts-preserved-in-Not-1
parts-preserved-in-Not-1 t c = record {
  no_deeper = omega (arith, c.parts.invariant.no_deeper, ap weight c.in-Not.is, weight-Not c.in-Not.inner, ap weight c.get-part.ensures);
  leads = λ allowed. c.parts.invariant.leads (known_Not c.parts.part.now c.in-Not.inner c.args.first c.args.count c.in-Not.is (subst (λ p. IsKnownTest p c.args.first c.args.count) c.get-part.ensures allowed));
}

pub is_known-requires-in-And : goal.is_known-requires-in-And
is_known-requires-in-And t c =
    (omega (arith, c.parts.invariant.no_deeper, weight_of_pair c.parts.part.now c.in-And.one c.in-And.last c.in-And.is, ap weight c.get.ensures), tt)

pub parts-smaller : goal.parts-smaller
parts-smaller t c = omega (arith, weight_of_pair c.parts.part.now c.in-And.one c.in-And.last c.in-And.is, ap weight c.get-part-in-And.ensures)

pub parts-preserved : goal.parts-preserved
parts-preserved t c = record {
  no_deeper = omega (arith, c.parts.invariant.no_deeper, weight_of_pair c.parts.part.now c.in-And.one c.in-And.last c.in-And.is, ap weight c.get-part-in-And.ensures);
  leads = λ allowed.
      c.parts.invariant.leads
      (known_pair c.parts.part.now c.in-And.one c.in-And.last c.args.first c.args.count c.in-And.is
      (subst (λ p. IsKnownTest p c.args.first c.args.count) c.get-part-in-And.ensures allowed)
      (subst (λ p. IsKnownTest p c.args.first c.args.count) c.get.ensures (c.is_known-in-And.ensures c.if-not-is_known.false)));
}
