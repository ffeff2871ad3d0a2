use Rattle.std.proofs.Common.{not, sym, ap, arith, subst}
use Rattle.tq_condition.specs.KeyRanges.{BoundsWithin}
use Rattle.tq_condition.proofs.Conditions.{weight, weight-And, weight-Or, weight-Not}
use Rattle.tq_condition.proofs.Ranging.{ends, leads_and, leads_not, leads_or, Leads}
use Rattle.tq_condition.proofs.condition.Test.+numbers_within.Goals as goal

pub returns-in-Is : goal.returns-in-Is
returns-in-Is t c =
    ends c.args.self.now c.parts.part.now c.args.wanted c.parts.wanted c.args.place c.args.within c.parts.allowed.within c.parts.allowed.also c.compared_numbers-numbers.result c.common_of.result c.hull_of.result
    c.in-Is.left c.in-Is.right c.in-Is.op c.agreeing.result c.in-Is.is c.agreeing.ensures c.compared_numbers-numbers.ensures c.common_of.ensures c.hull_of.ensures.one c.hull_of.ensures.other
    c.parts.invariant.leads

pub parts-preserved-in-And : goal.parts-preserved-in-And
parts-preserved-in-And t c = record {
  no_heavier = omega (arith, c.parts.invariant.no_heavier, ap weight c.in-And.is, weight-And c.in-And.first c.in-And.last, ap weight c.get-part.ensures);
  leads =
      subst (λ p. Leads c.args.self.now c.args.wanted c.args.place c.args.within p c.parts.wanted c.with_part-allowed.result.within c.with_part-allowed.result.also) (sym c.get-part.ensures)
      (leads_and c.args.self.now c.parts.part.now c.in-And.first c.in-And.last c.args.wanted c.parts.wanted c.args.place c.args.within c.parts.allowed.within c.parts.allowed.also c.numbers_within-numbers.result
      c.with_part-allowed.result.within c.with_part-allowed.result.also c.in-And.is (subst (λ p. BoundsWithin p c.parts.wanted c.args.place c.parts.allowed.within c.numbers_within-numbers.result) c.get.ensures c.numbers_within-numbers.ensures)
      c.with_part-allowed.ensures.also c.with_part-allowed.ensures.both c.with_part-allowed.ensures.within c.with_part-allowed.ensures.either c.parts.invariant.leads);
}

pub parts-preserved-in-Or : goal.parts-preserved-in-Or
parts-preserved-in-Or t c = record {
  no_heavier = omega (arith, c.parts.invariant.no_heavier, ap weight c.in-Or.is, weight-Or c.in-Or.first c.in-Or.last, ap weight c.get-part-in-Or.ensures);
  leads =
      subst (λ p. Leads c.args.self.now c.args.wanted c.args.place c.args.within p c.parts.wanted c.with_part-allowed-in-Or.result.within c.with_part-allowed-in-Or.result.also) (sym c.get-part-in-Or.ensures)
      (leads_or c.args.self.now c.parts.part.now c.in-Or.first c.in-Or.last c.args.wanted c.parts.wanted c.args.place c.args.within c.parts.allowed.within c.parts.allowed.also c.numbers_within-numbers-in-Or.result
      c.with_part-allowed-in-Or.result.within c.with_part-allowed-in-Or.result.also c.in-Or.is (subst (λ p. BoundsWithin p c.parts.wanted c.args.place c.parts.allowed.within c.numbers_within-numbers-in-Or.result) c.get-in-Or.ensures c.numbers_within-numbers-in-Or.ensures)
      c.with_part-allowed-in-Or.ensures.also c.with_part-allowed-in-Or.ensures.both c.with_part-allowed-in-Or.ensures.within c.with_part-allowed-in-Or.ensures.either c.parts.invariant.leads);
}

pub parts-preserved : goal.parts-preserved
parts-preserved t c = record {
  no_heavier = omega (arith, c.parts.invariant.no_heavier, ap weight c.in-Not.is, weight-Not c.in-Not.inner, ap weight c.get-part-in-Not.ensures);
  leads =
      subst (λ p. Leads c.args.self.now c.args.wanted c.args.place c.args.within p (not c.parts.wanted) c.parts.allowed.within c.parts.allowed.also) (sym c.get-part-in-Not.ensures)
      (leads_not c.args.self.now c.parts.part.now c.in-Not.inner c.args.wanted c.parts.wanted c.args.place c.args.within c.parts.allowed.within c.parts.allowed.also c.in-Not.is c.parts.invariant.leads);
}

pub numbers_within-numbers-requires : goal.numbers_within-numbers-requires
numbers_within-numbers-requires t c = omega (arith, c.parts.invariant.no_heavier, ap weight c.in-And.is, weight-And c.in-And.first c.in-And.last, ap weight c.get.ensures)

pub parts-smaller-in-And : goal.parts-smaller-in-And
parts-smaller-in-And t c = omega (arith, ap weight c.in-And.is, weight-And c.in-And.first c.in-And.last, ap weight c.get-part.ensures)

pub numbers_within-numbers-requires-in-Or : goal.numbers_within-numbers-requires-in-Or
numbers_within-numbers-requires-in-Or t c = omega (arith, c.parts.invariant.no_heavier, ap weight c.in-Or.is, weight-Or c.in-Or.first c.in-Or.last, ap weight c.get-in-Or.ensures)

pub parts-smaller-in-Or : goal.parts-smaller-in-Or
parts-smaller-in-Or t c = omega (arith, ap weight c.in-Or.is, weight-Or c.in-Or.first c.in-Or.last, ap weight c.get-part-in-Or.ensures)

pub parts-smaller : goal.parts-smaller
parts-smaller t c = omega (arith, ap weight c.in-Not.is, weight-Not c.in-Not.inner, ap weight c.get-part-in-Not.ensures)
