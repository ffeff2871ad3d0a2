use Rattle.std.proofs.Common.{not, sym, ap, ◌∙◌, arith}
use Rattle.tq_condition.specs.Known.{known_value, may_be}
use Rattle.tq_condition.proofs.Conditions.{weight, weight-And, weight-Or, weight-Not}
use Rattle.tq_condition.proofs.Knowing.{both_decided, both_left, either_decided, either_left, both_may, either_may, may_be-Is, may_be-And, may_be-Or, may_be-Not}
use Rattle.tq_condition.proofs.condition.Test.+may_be.Goals as goal

pub returns-in-Is : goal.returns-in-Is
returns-in-Is t c =
    let value = known_value c.args.known in
    c.may_compare.ensures ∙ sym (c.parts.invariant.same ∙ ap (λ p. may_be value p c.parts.wanted) c.in-Is.is ∙ may_be-Is value c.in-Is.left c.in-Is.op c.in-Is.right c.parts.wanted)

pub returns-then-may_be-wanted : goal.returns-then-may_be-wanted
returns-then-may_be-wanted t c =
    let value = known_value c.args.known in
    let w = c.parts.wanted in
    let last = c.may_be.ensures ∙ ap (λ p. may_be value p w) c.get.ensures in
    both_decided w (may_be value c.in-And.first w) c.may_be.result c.if-may_be-wanted.true
    ∙ ap (both_may w (may_be value c.in-And.first w)) last
    ∙ sym (c.parts.invariant.same ∙ ap (λ p. may_be value p w) c.in-And.is ∙ may_be-And value c.in-And.first c.in-And.last w)

pub parts-preserved-in-And : goal.parts-preserved-in-And
parts-preserved-in-And t c =
    let value = known_value c.args.known in
    let w = c.parts.wanted in
    let last = c.may_be.ensures ∙ ap (λ p. may_be value p w) c.get.ensures in
    record {
      no_deeper = omega (arith, c.parts.invariant.no_deeper, ap weight c.in-And.is, weight-And c.in-And.first c.in-And.last, ap weight c.get-part.ensures);
      same =
          c.parts.invariant.same ∙ ap (λ p. may_be value p w) c.in-And.is ∙ may_be-And value c.in-And.first c.in-And.last w
          ∙ ap (both_may w (may_be value c.in-And.first w)) (sym last)
          ∙ both_left w (may_be value c.in-And.first w) c.may_be.result c.if-may_be-wanted.false
          ∙ ap (λ p. may_be value p w) (sym c.get-part.ensures);
    }

pub returns-then-may_be-wanted-2 : goal.returns-then-may_be-wanted-2
returns-then-may_be-wanted-2 t c =
    let value = known_value c.args.known in
    let w = c.parts.wanted in
    let last = c.may_be-in-Or.ensures ∙ ap (λ p. may_be value p w) c.get-in-Or.ensures in
    either_decided w (may_be value c.in-Or.first w) c.may_be-in-Or.result c.if-may_be-wanted-2.true
    ∙ ap (either_may w (may_be value c.in-Or.first w)) last
    ∙ sym (c.parts.invariant.same ∙ ap (λ p. may_be value p w) c.in-Or.is ∙ may_be-Or value c.in-Or.first c.in-Or.last w)

pub parts-preserved-in-Or : goal.parts-preserved-in-Or
parts-preserved-in-Or t c =
    let value = known_value c.args.known in
    let w = c.parts.wanted in
    let last = c.may_be-in-Or.ensures ∙ ap (λ p. may_be value p w) c.get-in-Or.ensures in
    record {
      no_deeper = omega (arith, c.parts.invariant.no_deeper, ap weight c.in-Or.is, weight-Or c.in-Or.first c.in-Or.last, ap weight c.get-part-in-Or.ensures);
      same =
          c.parts.invariant.same ∙ ap (λ p. may_be value p w) c.in-Or.is ∙ may_be-Or value c.in-Or.first c.in-Or.last w
          ∙ ap (either_may w (may_be value c.in-Or.first w)) (sym last)
          ∙ either_left w (may_be value c.in-Or.first w) c.may_be-in-Or.result c.if-may_be-wanted-2.false
          ∙ ap (λ p. may_be value p w) (sym c.get-part-in-Or.ensures);
    }

pub parts-preserved : goal.parts-preserved
parts-preserved t c =
    let value = known_value c.args.known in
    record {
      no_deeper = omega (arith, c.parts.invariant.no_deeper, ap weight c.in-Not.is, weight-Not c.in-Not.inner, ap weight c.get-part-in-Not.ensures);
      same =
          c.parts.invariant.same ∙ ap (λ p. may_be value p c.parts.wanted) c.in-Not.is ∙ may_be-Not value c.in-Not.inner c.parts.wanted
          ∙ ap (λ p. may_be value p (not c.parts.wanted)) (sym c.get-part-in-Not.ensures);
    }

pub may_be-requires : goal.may_be-requires
may_be-requires t c =
    omega (arith, c.parts.invariant.no_deeper, ap weight c.in-And.is, weight-And c.in-And.first c.in-And.last, ap weight c.get.ensures)

pub parts-smaller-in-And : goal.parts-smaller-in-And
parts-smaller-in-And t c = omega (arith, ap weight c.in-And.is, weight-And c.in-And.first c.in-And.last, ap weight c.get-part.ensures)

pub may_be-requires-in-Or : goal.may_be-requires-in-Or
may_be-requires-in-Or t c =
    omega (arith, c.parts.invariant.no_deeper, ap weight c.in-Or.is, weight-Or c.in-Or.first c.in-Or.last, ap weight c.get-in-Or.ensures)

pub parts-smaller-in-Or : goal.parts-smaller-in-Or
parts-smaller-in-Or t c = omega (arith, ap weight c.in-Or.is, weight-Or c.in-Or.first c.in-Or.last, ap weight c.get-part-in-Or.ensures)

pub parts-smaller : goal.parts-smaller
parts-smaller t c = omega (arith, ap weight c.in-Not.is, weight-Not c.in-Not.inner, ap weight c.get-part-in-Not.ensures)
