use Rattle.std.proofs.Common.{subst}
use Rattle.tq_condition.specs.declared.condition.Test.{Test}
use Rattle.tq_condition.specs.declared.key_range.SufficientRange.{SufficientRange}
use Rattle.tq_condition.specs.KeyRanges.{IsSufficient}
use Rattle.tq_condition.proofs.Sufficing.{enough_and, if_four}
use Rattle.tq_condition.proofs.condition.Test.sufficient_range.Goals as goal

pub returns-in_ok-sufficient_of_one-in-And : goal.returns-in_ok-sufficient_of_one-in-And
returns-in_ok-sufficient_of_one-in-And c =
    let one = c.in_ok-one-in-And.one in
    let other = c.in_ok-sufficient_of_one-in-And.field-0 in
    if_four c.both.result c.both.ensures.column c.both.ensures.same c.both.ensures.one c.both.ensures.other
    (λ (e : SufficientRange) column same within within_too.
    enough_and c.args.self.now c.in-And.first c.in-And.last e.column one.column other.column e.range one.range other.range c.in-And.is
    (subst (λ (t : Test). IsSufficient t one.column one.range) c.get.ensures c.in_ok-one-in-And.ensures)
    (subst (λ (t : Test). IsSufficient t other.column other.range) c.get-in-And.ensures c.in_ok-sufficient_of_one-in-And.ensures)
    column same within within_too)
