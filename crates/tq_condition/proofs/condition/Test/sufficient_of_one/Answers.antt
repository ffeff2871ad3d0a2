use Rattle.std.proofs.lemmas.Option.{IfSome_then}
use Rattle.tq_condition.specs.declared.key_range.SufficientRange.{SufficientRange}
use Rattle.tq_condition.proofs.Sufficing.{enough_is}
use Rattle.tq_condition.proofs.condition.Test.sufficient_of_one.Goals as goal

pub returns-in-Is : goal.returns-in-Is
returns-in-Is c =
    IfSome_then c.sufficient_comparison.result c.sufficient_comparison.ensures
    (λ (e : SufficientRange) allowed. enough_is c.args.self.now c.in-Is.left c.in-Is.right c.in-Is.op e.column e.range c.in-Is.is allowed)
