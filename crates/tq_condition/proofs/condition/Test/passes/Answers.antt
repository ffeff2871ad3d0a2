use Rattle.std.proofs.Common.{◌∙◌, true}
use Rattle.tq_condition.proofs.Knowing.{pushable}
use Rattle.tq_condition.proofs.condition.Test.passes.Goals as goal

pub returns : goal.returns
returns c = c.may_be.ensures ∙ pushable c.args.row.now c.args.self.now true
