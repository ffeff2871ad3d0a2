use Rattle.tq_plan.proofs.PlanLemmas.{left_stands, right_stands}
use Rattle.tq_plan.proofs.laws.queries_are_valid.Goals as goal

pub returns : goal.returns
returns c = λ catalogue plan is. (left_stands catalogue plan is, λ query some. right_stands catalogue plan query is some)
