use Rattle.tq_plan.proofs.PlanLemmas.{left_stands, right_stands}
use Rattle.tq_plan.proofs.laws.sources_are_contiguous.Goals as goal

pub returns : goal.returns
returns c = λ plan is.
    ((left_stands is.catalogue plan (record { form = is.form; statement = is.statement; planned = is.planned })).sources, λ query some. (right_stands is.catalogue plan query (record { form = is.form; statement = is.statement; planned = is.planned }) some).sources)
