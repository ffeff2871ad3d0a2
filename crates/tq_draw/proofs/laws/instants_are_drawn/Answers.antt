use Rattle.tq_draw.proofs.BarLemmas as bars
use Rattle.tq_draw.proofs.laws.instants_are_drawn.Goals as goal

pub returns : goal.returns
returns c = bars.instants_are_drawn
