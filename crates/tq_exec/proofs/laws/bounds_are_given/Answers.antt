use Rattle.tq_exec.proofs.BoundLemmas.{bounds_given}
use Rattle.tq_exec.proofs.laws.bounds_are_given.Goals as goal

pub returns : goal.returns
returns c = bounds_given c.layers_are_runs.ensures
