use Rattle.tq_split.proofs.merging.push_run.Goals as goal

pub returns-in_ok-push_layers-in-Merge-clause-pushed : goal.returns-in_ok-push_layers-in-Merge-clause-pushed
returns-in_ok-push_layers-in-Merge-clause-pushed c = rw c.in-Merge.is c.in_ok-push_layers-in-Merge.ensures.pushed
