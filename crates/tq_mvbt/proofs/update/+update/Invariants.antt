use Rattle.tq_mvbt.proofs.update.+update.Given as goal

abbrev pub decreases-update : goal.decreases-update
decreases-update l = l.level
