use Rattle.std.proofs.Common.{length}
use Rattle.tq_reference.proofs.groups.+each_once.Given as goal

abbrev pub decreases-each_once : goal.decreases-each_once
decreases-each_once l = length l.rows.now
