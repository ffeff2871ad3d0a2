use Rattle.std.proofs.Common.{◌+◌, ◌*◌, vec_len}
use Rattle.tq_run.proofs.workers.+workers.Given as goal

abbrev pub decreases-ours : goal.decreases-ours
decreases-ours g l = 2 * vec_len l.others + 1

abbrev pub decreases-run_claimants : goal.decreases-run_claimants
decreases-run_claimants g l = 2 * vec_len l.others
