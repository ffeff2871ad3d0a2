use Rattle.std.proofs.Common.{◌+◌, ◌*◌}
use Rattle.tq_tests_language.proofs.shown.+shown.Given as goal

abbrev pub decreases-show_condition : goal.decreases-show_condition
decreases-show_condition l = 2 * l.depth

abbrev pub decreases-show_pair : goal.decreases-show_pair
decreases-show_pair l = 2 * l.depth + 1
