-- The groups so far were listed.
use Rattle.std.proofs.Common.{◌≡◌, map}
use Rattle.tq_totals.specs.Sums.{total_pair, totals_entry}
use Rattle.tq_totals.proofs.group_totals.listed.Given as goal

abbrev pub invariant-groups : goal.invariant-groups
invariant-groups l = map total_pair l.totals.items ≡ map totals_entry l.yielded
