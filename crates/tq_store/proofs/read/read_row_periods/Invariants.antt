use Rattle.std.proofs.Common.{◌≡◌, map, take}
use Rattle.tq_store.specs.Stored.{times_of_row_period, times_of_key}
use Rattle.tq_store.proofs.read.read_row_periods.Given as goal

abbrev pub invariant-keys : goal.invariant-keys
invariant-keys l = map times_of_row_period l.row_periods.items ≡ map (times_of_key l.rows l.n) (take l.key-index l.keys)
