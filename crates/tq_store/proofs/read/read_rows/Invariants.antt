use Rattle.std.proofs.Common.{◌≡◌, map, take}
use Rattle.tq_store.specs.Stored.{row_of_key, row_view}
use Rattle.tq_store.proofs.read.read_rows.Given as goal

abbrev pub invariant-keys : goal.invariant-keys
invariant-keys l = map row_view l.found.items ≡ map (row_of_key l.events l.rows l.n) (take l.key-index l.keys)
