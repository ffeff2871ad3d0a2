-- No row so far is equal to it, and none was removed.
use Rattle.std.proofs.Common.{◌≡◌, take}
use Rattle.tq_base.specs.Fragments.{occurrences}
use Rattle.tq_reference.proofs.instant.remove_one.Given as goal

abbrev pub invariant-rows : goal.invariant-rows
invariant-rows l = (occurrences (take l.place l.initial.rows.items) l.row ≡ 0) × (l.rows.items ≡ l.initial.rows.items)
