-- The slots so far are the same.
use Rattle.std.proofs.Common.{◌≡◌, take}
use Rattle.tq_base.proofs.rows.are_same.Given as goal

abbrev pub invariant-slots : goal.invariant-slots
invariant-slots l = take l.place l.slots ≡ take l.place l.others
