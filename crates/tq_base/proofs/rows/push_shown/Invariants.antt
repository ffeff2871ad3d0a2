-- The values of the slots so far were added.
use Rattle.std.proofs.Common.{◌≡◌, ◌++◌, map, take}
use Rattle.tq_base.specs.Slots.{slot_value}
use Rattle.tq_base.proofs.rows.push_shown.Given as goal

abbrev pub invariant-slots : goal.invariant-slots
invariant-slots l = l.room.items ≡ l.initial.room.items ++ map (slot_value l.kept) (take l.slot-index l.slots)
