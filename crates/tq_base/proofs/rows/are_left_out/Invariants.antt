-- The values so far are those of columns that are left out.
use Rattle.std.proofs.Common.{take}
use Rattle.tq_base.specs.Slots.{AreLeftOut}
use Rattle.tq_base.proofs.rows.are_left_out.Given as goal

abbrev pub invariant-slots : goal.invariant-slots
invariant-slots l = AreLeftOut (take l.place l.slots) (take l.place l.row)
