use Rattle.std.proofs.Common.{◌≡◌, take}
use Rattle.tq_draw.specs.Scales.{room_of}
use Rattle.tq_draw.proofs.scale.room_of.Given as goal

abbrev pub invariant-columns : goal.invariant-columns
invariant-columns l = l.room ≡ room_of l.fn.width (take l.column-index l.widths)
