use Rattle.std.proofs.Common.{arith}
use Rattle.tq_load.proofs.cut.cut_within.Goals as goal

pub lines-init : goal.lines-init
lines-init c = omega (arith, c.if-bytes-len.false)

pub line_end-requires : goal.line_end-requires
line_end-requires c = c.lines.invariant

pub lines-preserved : goal.lines-preserved
lines-preserved c = c.in_ok-place.ensures.within
