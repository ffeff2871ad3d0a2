-- The pieces so far have the bytes of the spans so far.
use Rattle.std.proofs.Common.{take}
use Rattle.tq_commands.specs.Spans.{AreSpans}
use Rattle.tq_commands.proofs.pieces.read_sequentially.Given as goal

abbrev pub invariant-spans : goal.invariant-spans
invariant-spans g l = AreSpans (g.F.ReadAt.bytes l.file) (take l.span-index l.spans) l.pieces.items
