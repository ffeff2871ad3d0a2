-- The spans so far tile the places before the start.
use Rattle.std.proofs.Common.{◌≤◌}
use Rattle.tq_commands.specs.Spans.{Tile}
use Rattle.tq_commands.proofs.pieces.spans_of.Given as goal

abbrev pub invariant-pieces : goal.invariant-pieces
invariant-pieces g l = record { tile : Tile l.spans.items 0 l.start; within : l.start ≤ l.len }
