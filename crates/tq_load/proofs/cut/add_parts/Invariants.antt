-- The parts so far are parts of the files, and another one may begin at the start.
use Rattle.std.proofs.Common.{◌≢◌, ◌≤◌, ◌+◌, length}
use Rattle.std.specs.Prelude.{All}
use Rattle.tq_load.specs.Parts.{IsCut, IsPartOf}
use Rattle.tq_load.proofs.cut.add_parts.Given as goal

abbrev pub invariant-cuts : goal.invariant-cuts
invariant-cuts l = record {
  within : l.start ≤ length l.bytes;
  cut : l.start ≢ 0 → IsCut l.bytes l.start;
  parts : All (IsPartOf l.files) l.parts.items;
  few : length l.parts.items ≤ length l.fn.parts.items + l.counter;
}
