-- The parts so far are parts of the files.
use Rattle.std.proofs.Common.{◌≤◌, ◌*◌, length}
use Rattle.std.specs.Prelude.{All}
use Rattle.tq_load.specs.Parts.{IsPartOf}
use Rattle.tq_load.proofs.cut.cut.Given as goal

abbrev pub invariant-tables : goal.invariant-tables
invariant-tables l = record {
  parts : All (IsPartOf l.files) l.parts.items;
  few : length l.parts.items ≤ 4097 * l.table;
}
