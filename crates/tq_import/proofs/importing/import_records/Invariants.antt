-- The text so far and the remaining records make the table file.
use Rattle.std.proofs.Common.{◌≡◌, ◌≤◌, ◌+◌, ℕ, List, length}
use Rattle.std.specs.Io.KnownBytes.{Appends}
use Rattle.tq_import.specs.Imports.{import_of, lines_after}
use Rattle.tq_import.specs.Reading.{HasLeft}
use Rattle.tq_import.proofs.importing.import_records.Given as goal

abbrev pub invariant-parts : goal.invariant-parts
invariant-parts g l = record {
  later : 2 ≤ l.number;
  done : List ℕ;
  written : Appends (g.W.Write.contents l.fn.sink.writer) (g.W.Write.contents l.sink.writer) done;
  rest : (delimiter : ℕ) (all : List (List (List ℕ))) → HasLeft g.R.Read.remaining delimiter l.fn.reader all
      → (left : List (List (List ℕ))) × HasLeft g.R.Read.remaining delimiter l.reader left
      × (import_of l.plan all ≡ lines_after l.plan done l.number left)
      × (l.number + length left ≡ 2 + length all);
}
