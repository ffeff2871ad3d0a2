-- The lines so far and the remaining records make what all records make.
use Rattle.std.proofs.Common.{◌≡◌, ◌≤◌, ◌+◌, ◌++◌, ℕ, List, length}
use Rattle.tq_table.specs.Writing.{HasWritten}
use Rattle.tq_import.specs.Imports.{lines_after}
use Rattle.tq_import.specs.Reading.{HasLeft}
use Rattle.tq_import.proofs.importing.import_part.Given as goal

abbrev pub invariant-records : goal.invariant-records
invariant-records g l = record {
  done : List ℕ;
  written : HasWritten l.writer done;
  later : l.number ≤ l.next;
  rest : (delimiter : ℕ) (all : List (List (List ℕ))) → HasLeft g.R.Read.remaining delimiter l.fn.reader all
      → (left : List (List (List ℕ))) × HasLeft g.R.Read.remaining delimiter l.reader left
      × ((text : List ℕ) → lines_after l.plan text l.number all ≡ lines_after l.plan (text ++ done) l.next left)
      × (l.next + length left ≡ l.number + length all);
}
