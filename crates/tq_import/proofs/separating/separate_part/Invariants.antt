-- What was made of the records so far and what is made of the remaining ones is what is made of all.
use Rattle.std.proofs.Common.{◌≡◌, ◌≤◌, ◌+◌, ◌++◌, ℕ, List, length}
use Rattle.csv.specs.Records.{fields_of}
use Rattle.tq_table.specs.Writing.{HasWritten}
use Rattle.tq_import.specs.Reading.{HasLeft}
use Rattle.tq_import.specs.Rejects.{AreRejectTexts, HasRejected, faults_from, valid_lines}
use Rattle.tq_import.proofs.separating.separate_part.Given as goal

abbrev pub invariant-records : goal.invariant-records
invariant-records g l = record {
  done : List ℕ;
  written : HasWritten l.batch.writer done;
  texts : List ℕ;
  rejected : HasRejected l.separation.rejects l.batch.rejected texts;
  later : l.number ≤ l.next;
  rest : (delimiter : ℕ) (all : List (List (List ℕ))) → HasLeft g.R.Read.remaining delimiter l.fn.reader all
      → (left : List (List (List ℕ))) × HasLeft g.R.Read.remaining delimiter l.reader left
      × (valid_lines l.separation.plan.now l.number all ≡ done ++ valid_lines l.separation.plan.now l.next left)
      × ((text : List ℕ) → AreRejectTexts l.separation.rejects l.separation.plan.now (fields_of l.separation.header.now) (faults_from l.separation.plan.now l.next left) text
      → AreRejectTexts l.separation.rejects l.separation.plan.now (fields_of l.separation.header.now) (faults_from l.separation.plan.now l.number all) (texts ++ text))
      × (length (faults_from l.separation.plan.now l.number all) ≡ l.batch.invalid + length (faults_from l.separation.plan.now l.next left))
      × (l.next + length left ≡ l.number + length all);
}
