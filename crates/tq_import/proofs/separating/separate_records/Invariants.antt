-- What was written of the records so far and what is written of the remaining ones is what is written of all.
use Rattle.std.proofs.Common.{◌≡◌, ◌≤◌, ◌+◌, ◌++◌, ℕ, List, length}
use Rattle.std.specs.Io.KnownBytes.{Appends}
use Rattle.csv.specs.Records.{fields_of}
use Rattle.tq_import.specs.Reading.{HasLeft}
use Rattle.tq_import.specs.Rejects.{AreRejectTexts, faults_from, rejects_header, valid_lines, valid_table}
use Rattle.tq_import.proofs.separating.separate_records.Given as goal

abbrev pub invariant-parts : goal.invariant-parts
invariant-parts g l = record {
  later : 2 ≤ l.number;
  done : List ℕ;
  written : Appends (g.W.Write.contents l.fn.sink.writer) (g.W.Write.contents l.sink.writer) done;
  texts : List ℕ;
  rejected : Appends (g.V.Write.contents l.fn.rejected.writer) (g.V.Write.contents l.rejected.writer) (rejects_header l.separation.rejects (fields_of l.separation.header.now) ++ texts);
  rest : (delimiter : ℕ) (all : List (List (List ℕ))) → HasLeft g.R.Read.remaining delimiter l.fn.reader all
      → (left : List (List (List ℕ))) × HasLeft g.R.Read.remaining delimiter l.reader left
      × (valid_table l.separation.plan.now all ≡ done ++ valid_lines l.separation.plan.now l.number left)
      × ((text : List ℕ) → AreRejectTexts l.separation.rejects l.separation.plan.now (fields_of l.separation.header.now) (faults_from l.separation.plan.now l.number left) text
      → AreRejectTexts l.separation.rejects l.separation.plan.now (fields_of l.separation.header.now) (faults_from l.separation.plan.now 2 all) (texts ++ text))
      × (length (faults_from l.separation.plan.now 2 all) ≡ l.invalid + length (faults_from l.separation.plan.now l.number left))
      × (l.number + length left ≡ 2 + length all);
}
