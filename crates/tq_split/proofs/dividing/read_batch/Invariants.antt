-- The lines of the records so far are in the texts of their parts, and the other records are left.
use Rattle.std.proofs.Common.{◌≡◌, ◌≤◌, ℕ, List, length}
use Rattle.tq_import.specs.Reading.{HasLeft}
use Rattle.tq_split.specs.TableParts.{HasFlushed, texts_of}
use Rattle.tq_split.proofs.DivisionLemmas.{BatchSoFar}
use Rattle.tq_split.proofs.dividing.read_batch.Given as goal

abbrev pub invariant-records : goal.invariant-records
invariant-records g l = record {
  many : length l.texts.items ≡ l.parts;
  flushed : (before : List ℕ) × HasFlushed l.writer before;
  later : l.number ≤ l.next;
  rest : (all : List (List (List ℕ))) → HasLeft g.R.Read.remaining 44 l.fn.reader all → BatchSoFar l.cut l.parts l.number all g.R.Read.remaining l.reader (texts_of l.texts.items) l.next;
}
