-- The records so far were written to their parts, and the other records are left.
use Rattle.std.proofs.Common.{◌≤◌, ℕ, List}
use Rattle.tq_import.specs.Reading.{HasLeft}
use Rattle.tq_split.specs.TableParts.{known_bytes}
use Rattle.tq_split.proofs.DivisionLemmas.{DividedSoFar}
use Rattle.tq_split.proofs.dividing.divide_records.Given as goal

abbrev pub invariant-batches : goal.invariant-batches
invariant-batches g l = record {
  later : 2 ≤ l.number;
  rest : (all : List (List (List ℕ))) → HasLeft g.R.Read.remaining 44 l.fn.reader all
      → DividedSoFar l.cut all g.R.Read.remaining l.reader (known_bytes g.W.Write.contents l.fn.sinks) (known_bytes g.W.Write.contents l.sinks) l.number;
}
