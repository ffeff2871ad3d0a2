-- A field was written for each of the columns so far.
use Rattle.std.proofs.Common.{ℕ, List, take}
use Rattle.tq_table.specs.Writing.{HasWritten, IsWriting}
use Rattle.tq_table.proofs.text.write_header.Given as goal

abbrev pub invariant-columns : goal.invariant-columns
invariant-columns l = (text : List ℕ) → HasWritten l.initial.writer text → IsWriting l.writer text (take l.column-index l.columns)
