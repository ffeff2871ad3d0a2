-- A field was written for each of the columns so far.
use Rattle.std.proofs.Common.{ℕ, List, ◌++◌, map, take}
use Rattle.tq_table.specs.Writing.{IsWriting}
use Rattle.tq_totals.specs.Text.{name_at}
use Rattle.tq_totals.proofs.text.write_names.Given as goal

abbrev pub invariant-numbers : goal.invariant-numbers
invariant-numbers l = (text : List ℕ) (fields : List (List ℕ)) → IsWriting l.initial.writer text fields → IsWriting l.writer text (fields ++ map (name_at l.columns) (take l.number-index l.numbers))
