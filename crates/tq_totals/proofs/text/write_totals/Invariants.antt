-- A line was written for each of the totals so far.
use Rattle.std.proofs.Common.{ℕ, List, ◌++◌, take}
use Rattle.std.specs.List.{flat_map}
use Rattle.tq_table.specs.Writing.{HasWritten}
use Rattle.tq_totals.specs.Text.{total_line}
use Rattle.tq_totals.proofs.text.write_totals.Given as goal

abbrev pub invariant-totals : goal.invariant-totals
invariant-totals l = (text : List ℕ) → HasWritten l.initial.writer text → HasWritten l.writer (text ++ flat_map (total_line l.by l.summed l.places) (take l.total-index l.totals))
