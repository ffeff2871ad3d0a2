-- There is a reference to each value so far.
use Rattle.std.proofs.Common.{◌≡◌, ◌++◌, take}
use Rattle.tq_table.specs.Writing.{borrowed}
use Rattle.tq_table.proofs.text.borrow_row.Given as goal

abbrev pub invariant-values : goal.invariant-values
invariant-values l = borrowed l.borrows.items ≡ borrowed l.initial.borrows.items ++ take l.place l.row
