-- There is a reference to each value of the rows so far.
use Rattle.std.proofs.Common.{◌≡◌, drop, take}
use Rattle.std.specs.List.{flat_map}
use Rattle.tq_base.specs.declared.fragment.Fragment.{Fragment}
use Rattle.tq_table.specs.Writing.{borrowed}
use Rattle.tq_table.proofs.text.borrow_rows.Given as goal

abbrev pub invariant-rows : goal.invariant-rows
invariant-rows l = borrowed l.borrows.items ≡ flat_map (λ (row : Fragment). row.values) (drop l.start (take l.row l.rows))
