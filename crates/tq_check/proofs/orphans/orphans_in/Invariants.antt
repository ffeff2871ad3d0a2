-- The rows so far, and those of the places to come, are all rows that miss a parent.
use Rattle.std.proofs.Common.{◌≡◌, ◌++◌, drop}
use Rattle.tq_check.specs.Orphans.{linked_rows, orphans_from, orphans_of}
use Rattle.tq_check.proofs.orphans.orphans_in.Given as goal

abbrev pub invariant-places : goal.invariant-places
invariant-places l =
    let linked = linked_rows l.sort_input.left.now.items l.sort_input.right.now.items l.reference in
    l.orphans.items ++ orphans_from linked l.place (drop l.place l.sort_input.left.now.items) ≡ orphans_of linked
