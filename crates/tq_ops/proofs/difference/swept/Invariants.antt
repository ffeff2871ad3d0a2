-- The invariant between two changes.
use Rattle.std.proofs.Common.{◌≤◌, take, drop}
use Rattle.tq_ops.proofs.Sweeping.{Sweeping}
use Rattle.tq_ops.proofs.difference.swept.Given as goal

abbrev pub invariant-changes : goal.invariant-changes
invariant-changes l = record {
  sweeping : Sweeping (take l.change-index l.changes) (drop l.change-index l.changes) l.opened.items l.owed l.made.items;
  few : l.owed ≤ l.change-index;
}
