use Rattle.std.proofs.Common.{◌-◌, ◌≤◌, length, drop, vec_len}
use Rattle.tq_base.specs.Sweep.{Sweep}
use Rattle.tq_table.proofs.layering.unordered.Given as goal

abbrev pub invariant-starts : goal.invariant-starts
invariant-starts l = Sweep l.periods (drop l.next l.starts.items) (drop l.end-index l.end-items) l.opened.items l.made.items

abbrev pub decreases-starts : goal.decreases-starts
decreases-starts l = length l.starts.items - l.next

abbrev pub invariant-ends : goal.invariant-ends
invariant-ends l = record {
  sweep : Sweep l.periods (drop l.next l.starts.items) (drop l.end-index l.end-items) l.opened.items l.made.items;
  no_more : vec_len l.made ≤ l.end-index;
}
