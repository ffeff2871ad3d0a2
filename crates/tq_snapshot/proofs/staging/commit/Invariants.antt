use Rattle.std.proofs.Common.{◌≡◌, ◌≤◌, ◌-◌, ◌++◌, length, take}
use Rattle.tq_snapshot.proofs.staging.commit.Given as goal

abbrev pub invariant-pending : goal.invariant-pending
invariant-pending l = record {
  book : l.prefix.book ≡ l.fn.prefix.book;
  within : l.count ≤ length l.pending;
  is : l.prefix.list ≡ l.published ++ take l.count l.pending;
}

abbrev pub decreases-pending : goal.decreases-pending
decreases-pending l = length l.pending - l.count
