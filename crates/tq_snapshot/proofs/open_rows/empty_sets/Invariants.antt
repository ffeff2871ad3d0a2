use Rattle.std.proofs.Common.{◌≡◌, false, length}
use Rattle.std.specs.Prelude.{ℕ, All}
use Rattle.std.specs.BTreeSet.{contains}
use Rattle.std.specs.Ordering.{nat_cmp}
use Rattle.tq_snapshot.proofs.open_rows.empty_sets.Given as goal

abbrev pub invariant-sets : goal.invariant-sets
invariant-sets l = record {
  len : length l.sets.items ≡ l.counter;
  none : All (λ set. (k : ℕ) → contains nat_cmp set k ≡ false) l.sets.items;
}
