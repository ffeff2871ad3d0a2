-- Live entries that list all keys of a range, as they are copied into a new node (this project's own).
use Rattle.std.specs.Prelude.{◌≡◌, ℕ, ◌<◌, ◌≤◌, Bool, true, List, All, count_by, []}
use Rattle.tq_mvbt.specs.declared.entry.Entry.{Entry}
use Rattle.tq_mvbt.specs.NodeState.{NodeState}
use Rattle.tq_mvbt.specs.Points.{now, within, covers}
use Rattle.tq_mvbt.specs.Shape.{top, listed, IsRow, IsBranch}
use Rattle.tq_mvbt.specs.Steps.{fresh}

-- an entry that lives and lies in the range
pub record IsInside (version low high : ℕ) (e : Entry) : Type 0 where
  pub above : low ≤ e.low
  pub wide : e.low < e.high
  pub below : e.high ≤ high
  pub born : e.born ≤ version
  pub dead : e.dead ≡ now

-- the entries are those of a node that begins at the version
pub record IsCopy (version : ℕ) (lives : ℕ → ℕ → Bool) (nodes : List NodeState) (level low high : ℕ) (items : List Entry) : Type 0 where
  pub wide : low < high
  pub in_keys : high ≤ top
  pub inside : All (IsInside version low high) items
  pub rows : level ≡ 0 → All (IsRow lives (fresh level low high version [] [])) items
  pub branches : 0 < level → All (IsBranch nodes (fresh level low high version [] [])) items
  pub lists : (k v : ℕ) → within low high k ≡ true → version ≤ v → v < now → count_by (covers k v) items ≡ listed lives level k v
