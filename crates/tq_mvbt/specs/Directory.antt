-- The directory of roots: the root of each version (this project's own).
use Rattle.std.specs.Prelude.{◌≡◌, ℕ, ◌+◌, ◌≤◌, List, [], ◌∷◌, nat_le, cond, slice_get, Some}
use Rattle.tq_mvbt.specs.declared.root.Root.{Root}
use Rattle.tq_mvbt.specs.NodeState.{NodeState}
use Rattle.tq_mvbt.specs.Points.{now}
use Rattle.tq_mvbt.specs.Shape.{top}

-- the last root that begins at the version or earlier, or the first argument if none does
abbrev pub last_root : Root → List Root → ℕ → Root
last_root before [] v = before
last_root before (r ∷ roots) v = last_root (cond (nat_le r.from v) r before) roots v

-- the root of the version
abbrev pub root_of : List Root → ℕ → Root
root_of roots v = last_root (record { from = 0; node = 0; levels = 0 }) roots v

-- the root's node is current, holds all keys, and is on the highest level
pub record IsTop (version : ℕ) (nodes : List NodeState) (r : Root) : Type 0 where
  pub node : NodeState
  pub stands : slice_get nodes r.node ≡ Some node
  pub level : node.level + 1 ≡ r.levels
  pub low : node.low ≡ 0
  pub high : node.high ≡ top
  pub born : node.born ≤ version
  pub died : node.died ≡ now
