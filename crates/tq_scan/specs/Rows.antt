-- The nodes of a level on a scan's descent (this project's own).
use Rattle.std.specs.Prelude.{◌≡◌, ℕ, ◌<◌, ◌≤◌, Bool, false, List, All, count_by, slice_get, Option, Some, None}
use Rattle.tq_arena.specs.declared.arena.NodeNo.{NodeNo}
use Rattle.tq_mvbt.specs.NodeState.{NodeState}
use Rattle.tq_mvbt.specs.Points.{holds}
use Rattle.tq_scan.specs.declared.window.Part.{Part}

-- whether a node holds the key at the version
abbrev pub holds_key : ℕ → ℕ → Option NodeState → Bool
holds_key key version None = false
holds_key key version (Some n) = holds key version n

-- whether the node with the number holds the key at the version
abbrev pub holds_key_at : List NodeState → ℕ → ℕ → NodeNo → Bool
holds_key_at nodes key version number = holds_key key version (slice_get nodes number.0)

-- the number is that of a node of the level that is alive at the part's last version and has keys of the part
pub record IsMetNode (nodes : List NodeState) (p : Part) (level : ℕ) (number : NodeNo) : Type 0 where
  pub node : NodeState
  pub stands : slice_get nodes number.0 ≡ Some node
  pub at_level : node.level ≡ level
  pub low : node.low < p.high
  pub high : p.low < node.high
  pub born : node.born ≤ p.last
  pub died : p.last < node.died

-- the nodes of a level that a scan of the part visits: at its last version each of its keys lies in exactly one of them
pub record IsRowOf (nodes : List NodeState) (p : Part) (level : ℕ) (row : List NodeNo) : Type 0 where
  pub each : All (IsMetNode nodes p level) row
  pub tiles : (key : ℕ) → p.low ≤ key → key < p.high → count_by (holds_key_at nodes key p.last) row ≡ 1
