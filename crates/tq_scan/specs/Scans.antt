-- What a scan finds in a part of a window (van den Bercken and Seeger 1996; the choice of the reference point is this
-- project's own).
use Rattle.std.specs.Prelude.{◌≡◌, ℕ, Bool, true, false, List, max, map, slice_get, Option, Some, None}
use Rattle.tq_arena.specs.declared.arena.NodeNo.{NodeNo}
use Rattle.tq_mvbt.specs.NodeState.{NodeState}
use Rattle.tq_mvbt.specs.Points.{within, holds}
use Rattle.tq_mvbt.specs.TreeState.{HasLife}
use Rattle.tq_scan.specs.declared.window.Part.{Part}
use Rattle.tq_scan.specs.declared.window.Window.{Window}
use Rattle.tq_scan.specs.Windows.{lies_in, whole_of}

-- a key's reference point in a window: the key at the later of its birth and the window's first version
abbrev pub reference_point : Window → ℕ → ℕ → ℕ × ℕ
reference_point w key born = (key, max born w.first)

-- whether the point lies in the part
abbrev pub has_point : Part → ℕ × ℕ → Bool
has_point p point = lies_in p point.0 point.1

-- the key lives at some version of the window, and its reference point in the window lies in the part
pub record FoundIn (nodes : List NodeState) (w : Window) (p : Part) (key : ℕ) : Type 0 where
  pub born : ℕ
  pub dead : ℕ
  pub life : HasLife nodes key born dead
  pub version : ℕ
  pub in_window : lies_in (whole_of w) key version ≡ true
  pub alive : within born dead version ≡ true
  pub reference : has_point p (reference_point w key born) ≡ true

-- the number is that of a leaf whose region has a point in the part
pub record IsMetLeaf (nodes : List NodeState) (p : Part) (number : ℕ) : Type 0 where
  pub node : NodeState
  pub stands : slice_get nodes number ≡ Some node
  pub leaf : node.level ≡ 0
  pub key : ℕ
  pub version : ℕ
  pub held : holds key version node ≡ true
  pub inside : lies_in p key version ≡ true

-- the numbers of nodes
abbrev pub numbers : List NodeNo → List ℕ
numbers nodes = map (λ n. n.0) nodes

-- whether a node is alive at the version
abbrev pub is_alive : ℕ → Option NodeState → Bool
is_alive version None = false
is_alive version (Some n) = within n.born n.died version

-- whether the node with the number is alive at the version
abbrev pub alive_at : List NodeState → ℕ → NodeNo → Bool
alive_at nodes version number = is_alive version (slice_get nodes number.0)
