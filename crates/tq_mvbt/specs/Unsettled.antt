-- The nodes during an update: one node may have too many entries or too few live ones (this project's own).
use Rattle.std.specs.Prelude.{◌≡◌, ◌≢◌, ℕ, ◌+◌, ◌-◌, ◌<◌, ◌≤◌, Bool, true, false, List, All, take, drop, length, slice_get, Some, ◌⊎◌, count_by}
use Rattle.tq_mvbt.specs.NodeState.{NodeState}
use Rattle.tq_mvbt.specs.Points.{now, within, is_live}
use Rattle.tq_mvbt.specs.Shape.{top, IsForest, HasEnoughLive, IsFilled, live_at, with_life, raised}

-- a node from before the version, of which exactly the last n entries began at the version
pub record IsFromBefore (version last : ℕ) (n : NodeState) : Type 0 where
  pub born : n.born < version
  pub within_items : last ≤ length n.entries
  pub few : length n.entries ≤ 32 + last
  pub old : All (λ e. e.born < version) (take (length n.entries - last) n.entries)
  pub young : All (λ e. version ≤ e.born) (drop (length n.entries - last) n.entries)

-- the number is that of a current node of the level, from before the version
pub record IsUnsettled (version level last : ℕ) (nodes : List NodeState) (number : ℕ) : Type 0 where
  pub node : NodeState
  pub stands : slice_get nodes number ≡ Some node
  pub at_level : node.level ≡ level
  pub died : node.died ≡ now
  pub from_before : IsFromBefore version last node

-- the node's range lies in that of the parent
pub record IsWithinParent (nodes : List NodeState) (number parent : ℕ) : Type 0 where
  pub child : NodeState
  pub above : NodeState
  pub child_stands : slice_get nodes number ≡ Some child
  pub above_stands : slice_get nodes parent ≡ Some above
  pub low : above.low ≤ child.low
  pub high : child.high ≤ above.high

-- a tree with these lives and this height remains one
abbrev pub StaysForest : ℕ → List NodeState → List NodeState → Type 0
StaysForest version old new = (lives : ℕ → ℕ → Bool) (height : ℕ → ℕ) → IsForest version lives height old → IsForest version lives height new

-- two nodes with adjacent ranges
pub record AreAdjacent (nodes : List NodeState) (number sibling : ℕ) : Type 0 where
  pub one : NodeState
  pub other : NodeState
  pub one_stands : slice_get nodes number ≡ Some one
  pub other_stands : slice_get nodes sibling ≡ Some other
  pub one_wide : one.low < one.high
  pub other_wide : other.low < other.high
  pub touch : (one.high ≡ other.low) ⊎ (other.high ≡ one.low)

-- a node with at most 7 live entries
pub record HasFewLive (nodes : List NodeState) (number : ℕ) : Type 0 where
  pub node : NodeState
  pub stands : slice_get nodes number ≡ Some node
  pub few : count_by is_live node.entries ≤ 7

-- a tree becomes one in which the test gives the key's life from the version on
abbrev pub KeyChanges : ℕ → ℕ → Bool → List NodeState → List NodeState → Type 0
KeyChanges version key alive old new =
    (before : ℕ) (lives : ℕ → ℕ → Bool) (height : ℕ → ℕ) → before < version → (alive ≡ true → (v : ℕ) → lives key v ≡ false)
    → IsForest before lives height old → IsForest version (with_life lives key version alive) height new

-- a node with at least 8 live entries
pub record HasManyLive (nodes : List NodeState) (number : ℕ) : Type 0 where
  pub node : NodeState
  pub stands : slice_get nodes number ≡ Some node
  pub many : 8 ≤ count_by is_live node.entries

-- a node with more than 32 entries, or with too few live ones
pub record NeedsChange (nodes : List NodeState) (number least : ℕ) : Type 0 where
  pub node : NodeState
  pub stands : slice_get nodes number ≡ Some node
  pub unfit : (32 < length node.entries) ⊎ (count_by is_live node.entries < least)

-- the node has some of the other node's keys, and not all
pub record IsPart (n above : NodeState) : Type 0 where
  pub wide : n.low < n.high
  pub low : above.low ≤ n.low
  pub high : n.high ≤ above.high
  pub part : (above.low < n.low) ⊎ (n.high < above.high)

-- the node is current and on the level; the other is current and one level higher, and the node has some of its keys,
-- not all
pub record IsPartOf (nodes : List NodeState) (level number parent : ℕ) : Type 0 where
  pub node : NodeState
  pub above : NodeState
  pub stands : slice_get nodes number ≡ Some node
  pub above_stands : slice_get nodes parent ≡ Some above
  pub at_level : node.level ≡ level
  pub above_level : above.level ≡ level + 1
  pub died : node.died ≡ now
  pub above_died : above.died ≡ now
  pub part : IsPart node above

-- enough of the node's entries lived at each earlier version
pub record IsFilledBefore (version : ℕ) (n : NodeState) : Type 0 where
  pub enough : (v : ℕ) → v < version → within n.born n.died v ≡ true → HasEnoughLive n (live_at v n)

-- at most one live entry is missing
pub record HasNearlyEnoughLive (n : NodeState) (count : ℕ) : Type 0 where
  pub lower : 0 < n.low → 4 ≤ count
  pub upper : n.high < top → 4 ≤ count
  pub index : 0 < n.level → 1 ≤ count

-- nodes of some tree up to the version
pub record IsForestBy (version : ℕ) (nodes : List NodeState) : Type 0 where
  pub lives : ℕ → ℕ → Bool
  pub height : ℕ → ℕ
  pub forest : IsForest version lives height nodes

-- an update has reached the node, which alone may have too many entries or too few live ones; on its level and above
-- nothing else has changed
pub record IsSettling (version level last : ℕ) (nodes : List NodeState) (number : ℕ) : Type 0 where
  pub loose : IsUnsettled version level last nodes number
  pub few : last ≤ 2
  pub before : IsFilledBefore version loose.node
  pub near : HasNearlyEnoughLive loose.node (count_by is_live loose.node.entries)
  pub others : (i : ℕ) (n : NodeState) → slice_get nodes i ≡ Some n → i ≢ number → IsFilled n
  pub above : (i : ℕ) (n : NodeState) → slice_get nodes i ≡ Some n → level ≤ n.level → i ≢ number → IsFromBefore version 0 n

-- a node after a change: it keeps its number, level, range and birth; from the level on it also keeps its end
pub record IsGrown (version level : ℕ) (new : List NodeState) (i : ℕ) (n : NodeState) : Type 0 where
  pub later : NodeState
  pub stands : slice_get new i ≡ Some later
  pub level_is : later.level ≡ n.level
  pub low : later.low ≡ n.low
  pub high : later.high ≡ n.high
  pub born : later.born ≡ n.born
  pub died : (later.died ≡ n.died) ⊎ ((n.died ≡ now) × (later.died ≡ version))
  pub kept : level ≤ n.level → later.died ≡ n.died

-- each node keeps its number
abbrev pub Grows : ℕ → ℕ → List NodeState → List NodeState → Type 0
Grows version level old new = (i : ℕ) (n : NodeState) → slice_get old i ≡ Some n → IsGrown version level new i n

-- the number is that of a current node of the level
pub record IsCurrentNode (level : ℕ) (nodes : List NodeState) (number : ℕ) : Type 0 where
  pub node : NodeState
  pub stands : slice_get nodes number ≡ Some node
  pub at_level : node.level ≡ level
  pub died : node.died ≡ now

-- the nodes of a tree before an update; a key that is inserted has never lived
pub record IsReady (version key : ℕ) (alive : Bool) (nodes : List NodeState) : Type 0 where
  pub before : ℕ
  pub lives : ℕ → ℕ → Bool
  pub height : ℕ → ℕ
  pub later : before < version
  pub never : alive ≡ true → (v : ℕ) → lives key v ≡ false
  pub forest : IsForest before lives height nodes
  pub filled : All IsFilled nodes

-- a tree of this height from the version on has the given height from there on
abbrev pub HeightChanges : ℕ → ℕ → ℕ → List NodeState → List NodeState → Type 0
HeightChanges version levels levels' old new =
    (lives : ℕ → ℕ → Bool) (height : ℕ → ℕ) → ((v : ℕ) → version ≤ v → v < now → height v ≡ levels)
    → IsForest version lives height old → IsForest version lives (raised height version levels') new

-- if the node's range ends before that of the parent, the other node begins at that key
abbrev pub IsRightFirst : List NodeState → ℕ → ℕ → ℕ → Type 0
IsRightFirst nodes number parent sibling = (node above other : NodeState) → slice_get nodes number ≡ Some node → slice_get nodes parent ≡ Some above → slice_get nodes sibling ≡ Some other
    → node.high < above.high → other.low ≡ node.high
