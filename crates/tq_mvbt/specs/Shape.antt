-- The properties of the nodes of a tree. They are stated for points, each a key and a version (Becker et al. 1996, with
-- 32 entries in a node and 5 live ones).
use Rattle.std.specs.Prelude.{◌≡◌, ℕ, ◌+◌, ◌<◌, ◌≤◌, Bool, true, List, nat_le, nat_lt, nat_eq, cond, ◌&&◌, All, count_by, length, slice_get, Some}
use Rattle.tq_mvbt.specs.declared.entry.Entry.{Entry}
use Rattle.tq_mvbt.specs.NodeState.{NodeState}
use Rattle.tq_mvbt.specs.Points.{now, within, covers, holds}

-- one more than the greatest key
abbrev pub top : ℕ
top = 79228162514264337593543950336

-- 1 if the test is true, else 0
abbrev pub tally : Bool → ℕ
tally b = cond b 1 0

-- a leaf's entry has its key's whole life up to the version at which the leaf died
pub record IsRow (lives : ℕ → ℕ → Bool) (n : NodeState) (e : Entry) : Type 0 where
  pub one_key : e.high ≡ e.low + 1
  pub life : (v : ℕ) → v < n.died → lives e.low v ≡ within e.born e.dead v

-- an index node's entry is for a child one level lower, and has its whole life up to the version at which the node died
pub record IsBranch (nodes : List NodeState) (n : NodeState) (e : Entry) : Type 0 where
  pub child : NodeState
  pub stands : slice_get nodes e.child ≡ Some child
  pub level : child.level + 1 ≡ n.level
  pub low : child.low ≡ e.low
  pub high : child.high ≡ e.high
  pub born : child.born ≡ e.born
  pub life : (v : ℕ) → v < n.died → nat_lt v child.died ≡ nat_lt v e.dead

-- the entry lies in the node's key range, its life meets the node's, and nothing begins or ends after the version
pub record IsPlaced (version : ℕ) (n : NodeState) (e : Entry) : Type 0 where
  pub low : n.low ≤ e.low
  pub wide : e.low < e.high
  pub high : e.high ≤ n.high
  pub begins : e.born < n.died
  pub meets : n.born < e.dead
  pub lived : e.born < e.dead
  pub born : e.born ≤ version
  pub ends : e.dead ≤ now
  pub ended : e.dead < now → e.dead ≤ version

-- the number of entries that hold a point of a node's region: in a leaf 1 if the key lives, above the leaves always 1
abbrev pub listed : (ℕ → ℕ → Bool) → ℕ → ℕ → ℕ → ℕ
listed lives level k v = cond (nat_eq level 0) (tally (lives k v)) 1

-- a node, regardless of its number of entries
pub record IsNode (version : ℕ) (lives : ℕ → ℕ → Bool) (nodes : List NodeState) (n : NodeState) : Type 0 where
  pub wide : n.low < n.high
  pub high : n.high ≤ top
  pub begins : n.born < n.died
  pub born : n.born ≤ version
  pub ends : n.died ≤ now
  pub ended : n.died < now → n.died ≤ version
  pub placed : All (IsPlaced version n) n.entries
  pub rows : n.level ≡ 0 → All (IsRow lives n) n.entries
  pub branches : 0 < n.level → All (IsBranch nodes n) n.entries
  pub lists : (k v : ℕ) → holds k v n ≡ true → count_by (covers k v) n.entries ≡ listed lives n.level k v

-- the number of entries that live at the version
abbrev pub live_at : ℕ → NodeState → ℕ
live_at v n = count_by (λ e. within e.born e.dead v) n.entries

-- enough of the entries live: 5 if the node does not hold all keys, and 2 above the leaves
pub record HasEnoughLive (n : NodeState) (count : ℕ) : Type 0 where
  pub lower : 0 < n.low → 5 ≤ count
  pub upper : n.high < top → 5 ≤ count
  pub index : 0 < n.level → 2 ≤ count

-- the node has at most 32 entries, and enough live ones at each version of its life
pub record IsFilled (n : NodeState) : Type 0 where
  pub fits : length n.entries ≤ 32
  pub enough : (v : ℕ) → within n.born n.died v ≡ true → HasEnoughLive n (live_at v n)

-- the nodes of a level that hold a point
abbrev pub at_point : ℕ → ℕ → ℕ → NodeState → Bool
at_point level k v n = nat_eq n.level level && holds k v n

-- each level tiles the points of those versions at which the tree has the level
abbrev pub Tiles : (ℕ → ℕ) → List NodeState → Type 0
Tiles height nodes = (level k v : ℕ) → k < top → v < now → count_by (at_point level k v) nodes ≡ tally (nat_lt level (height v))

-- the nodes of a tree, regardless of their numbers of entries
pub record IsForest (version : ℕ) (lives : ℕ → ℕ → Bool) (height : ℕ → ℕ) (nodes : List NodeState) : Type 0 where
  pub each : All (IsNode version lives nodes) nodes
  pub tiles : Tiles height nodes

-- nodes of some tree
pub record IsSomeForest (nodes : List NodeState) : Type 0 where
  pub version : ℕ
  pub lives : ℕ → ℕ → Bool
  pub height : ℕ → ℕ
  pub small : version < now
  pub forest : IsForest version lives height nodes

-- the number is that of a current node of the level whose range holds the key
pub record IsFound (nodes : List NodeState) (level key number : ℕ) : Type 0 where
  pub node : NodeState
  pub stands : slice_get nodes number ≡ Some node
  pub at_level : node.level ≡ level
  pub died : node.died ≡ now
  pub low : node.low ≤ key
  pub high : key < node.high

-- the lives, in which the test gives the key's life from the version on
abbrev pub with_life : (ℕ → ℕ → Bool) → ℕ → ℕ → Bool → ℕ → ℕ → Bool
with_life lives key version alive k v = cond (nat_eq k key && nat_le version v) alive (lives k v)

-- the height, in which the given one holds from the version on
abbrev pub raised : (ℕ → ℕ) → ℕ → ℕ → ℕ → ℕ
raised height version levels v = cond (nat_le version v) levels (height v)
