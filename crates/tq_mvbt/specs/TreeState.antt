-- How contracts see a tree, and the invariant of every tree. (Becker, Gschwind, Ohler, Seeger and Widmayer 1996, with
-- the numbers of this project.)
use Rattle.std.specs.Prelude.{◌≡◌, ℕ, zero, suc, ◌+◌, ◌*◌, ◌<◌, ◌≤◌, Bool, false, List, [], ◌∷◌, nat_lt, nat_eq, ◌&&◌, ◌||◌, All, count_by, length, slice_get, Some, ◌⊎◌}
use Rattle.std.specs.List.Sorted.{IsNonDecreasingBy}
use Rattle.std.specs.Option.{IfSome}
use Rattle.tq_mvbt.specs.declared.root.Root.{Root}
use Rattle.tq_mvbt.specs.NodeState.{NodeState}
use Rattle.tq_mvbt.specs.Points.{now, within, covers, holds}
use Rattle.tq_mvbt.specs.Links.{AreLinked}
use Rattle.tq_mvbt.specs.Shape.{top, tally, IsForest, IsFilled}
use Rattle.tq_mvbt.specs.Directory.{root_of}

-- the version of the last change, the nodes by their numbers, and the roots
pub record TreeState : Type 0 where
  pub version : ℕ
  pub nodes : List NodeState
  pub roots : List Root

-- whether the key lives at the version: the leaf whose region holds the point lists it
abbrev pub lives_of : List NodeState → ℕ → ℕ → Bool
lives_of [] k v = false
lives_of (n ∷ nodes) k v = (nat_eq n.level 0 && holds k v n && nat_lt 0 (count_by (covers k v) n.entries)) || lives_of nodes k v

-- the key lives exactly at the versions from its birth up to its first dead one, which is excluded; if it is never
-- dead, that is the mark 4,294,967,295
pub record HasLife (nodes : List NodeState) (key born dead : ℕ) : Type 0 where
  pub lived : born < dead
  pub ends : dead ≤ now
  pub lives : (v : ℕ) → v < now → lives_of nodes key v ≡ within born dead v

-- the number of levels at a version
abbrev pub height_of : List Root → ℕ → ℕ
height_of roots v = (root_of roots v).levels

-- a root of a version: a node over all keys that is alive then, and has the root's number of levels
pub record IsRootAt (nodes : List NodeState) (v : ℕ) (r : Root) : Type 0 where
  pub node : NodeState
  pub stands : slice_get nodes r.node ≡ Some node
  pub level : node.level + 1 ≡ r.levels
  pub low : node.low ≡ 0
  pub high : node.high ≡ top
  pub born : node.born ≤ v
  pub died : v < node.died

-- the directory: roots in the order of their versions from 0 on, one for each version
pub record AreRoots (version : ℕ) (nodes : List NodeState) (roots : List Root) : Type 0 where
  pub some : 0 < length roots
  pub first : IfSome (slice_get roots 0) (λ r. r.from ≡ 0)
  pub ordered : IsNonDecreasingBy (λ r. r.from) roots
  pub latest : All (λ r. r.from ≤ version) roots
  pub stand : (v : ℕ) → v < now → IsRootAt nodes v (root_of roots v)

-- how many of n keys from the low one on pass the test
unfoldable pub count_keys : (ℕ → Bool) → ℕ → ℕ → ℕ
count_keys p low zero = 0
count_keys p low (suc n) = tally (p (low + n)) + count_keys p low n

-- a key's versions are an interval, which ends at the last change or earlier, or never
pub record IsLife (version : ℕ) (lives : ℕ → Bool) : Type 0 where
  pub born : ℕ
  pub dead : ℕ
  pub begins : born ≤ version
  pub ends : (dead ≡ now) ⊎ (dead ≤ version)
  pub lives_at : (v : ℕ) → v < now → lives v ≡ within born dead v

-- each key has one life, and at no version do more keys live than there were versions
pub record AreLives (version : ℕ) (lives : ℕ → ℕ → Bool) : Type 0 where
  pub each : (k : ℕ) → k < top → IsLife version (lives k)
  pub few : (v : ℕ) → v < now → count_keys (λ k. lives k v) 0 top ≤ v

-- the invariant of every tree: its nodes tile the keys at each version and list the lives; enough of their entries
-- live; the directory names their roots; there are at most 10 levels; each leaf links those that it replaced
pub record IsTree (version : ℕ) (nodes : List NodeState) (roots : List Root) : Type 0 where
  pub small : version ≤ 16777216
  pub forest : IsForest version (lives_of nodes) (height_of roots) nodes
  pub filled : All IsFilled nodes
  pub lives : AreLives version (lives_of nodes)
  pub rooted : AreRoots version nodes roots
  pub bounded : length nodes ≤ 21 * version + 1
  pub linked : AreLinked nodes
