-- The nodes of a tree as regions of keys and versions, and what they list. (Becker et al. 1996: the weak version
-- condition, with at least 5 live entries.)
use Rattle.std.specs.Prelude.{◌≡◌, ◌≢◌, ℕ, ◌+◌, ◌<◌, ◌≤◌, ◌⊎◌, ◌↔◌, Bool, true, List, nat_lt, nat_le, ◌&&◌, count_by, slice_get, Some, None, Option}
use Rattle.tq_mvbt.specs.declared.entry.Entry.{Entry}
use Rattle.tq_mvbt.specs.declared.region.Region.{Region}
use Rattle.tq_mvbt.specs.declared.root.Root.{Root}
use Rattle.tq_mvbt.specs.NodeState.{NodeState}
use Rattle.tq_mvbt.specs.Points.{now, within, covers, holds}
use Rattle.tq_mvbt.specs.Shape.{top, live_at}
use Rattle.tq_mvbt.specs.Directory.{root_of}
use Rattle.tq_mvbt.specs.TreeState.{lives_of, HasLife}
use Rattle.tq_mvbt.specs.Regions.{regions_from}
use Rattle.tq_mvbt.specs.Links.{AreLinked}

-- whether the version comes before the end of a life
abbrev pub before_end : ℕ → Option ℕ → Bool
before_end v None = true
before_end v (Some d) = nat_lt v d

-- whether the region holds the key at the version
abbrev pub region_holds : ℕ → ℕ → Region → Bool
region_holds k v r = within r.low r.high k && (nat_le r.born v && before_end v r.died)

-- the node has an entry for the key
pub record Lists (n : NodeState) (k : ℕ) : Type 0 where
  pub place : ℕ
  pub entry : Entry
  pub stands : slice_get n.entries place ≡ Some entry
  pub key : entry.low ≡ k

-- the key lives at a version at which the node's region holds it
pub record Meets (nodes : List NodeState) (n : NodeState) (k : ℕ) : Type 0 where
  pub version : ℕ
  pub held : holds k version n ≡ true
  pub lives : lives_of nodes k version ≡ true

-- the entry is for a node that is alive at the version, one level lower, over the entry's keys
pub record IsChildAt (nodes : List NodeState) (n : NodeState) (e : Entry) (v : ℕ) : Type 0 where
  pub child : NodeState
  pub stands : slice_get nodes e.child ≡ Some child
  pub level : child.level + 1 ≡ n.level
  pub low : child.low ≡ e.low
  pub high : child.high ≡ e.high
  pub alive : within child.born child.died v ≡ true

-- each point lies in exactly one region; a leaf lists exactly the keys whose life meets its region, with their lives; a
-- node that is not the root has at least 5 live entries, an index node at least 2; the live entries of an index node
-- are for nodes that are alive then, and their ranges tile its own; a leaf links exactly the leaves whose life ended
-- when its own began
pub record IsTiling (nodes : List NodeState) (roots : List Root) : Type 0 where
  pub one_region : (k v : ℕ) → k < top → v < now → count_by (region_holds k v) (regions_from 0 nodes) ≡ 1
  pub lists : (i k : ℕ) (n : NodeState) → slice_get nodes i ≡ Some n → n.level ≡ 0 → Lists n k ↔ Meets nodes n k
  pub born : (i j : ℕ) (n : NodeState) (e : Entry) (born dead : ℕ) → slice_get nodes i ≡ Some n → n.level ≡ 0 → slice_get n.entries j ≡ Some e → HasLife nodes e.low born dead → e.born ≡ born
  pub dead : (i j : ℕ) (n : NodeState) (e : Entry) (born dead : ℕ) → slice_get nodes i ≡ Some n → n.level ≡ 0 → slice_get n.entries j ≡ Some e → HasLife nodes e.low born dead → (e.dead < n.died) ⊎ ((dead < n.died) ⊎ (n.died ≡ now)) → e.dead ≡ dead
  pub enough : (i v : ℕ) (n : NodeState) → slice_get nodes i ≡ Some n → within n.born n.died v ≡ true → i ≢ (root_of roots v).node → 5 ≤ live_at v n
  pub index : (i v : ℕ) (n : NodeState) → slice_get nodes i ≡ Some n → within n.born n.died v ≡ true → 0 < n.level → 2 ≤ live_at v n
  pub children : (i j v : ℕ) (n : NodeState) (e : Entry) → slice_get nodes i ≡ Some n → 0 < n.level → within n.born n.died v ≡ true → slice_get n.entries j ≡ Some e → within e.born e.dead v ≡ true → IsChildAt nodes n e v
  pub linked : AreLinked nodes
  pub tiled : (i k v : ℕ) (n : NodeState) → slice_get nodes i ≡ Some n → 0 < n.level → holds k v n ≡ true → count_by (covers k v) n.entries ≡ 1
