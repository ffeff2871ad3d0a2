-- The leaves to which a leaf links (this project's own, after van den Bercken and Seeger 1996).
use Rattle.std.specs.Prelude.{◌≡◌, ◌≢◌, ℕ, ◌<◌, List, [], ◌∷◌, All, nat_eq, cond, count_by, slice_get, Some, map}
use Rattle.tq_arena.specs.declared.arena.NodeNo.{NodeNo}
use Rattle.tq_mvbt.specs.declared.node.Link.{Link}
use Rattle.tq_mvbt.specs.NodeState.{NodeState}

-- the link to a node
abbrev pub link_to : ℕ → NodeState → Link
link_to number n = record { node = record { 0 = number }; low = n.low; high = n.high }

-- the link to a node, if it is a leaf
abbrev pub links_to : ℕ → NodeState → List Link
links_to number n = cond (nat_eq n.level 0) (link_to number n ∷ []) []

-- the numbers of the linked nodes
abbrev pub linked_numbers : List Link → List NodeNo
linked_numbers links = map (λ l. l.node) links

-- the link is to a leaf whose life ended at the version, and has its range
pub record IsLinkTo (nodes : List NodeState) (version : ℕ) (l : Link) : Type 0 where
  pub leaf : NodeState
  pub stands : slice_get nodes l.node.0 ≡ Some leaf
  pub at_level : leaf.level ≡ 0
  pub died : leaf.died ≡ version
  pub low : leaf.low ≡ l.low
  pub high : leaf.high ≡ l.high

-- the links are to exactly the leaves whose life ended at the version, each once
pub record LinkJust (nodes : List NodeState) (version : ℕ) (links : List Link) : Type 0 where
  pub back : All (IsLinkTo nodes version) links
  pub once : (i : ℕ) (leaf : NodeState) → slice_get nodes i ≡ Some leaf → leaf.level ≡ 0 → leaf.died ≡ version → count_by (λ l. nat_eq l.node.0 i) links ≡ 1

-- a leaf links exactly the leaves whose life ended when its own began, and an index node none
pub record AreLinked (nodes : List NodeState) : Type 0 where
  pub leaves : (i : ℕ) (n : NodeState) → slice_get nodes i ≡ Some n → n.level ≡ 0 → LinkJust nodes n.born n.links
  pub index : (i : ℕ) (n : NodeState) → slice_get nodes i ≡ Some n → 0 < n.level → n.links ≡ []

-- during an update: leaves from before the version keep their links; the given links are to the leaves that the update
-- ended, and are those of the leaves that it began
pub record AreLinking (version : ℕ) (links : List Link) (nodes : List NodeState) : Type 0 where
  pub before : (i : ℕ) (n : NodeState) → slice_get nodes i ≡ Some n → n.level ≡ 0 → n.born < version → LinkJust nodes n.born n.links
  pub born : (i : ℕ) (n : NodeState) → slice_get nodes i ≡ Some n → n.level ≡ 0 → n.born ≢ version → n.born < version
  pub after : (i : ℕ) (n : NodeState) → slice_get nodes i ≡ Some n → n.level ≡ 0 → n.born ≡ version → n.links ≡ links
  pub ended : LinkJust nodes version links
  pub index : (i : ℕ) (n : NodeState) → slice_get nodes i ≡ Some n → 0 < n.level → n.links ≡ []

-- the update has begun no leaf
abbrev pub NoLeafBegun : ℕ → List NodeState → Type 0
NoLeafBegun version nodes = (i : ℕ) (n : NodeState) → slice_get nodes i ≡ Some n → n.level ≡ 0 → n.born < version

-- the update has ended no leaf and begun none
pub record AreUntouched (version : ℕ) (nodes : List NodeState) : Type 0 where
  pub linking : AreLinking version [] nodes
  pub none : NoLeafBegun version nodes

-- the links are right during an update, for the links of the leaves that began at the version
pub record SomeLinking (version : ℕ) (nodes : List NodeState) : Type 0 where
  pub links : List Link
  pub linking : AreLinking version links nodes

-- a step on the leaves, or on a level above them, keeps the links right
pub record KeepsLinks (level version : ℕ) (old new : List NodeState) : Type 0 where
  pub leaves : level ≡ 0 → AreUntouched version old → SomeLinking version new
  pub index : 0 < level → SomeLinking version old → SomeLinking version new

-- an update that has reached a level
pub record UpdatesLinks (level version : ℕ) (old new : List NodeState) : Type 0 where
  pub leaves : level ≡ 0 → AreUntouched version old → AreUntouched version new
  pub index : 0 < level → AreUntouched version old → SomeLinking version new
