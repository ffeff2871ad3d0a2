-- What one step does to the nodes of an arena (this project's own).
use Rattle.std.specs.Prelude.{◌≡◌, ℕ, ◌+◌, ◌≤◌, ◌-◌, ◌<◌, List, [], ◌∷◌, ◌++◌, map, take, length, slice_get, slice_set, Some, IsPermutation, ◌/◌, All}
use Rattle.tq_arena.specs.Contents.{Contents}
use Rattle.tq_mvbt.specs.declared.entry.Entry.{Entry}
use Rattle.tq_mvbt.specs.declared.node.Link.{Link}
use Rattle.tq_mvbt.specs.NodeState.{NodeState}
use Rattle.tq_mvbt.specs.Points.{now, with_end}

-- the node after the live entries of the range ended and others were added
abbrev pub edited : ℕ → ℕ → ℕ → List Entry → NodeState → NodeState
edited low high version added n = record n { entries = map (with_end low high version) n.entries ++ added }

-- the node with one more entry
abbrev pub with_entry : Entry → NodeState → NodeState
with_entry entry n = record n { entries = n.entries ++ entry ∷ [] }

-- the node, dead from the version on, without its last n entries
abbrev pub retired : ℕ → ℕ → NodeState → NodeState
retired version last n = record n { died = version; entries = take (length n.entries - last) n.entries }

-- a node that begins at the version
abbrev pub fresh : ℕ → ℕ → ℕ → ℕ → List Entry → List Link → NodeState
fresh level low high version items links = record { level = level; low = low; high = high; born = version; died = now; entries = items; links = links }

-- the entry for the node with the number
abbrev pub entry_for : ℕ → NodeState → Entry
entry_for number n = record { low = n.low; high = n.high; born = n.born; dead = now; child = number }

-- the node with the number changes, and no other
pub record Changes (old new : Contents NodeState) (number : ℕ) (change : NodeState → NodeState) : Type 0 where
  pub node : NodeState
  pub stands : slice_get old.nodes number ≡ Some node
  pub nodes : new.nodes ≡ slice_set old.nodes number (change node)
  pub room : new.room ≡ old.room

-- the node with the number has room for n more entries
pub record HasRoom (nodes : List NodeState) (number more : ℕ) : Type 0 where
  pub node : NodeState
  pub stands : slice_get nodes number ≡ Some node
  pub room : length node.entries + more ≤ 34

-- a node is added
pub record Puts (old new : Contents NodeState) (node : NodeState) (entry : Entry) : Type 0 where
  pub nodes : new.nodes ≡ old.nodes ++ node ∷ []
  pub entry_is : entry ≡ entry_for (length old.nodes) node
  pub room : new.room + 1 ≡ old.room

-- a list of entries is divided at a key
pub record IsDivided (items lower upper : List Entry) (middle : ℕ) : Type 0 where
  pub same : IsPermutation items (lower ++ upper)
  pub below : All (λ e. e.low ≤ middle) lower
  pub above : All (λ e. middle ≤ e.low) upper
  pub least : Entry
  pub rest : List Entry
  pub first : upper ≡ least ∷ rest
  pub middle_is : least.low ≡ middle
  pub lower_len : length lower ≡ length items / 2
  pub upper_len : length upper ≡ length items - length items / 2

-- one node with the entries is added
pub record PutsOne (old new : Contents NodeState) (level low high version : ℕ) (items added : List Entry) (links : List Link) : Type 0 where
  pub entry : Entry
  pub puts : Puts old new (fresh level low high version items links) entry
  pub added_is : added ≡ entry ∷ []

-- two nodes are added that share the entries
pub record PutsTwo (old new : Contents NodeState) (level low high version : ℕ) (items added : List Entry) (links : List Link) : Type 0 where
  pub lower : List Entry
  pub upper : List Entry
  pub middle : ℕ
  pub divided : IsDivided items lower upper middle
  pub between : Contents NodeState
  pub lower_entry : Entry
  pub upper_entry : Entry
  pub puts_lower : Puts old between (fresh level low middle version lower links) lower_entry
  pub puts_upper : Puts between new (fresh level middle high version upper links) upper_entry
  pub added_is : added ≡ lower_entry ∷ upper_entry ∷ []

-- one node with the entries is added, or two if there are 25 or more
pub record PutsNodes (old new : Contents NodeState) (level low high version : ℕ) (items added : List Entry) (links : List Link) : Type 0 where
  pub few : length items < 25 → PutsOne old new level low high version items added links
  pub many : 25 ≤ length items → PutsTwo old new level low high version items added links
