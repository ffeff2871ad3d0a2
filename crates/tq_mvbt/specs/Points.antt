-- Points, each a key and a version: which entries and nodes hold one, and what ends (Becker et al. 1996; the mark of
-- what lives now is this project's own).
use Rattle.std.specs.Prelude.{◌≡◌, ℕ, Bool, List, nat_le, nat_lt, nat_eq, cond, ◌&&◌, slice_get, Some, None, Option, true}
use Rattle.tq_mvbt.specs.declared.entry.Entry.{Entry}
use Rattle.tq_mvbt.specs.NodeState.{NodeState}

-- the mark of what lives now
abbrev pub now : ℕ
now = 4294967295

-- the version at which a life ended, or none if it lasts
abbrev pub end_of : ℕ → Option ℕ
end_of v = cond (nat_eq v now) None (Some v)

-- whether a number is at least the first bound and less than the last
abbrev pub within : ℕ → ℕ → ℕ → Bool
within first last x = nat_le first x && nat_lt x last

-- whether the entry lives now
abbrev pub is_live : Entry → Bool
is_live e = nat_eq e.dead now

-- the entry, ended at the version if it lives now and its low key lies in the range
abbrev pub with_end : ℕ → ℕ → ℕ → Entry → Entry
with_end low high version e = cond (is_live e && within low high e.low) (record e { dead = version }) e

-- whether the entry lives now and its range holds the key
abbrev pub leads : ℕ → Entry → Bool
leads k e = is_live e && within e.low e.high k

-- the child of an entry that lives now and whose range holds the key
pub record IsChild (entries : List Entry) (k child : ℕ) : Type 0 where
  pub place : ℕ
  pub entry : Entry
  pub stands : slice_get entries place ≡ Some entry
  pub leads_to : leads k entry ≡ true
  pub same : entry.child ≡ child

-- whether the entry holds the key at the version
abbrev pub covers : ℕ → ℕ → Entry → Bool
covers k v e = within e.low e.high k && within e.born e.dead v

-- whether the node's region holds the key at the version
abbrev pub holds : ℕ → ℕ → NodeState → Bool
holds k v n = within n.low n.high k && within n.born n.died v
