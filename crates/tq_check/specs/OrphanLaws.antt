-- Laws of rows that have no parent at some time. This project's own.
use Rattle.std.specs.Prelude.{◌≡◌, ◌<◌, ◌≤◌, ◌⊎◌, ℕ, Bool, true, false, List, Some, None, length}
use Rattle.tq_base.specs.RowValues.{value_at}
use Rattle.tq_base.specs.declared.fragment.Fragment.{Fragment}
use Rattle.tq_check.specs.Orphans.{has_parent, missing_of, orphan_count, IsOrphanOrder, Linked}
use Rattle.tq_check.specs.declared.missing.Missing.{Missing}
use Rattle.tq_check.specs.declared.orphans.Orphan.{Orphan}

-- the list of all orphans is as long as their number
abbrev pub AllOrphansAreListed : Type 0
AllOrphansAreListed = (linked : Linked) (order : List Orphan) → IsOrphanOrder linked order → length order ≡ orphan_count linked

-- within the period from `start` to `end`: each instant before the missing period passes, none within it does, and it
-- ends with the whole period or at an instant that passes
pub record IsFirstMissing (test : ℕ → Bool) (start end : ℕ) (missing : Missing) : Type 0 where
  pub begins : start ≤ missing.from
  pub some : missing.from < missing.to
  pub ends : missing.to ≤ end
  pub before : (at : ℕ) → start ≤ at → at < missing.from → test at ≡ true
  pub within : (at : ℕ) → missing.from ≤ at → at < missing.to → test at ≡ false
  pub next : (missing.to ≡ end) ⊎ (test missing.to ≡ true)

-- what an orphan misses is the first maximal period within its own in which it has no parent
abbrev pub MissingPeriodsAreFirst : Type 0
MissingPeriodsAreFirst =
    (linked : Linked) (row : Fragment) (missing : Missing) → missing_of linked row ≡ Some missing
    → IsFirstMissing (has_parent linked (value_at row.values linked.column)) row.period.start row.period.end missing

-- a row that is no orphan has a parent at each instant of its period
abbrev pub OtherRowsHaveParents : Type 0
OtherRowsHaveParents =
    (linked : Linked) (row : Fragment) → missing_of linked row ≡ None
    → (at : ℕ) → row.period.start ≤ at → at < row.period.end → has_parent linked (value_at row.values linked.column) at ≡ true
