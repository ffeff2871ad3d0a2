-- Rows of one table, the child, whose value in a column is at some time in no valid row of another table, the parent.
-- As the temporal foreign key of SQL:2011.
use Rattle.std.specs.Prelude.{ℕ, zero, suc, ◌+◌, ◌-◌, ◌&&◌, Bool, not, is_some, if◌then◌else◌, List, [], ◌∷◌, Option, Some, None, IsPermutation, IsSorted, slice_index_or}
use Rattle.std.specs.List.{cons_option, count_by, list_any}
use Rattle.std.specs.Option.{option_map, unwrap_or}
use Rattle.std.specs.Ordering.{eq_by_cmp, nat_cmp, on, then_cmp}
use Rattle.std.specs.declared.cmp.Ordering.{Ordering}
use Rattle.tq_base.specs.Keys.{no_row}
use Rattle.tq_base.specs.Periods.{holds}
use Rattle.tq_base.specs.RowValues.{value_at}
use Rattle.tq_base.specs.ValueOrder.{value_cmp}
use Rattle.tq_base.specs.declared.fragment.Fragment.{Fragment}
use Rattle.tq_base.specs.declared.value.Value.{Value}
use Rattle.tq_check.specs.declared.missing.Missing.{Missing}
use Rattle.tq_check.specs.declared.orphans.Orphan.{Orphan}
use Rattle.tq_check.specs.declared.references.Reference.{Reference}

-- the rows of a child and of its parent, and the column of each
pub record Linked : Type 0 where
  pub children : List Fragment
  pub column : ℕ
  pub parents : List Fragment
  pub parent_column : ℕ

-- the rows of a child and of its parent, with the columns of a reference
abbrev pub linked_rows : List Fragment → List Fragment → Reference → Linked
linked_rows children parents reference = record { children = children; column = reference.child.column; parents = parents; parent_column = reference.parent.column }

-- whether a row of the parent is valid at the instant and has the value in the parent's column
abbrev pub has_parent : Linked → Value → ℕ → Bool
has_parent linked value at =
    list_any (λ (row : Fragment). eq_by_cmp value_cmp value (value_at row.values linked.parent_column) && holds row.period at) linked.parents

-- the first of `count` instants, from `at` on, that passes the test, if there is one
unfoldable pub first_instant : (ℕ → Bool) → ℕ → ℕ → Option ℕ
first_instant test at zero = None
first_instant test at (suc count) = if test at then Some at else first_instant test (at + 1) count

-- the first instant of a period that passes the test, if there is one
abbrev pub first_within : (ℕ → Bool) → ℕ → ℕ → Option ℕ
first_within test start end = first_instant test start (end - start)

-- what is missing from an instant on: up to the next instant of the period that passes, or up to its end
abbrev pub missing_from : (ℕ → Bool) → ℕ → ℕ → Missing
missing_from test end from = record { from = from; to = unwrap_or (first_within test from end) end }

-- the first maximal period, within the given one, whose instants do not pass
abbrev pub missing_in : (ℕ → Bool) → ℕ → ℕ → Option Missing
missing_in test start end = option_map (missing_from test end) (first_within (λ at. not (test at)) start end)

-- the first maximal period within that of the row in which the row has no parent, if there is one
abbrev pub missing_of : Linked → Fragment → Option Missing
missing_of linked row = missing_in (has_parent linked (value_at row.values linked.column)) row.period.start row.period.end

-- whether the row has no parent at some instant of its period
abbrev pub is_orphan : Linked → Fragment → Bool
is_orphan linked row = is_some (missing_of linked row)

-- how many rows of the child have no parent at some instant of their periods
abbrev pub orphan_count : Linked → ℕ
orphan_count linked = count_by (is_orphan linked) linked.children

-- ---- which rows are listed

-- a row with its place in the child, and what it misses
abbrev pub orphan : Fragment → ℕ → Missing → Orphan
orphan row place missing = record { place = place; start = row.period.start; end = row.period.end; missing = missing }

-- the same, if the row misses something
abbrev pub orphan_of : Linked → Fragment → ℕ → Option Orphan
orphan_of linked row place = option_map (orphan row place) (missing_of linked row)

-- the orphans among the rows of the child, of which the first is at this place
unfoldable pub orphans_from : Linked → ℕ → List Fragment → List Orphan
orphans_from linked place [] = []
orphans_from linked place (row ∷ rows) = cons_option (orphan_of linked row place) (orphans_from linked (place + 1) rows)

-- the orphans of the child, in the order of its rows
abbrev pub orphans_of : Linked → List Orphan
orphans_of linked = orphans_from linked 0 linked.children

-- the value of the row in the child's column
abbrev pub orphan_value : List Fragment → ℕ → Orphan → Value
orphan_value children column row = value_at (slice_index_or children row.place no_row).values column

-- by value, then by start, then by end, then by place
abbrev pub orphan_cmp : List Fragment → ℕ → Orphan → Orphan → Ordering
orphan_cmp children column =
    then_cmp (then_cmp (then_cmp (on (orphan_value children column) value_cmp) (on (λ (row : Orphan). row.start) nat_cmp)) (on (λ (row : Orphan). row.end) nat_cmp))
    (on (λ (row : Orphan). row.place) nat_cmp)

-- the rows that miss a parent, in this order
pub record IsOrphanOrder (linked : Linked) (order : List Orphan) : Type 0 where
  pub permuted : IsPermutation (orphans_of linked) order
  pub sorted : IsSorted (orphan_cmp linked.children linked.column) order
