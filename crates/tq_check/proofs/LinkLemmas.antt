-- The rows on the two sides of a sort input are those of a child and its parent.
use Rattle.std.proofs.Common.{◌≡◌, ◌∙◌, ℕ, ◌+◌, cond, ◌&&◌, List, [], ◌∷◌, Option, Some, None, ap, refl, sym, arith, length, map}
use Rattle.std.specs.Prelude.{is_some, slice_index_or}
use Rattle.std.specs.List.{cons_option, count_by, list_any}
use Rattle.std.specs.Option.{option_map}
use Rattle.std.specs.Cmp.{nat_cmp_total, on_total, then_total, IsTotalOrder}
use Rattle.std.specs.Ordering.{eq_by_cmp, is_eq, ordering_then}
use Rattle.std.specs.declared.cmp.Ordering.{Ordering}
use Rattle.std.specs.declared.cmp.Ordering.TheVariants.{Equal, Greater, Less}
use Rattle.std.proofs.lemmas.List.Sorted.{length_permutation}
use Rattle.tq_base.specs.Keys.{columns_on, key_row, key_values, no_row, rows_on, IsSortKey, SortInputState}
use Rattle.tq_base.specs.Periods.{holds}
use Rattle.tq_base.specs.RowValues.{value_at}
use Rattle.tq_base.specs.ValueOrder.{value_cmp, value_total, values_cmp}
use Rattle.tq_base.specs.declared.fragment.Fragment.{Fragment}
use Rattle.tq_base.specs.declared.sort_input.Side.TheVariants as side
use Rattle.tq_base.specs.declared.sort_input.SortKey.{SortKey}
use Rattle.tq_base.specs.declared.value.Value.{Value}
use Rattle.tq_check.specs.Covers.{is_covering, is_valid_row, AreCovers}
use Rattle.tq_check.specs.Orphans.{has_parent, is_orphan, linked_rows, missing_in, missing_of, orphan, orphan_cmp, orphan_count, orphan_of, orphan_value, orphans_from, orphans_of, IsOrphanOrder, Linked}
use Rattle.tq_check.specs.declared.covers.Cover.{Cover}
use Rattle.tq_check.specs.declared.missing.Missing.{Missing}
use Rattle.tq_check.specs.declared.orphans.Orphan.{Orphan}
use Rattle.tq_check.specs.declared.references.Reference.{Reference}
use Rattle.tq_check.proofs.KeyOrderLemmas.{count_more}

pub orphan_total : (children : List Fragment) (column : ℕ) → IsTotalOrder (orphan_cmp children column)
orphan_total children column =
    then_total
    (then_total (then_total (on_total (orphan_value children column) value_total) (on_total (λ (row : Orphan). row.start) nat_cmp_total)) (on_total (λ (row : Orphan). row.end) nat_cmp_total))
    (on_total (λ (row : Orphan). row.place) nat_cmp_total)

-- ---- one compared column

then_equal : (o : Ordering) → ordering_then o Equal ≡ o
then_equal Less = refl
then_equal Equal = refl
then_equal Greater = refl

one_column : (value : Value) (row : Fragment) (columns : List ℕ) (column : ℕ) → columns ≡ column ∷ []
    → eq_by_cmp values_cmp (value ∷ []) (map (value_at row.values) columns) ≡ eq_by_cmp value_cmp value (value_at row.values column)
one_column value row columns column are =
    ap (λ (l : List ℕ). eq_by_cmp values_cmp (value ∷ []) (map (value_at row.values) l)) are
    ∙ ap is_eq (then_equal (value_cmp value (value_at row.values column)))

module _ (s : SortInputState) (reference : Reference) (child_columns : s.left_columns ≡ reference.child.column ∷ []) (parent_columns : s.right_columns ≡ reference.parent.column ∷ []) where
  abbrev linked : Linked
  linked = linked_rows s.left s.right reference

  parents_are : (value : Value) (at : ℕ) → list_any (is_valid_row s (value ∷ []) at) s.right ≡ has_parent linked value at
  parents_are value at = λ i. list_any (λ (row : Fragment). one_column value row s.right_columns reference.parent.column parent_columns i && holds row.period at) s.right

  module _ (key : SortKey) (place : ℕ) (is : IsSortKey s key) (left : key.side ≡ side.Left) (at_place : key.row ≡ place) where
    abbrev row : Fragment
    row = slice_index_or s.left place no_row

    row_is : key_row s key ≡ row
    row_is = λ i. slice_index_or (rows_on s (left i)) (at_place i) no_row

    values_are : key_values s key ≡ value_at row.values reference.child.column ∷ []
    values_are = (λ i. map (value_at (row_is i).values) (columns_on s (left i))) ∙ ap (map (value_at row.values)) child_columns

    pub start_is : key.start ≡ row.period.start
    start_is = is.start ∙ ap (λ (f : Fragment). f.period.start) row_is

    -- what is missing among the covers is what the row misses
    pub misses : (covers : List Cover) → AreCovers s covers → missing_in (λ at. list_any (is_covering s (key_values s key) at) covers) key.start row.period.end ≡ missing_of linked row
    misses covers are =
        (λ i. missing_in (λ at. (are.same (key_values s key) at ∙ ap (λ (v : List Value). list_any (is_valid_row s v at) s.right) values_are ∙ parents_are (value_at row.values reference.child.column) at) i) key.start row.period.end)
        ∙ ap (λ n. missing_in (has_parent linked (value_at row.values reference.child.column)) n row.period.end) start_is

-- ---- numbers of rows

pub no_orphans : (linked : Linked) (place : ℕ) → orphans_from linked place [] ≡ []
unfolding orphans_from
no_orphans linked place = refl

pub one_orphan : (linked : Linked) (place : ℕ) (row : Fragment) (rows : List Fragment) → orphans_from linked place (row ∷ rows) ≡ cons_option (orphan_of linked row place) (orphans_from linked (place + 1) rows)
unfolding orphans_from
one_orphan linked place row rows = refl

orphans_counted : (linked : Linked) (place : ℕ) (rows : List Fragment) → length (orphans_from linked place rows) ≡ count_by (is_orphan linked) rows
orphans_counted linked place [] = ap length (no_orphans linked place)
orphans_counted linked place (row ∷ rows) =
    let rest = orphans_counted linked (place + 1) rows in
    ap length (one_orphan linked place row rows) ∙ by (missing_of linked row) refl rest ∙ sym (count_more (is_orphan linked) row rows)
  where
    by : (o : Option Missing) → missing_of linked row ≡ o → length (orphans_from linked (place + 1) rows) ≡ count_by (is_orphan linked) rows
        → length (cons_option (option_map (orphan row place) (missing_of linked row)) (orphans_from linked (place + 1) rows)) ≡ cond (is_some (missing_of linked row)) 1 0 + count_by (is_orphan linked) rows
    by None is rest =
        let listed : length (cons_option (option_map (orphan row place) (missing_of linked row)) (orphans_from linked (place + 1) rows)) ≡ length (orphans_from linked (place + 1) rows) =
        ap (λ o. length (cons_option (option_map (orphan row place) o) (orphans_from linked (place + 1) rows))) is in
        let counted : cond {A = ℕ} (is_some (missing_of linked row)) 1 0 ≡ 0 = ap (λ o. cond {A = ℕ} (is_some o) 1 0) is in
        omega (arith, listed, counted, rest)
    by (Some missing) is rest =
        let listed : length (cons_option (option_map (orphan row place) (missing_of linked row)) (orphans_from linked (place + 1) rows)) ≡ length (orphan row place missing ∷ orphans_from linked (place + 1) rows) =
        ap (λ o. length (cons_option (option_map (orphan row place) o) (orphans_from linked (place + 1) rows))) is in
        let counted : cond {A = ℕ} (is_some (missing_of linked row)) 1 0 ≡ 1 = ap (λ o. cond {A = ℕ} (is_some o) 1 0) is in
        omega (arith, listed, counted, rest)

-- as many rows are listed as there are
pub orphan_number : (linked : Linked) (order : List Orphan) → IsOrphanOrder linked order → length order ≡ orphan_count linked
orphan_number linked order is = length_permutation (orphans_of linked) order is.permuted ∙ orphans_counted linked 0 linked.children
