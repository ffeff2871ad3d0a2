-- The rows of the groups of all partitions are together those of the groups of all rows.
use Rattle.std.proofs.Common.{◌≡◌, ◌<◌, ◌+◌, ◌==◌, ◌++◌, ◌∙◌, ℕ, suc, false, true, Bool, List, [], ◌∷◌, ap, arith, filter, get_or, length, map, refl, sum_by, take}
use Rattle.std.specs.Prelude.{All, nat_le}
use Rattle.std.specs.List.{range_with_len}
use Rattle.std.proofs.lemmas.List.{map-append, take_more}
use Rattle.std.proofs.lemmas.List.Elements.{filter-append}
use Rattle.tq_base.specs.declared.fragment.Fragment.{Fragment}
use Rattle.tq_base.specs.declared.period.Period.{Period}
use Rattle.tq_base.specs.Fragments.{at, occurrences}
use Rattle.tq_base.specs.Periods.{holds}
use Rattle.tq_base.specs.NormalizedKeys.{normalized_key}
use Rattle.tq_base.specs.RowLists.{RowList}
use Rattle.tq_base.specs.RowValues.{value_at}
use Rattle.tq_condition.specs.Ordinary.{HasInside, IsEmptyOutside}
use Rattle.tq_agg.specs.Grouping.{Row, first_row}
use Rattle.tq_plan.specs.declared.plans.QueryPlan.{QueryPlan}
use Rattle.tq_plan.specs.Plans.{tables_of}
use Rattle.tq_plan.specs.ValidPlans.{are_valid_items, no_group}
use Rattle.tq_run.specs.Results.{IsResultList}
use Rattle.tq_table.specs.Merging.{all_rows, AreOfWidth}
use Rattle.tq_table.proofs.MergeLemmas.{all_and_next}
use Rattle.tq_exec.specs.Answers.{lists_at, times_in, ValidRows}
use Rattle.tq_exec.specs.AggregateParts.{PartitionsHaveGroups, groups_of_values, items_of_values, rows_of_values, aggregate_input}
use Rattle.tq_exec.proofs.AggregatePartLemmas.{gathered_answer}
use Rattle.tq_exec.specs.GroupPartitions.{IsGroupPartition}
use Rattle.tq_exec.specs.Partitions.{partition_of}
use Rattle.tq_exec.proofs.JoinPartitionLemmas.{each_number}
use Rattle.tq_exec.proofs.PartLemmas.{parts_have_rows}
use Rattle.tq_exec.proofs.PartitionPartLemmas.{at_left, few_left}

-- ---- the rows of a partition

-- of one list more
pub left_of_more : (p : Fragment → Bool) (lists : List RowList) (place : ℕ) (d : RowList) → place < length lists
    → filter p (all_rows (take (place + 1) lists)) ≡ filter p (all_rows (take place lists)) ++ filter p (get_or lists place d).items
left_of_more p lists place d within =
    ap (λ l. filter p (all_rows l)) (take_more lists place d within)
    ∙ ap (filter p) (all_and_next (take place lists) (get_or lists place d))
    ∙ filter-append p (all_rows (take place lists)) (get_or lists place d).items

-- ---- the rows that the partitions make

-- at no instant outside the window one is valid
none_outside : (window : Period) (lists : List RowList) → ((i : ℕ) (e : RowList) → i < length lists → IsEmptyOutside window (get_or lists i e).items) → IsEmptyOutside window (all_rows lists)
none_outside window [] each t outside = refl
none_outside window (l ∷ ls) each t outside =
    ap (map (λ (f : Fragment). f.values)) (filter-append (λ (f : Fragment). holds f.period t) l.items (all_rows ls))
    ∙ map-append (λ (f : Fragment). f.values) (filter (λ (f : Fragment). holds f.period t) l.items) (filter (λ (f : Fragment). holds f.period t) (all_rows ls))
    ∙ (λ i. each 0 l (omega arith) t outside i ++ none_outside window ls (λ k e less. each (suc k) e (omega (arith, less))) t outside i)

module _ (query : QueryPlan) (window : Period) (cuts : List ℕ) (rows : List Fragment) (made : List RowList) (are : IsResultList (IsGroupPartition query window cuts rows) (length cuts + 1) made) where
  pub groups_wide : All (AreOfWidth (length query.outputs)) made
  groups_wide = λ k d less. (are.1 k d (omega (arith, less, are.0))).wide

  pub groups_outside : IsEmptyOutside window (all_rows made)
  groups_outside = none_outside window made (λ k d less. (are.1 k d (omega (arith, less, are.0))).outside)

  -- in the window those of the groups of all rows are
  pub groups_counted : PartitionsHaveGroups → (valid : ValidRows) → no_group query.group ≡ false → are_valid_items query ≡ true
      → HasInside window rows (λ t v. occurrences (aggregate_input query (lists_at valid t (tables_of query))) v)
      → HasInside window (all_rows made) (λ t v. times_in valid query v t)
  groups_counted law valid some stand found t v inside =
      let make = items_of_values query in
      let groups = groups_of_values query (at rows t) in
      let number = λ (group : List Row). partition_of cuts (value_at (first_row group) 0) in
      let count_of = λ (i : ℕ). occurrences (map make (filter (λ group. number group == i) groups)) v in
      parts_have_rows v t made count_of (occurrences (map make groups) v)
      (ap (λ n. sum_by count_of (range_with_len 0 n)) are.0
      ∙ each_number make number (length cuts + 1) (λ group. few_left (λ cut. nat_le cut (normalized_key (value_at (first_row group) 0))) cuts) v groups)
      (λ i e less.
      (are.1 i e (omega (arith, less, are.0))).inside t v inside
      ∙ ap (λ l. occurrences (rows_of_values query l) v) (at_left (λ values. partition_of cuts (value_at values 0) == i) rows t)
      ∙ ap (λ l. occurrences l v) (law (partition_of cuts) i query some (at rows t)))
      ∙ gathered_answer valid query window rows some stand found t v inside
