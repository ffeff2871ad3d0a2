-- Groups of rows of which only the values are left that they are made of.
use Rattle.std.proofs.Common.{◌≡◌, ℕ, ◌+◌, List, [], ◌∷◌, ◌++◌, map, length, refl, sym, ap, ◌∙◌, subst, append_assoc, arith}
use Rattle.std.specs.Prelude.{All, IsTrue, None, Option, Some, is_some, pos, slice_index_or, ◌+ℤ◌, ◌==◌, false, true}
use Rattle.std.specs.List.{list_any, range_with_len}
use Rattle.std.proofs.Math.Seq.{get_or-append_seam}
use Rattle.std.proofs.lemmas.List.{append-nil, length-append, length-map, map-append}
use Rattle.std.proofs.lemmas.List.Elements.{All-cons, All-map, All-weaker}
use mathlib.Core.List.{map-map}
use Rattle.tq_base.specs.declared.fragment.Fragment.{Fragment}
use Rattle.tq_base.specs.declared.period.Period.{Period}
use Rattle.tq_base.specs.Contents.{Int}
use Rattle.tq_base.specs.Fragments.{at, occurrences}
use Rattle.tq_base.specs.Periods.{holds}
use Rattle.tq_base.specs.Relations.{projected}
use Rattle.tq_condition.specs.declared.condition.Test.{Test}
use Rattle.tq_base.specs.RowValues.{number_of, value_at}
use Rattle.tq_condition.specs.Ordinary.{HasInside, product_of, projection, selection}
use Rattle.tq_agg.specs.Grouping.{Row, each_once, first_row, group_row, grouped_rows, same_row, sum_at}
use Rattle.tq_plan.specs.declared.plans.Output.{Output}
use Rattle.tq_plan.specs.declared.plans.Output.TheVariants.{Column, Count, Sum}
use Rattle.tq_plan.specs.declared.plans.QueryPlan.{QueryPlan}
use Rattle.tq_plan.specs.declared.plans.QuerySource.{QuerySource}
use Rattle.tq_plan.specs.Plans.{tables_in, tables_of}
use Rattle.tq_plan.specs.ValidPlans.{are_valid_items, no_group}
use Rattle.tq_exec.specs.Answers.{lists_at, times_in, ValidRows}
use Rattle.tq_exec.specs.AggregateParts.{CountsOne, PartitionsHaveGroups, group_columns, groups_of_values, is_sum, items_of_values, rows_of_values, aggregate_input}
use Rattle.tq_exec.specs.OutputPlaces.{AreNumbers, item_places, summed_places}
use Rattle.tq_exec.proofs.BagLemmas.{same_mapped}
use Rattle.tq_exec.proofs.GroupBags.{of_key, same_groups}
use Rattle.tq_exec.proofs.GroupingLemmas.{length-projection, ordinary_grouped}
use Rattle.tq_exec.proofs.ItemLemmas.{shown_inside}
use Rattle.tq_exec.proofs.NumberLemmas.{IsNumber, none_of, number_at}
use Rattle.tq_exec.proofs.PartitionLemmas.{grouped_left, made_of_left}

-- ---- rows of which others are made

module _ (f : Row → Row) where
  -- what is made of a row has in these columns what the row has in the others
  abbrev pub Match : List ℕ → List ℕ → Type 0
  Match [] [] = Unit {0}
  Match [] (p ∷ ps) = ⊥
  Match (q ∷ qs) [] = ⊥
  Match (q ∷ qs) (p ∷ ps) = ((row : Row) → value_at (f row) q ≡ value_at row p) × Match qs ps

  same_key : (qs ps : List ℕ) → Match qs ps → (row : Row) → projection qs (f row) ≡ projection ps row
  same_key [] [] is row = refl
  same_key [] (p ∷ ps) is row = absurd is
  same_key (q ∷ qs) [] is row = absurd is
  same_key (q ∷ qs) (p ∷ ps) is row = λ i. is.0 row i ∷ same_key qs ps is.1 row i

  no_key : (qs ps : List ℕ) → Match qs ps → projection qs [] ≡ projection ps []
  no_key [] [] is = refl
  no_key [] (p ∷ ps) is = absurd is
  no_key (q ∷ qs) [] is = absurd is
  no_key (q ∷ qs) (p ∷ ps) is = ap (λ l. Int (pos 0) ∷ l) (no_key qs ps is.1)

  same_sum : (q p : ℕ) → ((row : Row) → value_at (f row) q ≡ value_at row p) → (rows : List Row) → sum_at q (map f rows) ≡ sum_at p rows
  same_sum q p is [] = refl
  same_sum q p is (row ∷ rows) = λ i. number_of (is row i) +ℤ same_sum q p is rows i

  same_sums_made : (qs ps : List ℕ) → Match qs ps → (rows : List Row) → map (λ place. Int (sum_at place (map f rows))) qs ≡ map (λ place. Int (sum_at place rows)) ps
  same_sums_made [] [] is rows = refl
  same_sums_made [] (p ∷ ps) is rows = absurd is
  same_sums_made (q ∷ qs) [] is rows = absurd is
  same_sums_made (q ∷ qs) (p ∷ ps) is rows = λ i. Int (same_sum q p is.0 rows i) ∷ same_sums_made qs ps is.1 rows i

  first_key : (qs ps : List ℕ) → Match qs ps → (rows : List Row) → projection qs (first_row (map f rows)) ≡ projection ps (first_row rows)
  first_key qs ps is [] = no_key qs ps is
  first_key qs ps is (row ∷ rows) = same_key qs ps is row

  module _ (keys own sums own_sums : List ℕ) (keys_match : Match keys own) (sums_match : Match sums own_sums) where
    same_group : (rows : List Row) → group_row keys sums (map f rows) ≡ group_row own own_sums rows
    same_group rows = λ i. first_key keys own keys_match rows i ++ Int (pos (length-map rows f i)) ∷ same_sums_made sums own_sums sums_match rows i

    made_keys : (rows : List Row) → map (projection keys) (map f rows) ≡ map (projection own) rows
    made_keys [] = refl
    made_keys (row ∷ rows) = λ i. same_key keys own keys_match row i ∷ made_keys rows i

    of_key_made : (rows : List Row) (key : Row) → of_key keys (map f rows) key ≡ map f (of_key own rows key)
    of_key_made rows key =
        sym (made_of_left f (λ row. same_row (projection own row) key) (λ row. same_row (projection keys row) key) rows (λ row. ap (λ k. same_row k key) (same_key keys own keys_match row)))

    groups_at : (rows found : List Row) → map (group_row keys sums) (map (of_key keys (map f rows)) found) ≡ map (group_row own own_sums) (map (of_key own rows) found)
    groups_at rows [] = refl
    groups_at rows (key ∷ found) = λ i. (ap (group_row keys sums) (of_key_made rows key) ∙ same_group (of_key own rows key)) i ∷ groups_at rows found i

    -- the groups of what is made of rows are those of the rows
    pub regrouped : (rows : List Row) → grouped_rows keys sums (map f rows) ≡ grouped_rows own own_sums rows
    regrouped rows =
        groups_at rows (each_once (map (projection keys) (map f rows)))
        ∙ ap (λ l. map (group_row own own_sums) (map (of_key own rows) (each_once l))) (made_keys rows)

-- ---- the values that are left

-- they stand behind those in the columns before theirs
behind : (before places after : List ℕ) → Match (projection (before ++ (places ++ after))) (range_with_len (length before) (length places)) places
behind before [] after = tt
behind before (p ∷ places) after = (here, rest (behind (before ++ p ∷ []) places after))
  where
    here : (row : Row) → value_at (projection (before ++ (p ∷ (places ++ after))) row) (length before) ≡ value_at row p
    here row =
        ap (λ l. value_at l (length before)) (map-append (value_at row) before (p ∷ (places ++ after)))
        ∙ ap (value_at (projection before row ++ value_at row p ∷ projection (places ++ after) row)) (sym (length-projection before row))
        ∙ get_or-append_seam (projection before row) (value_at row p) (projection (places ++ after) row) (Int (pos 0))

    rest : Match (projection ((before ++ p ∷ []) ++ (places ++ after))) (range_with_len (length (before ++ p ∷ [])) (length places)) places
        → Match (projection (before ++ (p ∷ (places ++ after)))) (range_with_len (length before + 1) (length places)) places
    rest later =
        subst (λ n. Match (projection (before ++ (p ∷ (places ++ after)))) (range_with_len n (length places)) places) (length-append before (p ∷ []))
        (subst (λ columns. Match (projection columns) (range_with_len (length (before ++ p ∷ [])) (length places)) places) (append_assoc before (p ∷ []) (places ++ after)) later)

-- where these values are those of the rows that pass, the rows that are made of them are those of the query
pub gathered_answer : (valid : ValidRows) (query : QueryPlan) (window : Period) (rows : List Fragment) → no_group query.group ≡ false → are_valid_items query ≡ true
    → HasInside window rows (λ t v. occurrences (aggregate_input query (lists_at valid t (tables_of query))) v)
    → (t : ℕ) (v : Row) → IsTrue (holds window t) → occurrences (rows_of_values query (at rows t)) v ≡ times_in valid query v t
gathered_answer valid query window rows some stand found t v inside =
    ap (λ l. occurrences l v) (sym (map-map (projection places) (group_row own behind_own) (groups_of_values query (at rows t))))
    ∙ same_mapped (projection places) (grouped_rows own behind_own (at rows t)) (grouped_rows own behind_own kept) (same_groups own behind_own (at rows t) kept (λ u. found t u inside)) v
    ∙ ap (λ l. occurrences (map (projection places) l) v) (regrouped (projection (group_columns query)) own query.group behind_own own_sums keys_match sums_match joined_rows)
    ∙ ap (λ l. occurrences l v) (ordinary_grouped query (lists_at valid t (tables_of query)) some stand)
  where
    own_sums : List ℕ
    own_sums = summed_places query.outputs

    places : List ℕ
    places = item_places query.group (length query.group + 1) query.outputs

    joined_rows : List Row
    joined_rows = selection query.test (product_of (lists_at valid t (tables_of query)))

    kept : List Row
    kept = aggregate_input query (lists_at valid t (tables_of query))

    own : List ℕ
    own = range_with_len 0 (length query.group)

    behind_own : List ℕ
    behind_own = range_with_len (length query.group) (length own_sums)

    keys_match : Match (projection (group_columns query)) own query.group
    keys_match = behind [] query.group own_sums

    sums_match : Match (projection (group_columns query)) behind_own own_sums
    sums_match = subst (λ l. Match (projection (query.group ++ l)) behind_own own_sums) (append-nil own_sums) (behind query.group own_sums [])

-- the items of the groups of these values
pub gathered_inside : (query : QueryPlan) (window : Period) (keys sums : List ℕ) (rows groups out : List Fragment)
    → keys ≡ range_with_len 0 (length query.group) → sums ≡ range_with_len (length query.group) (length (summed_places query.outputs))
    → HasInside window groups (λ t v. occurrences (grouped_rows keys sums (at rows t)) v)
    → out ≡ map (projected (item_places query.group (length query.group + 1) query.outputs)) groups
    → HasInside window out (λ t v. occurrences (rows_of_values query (at rows t)) v)
gathered_inside query window keys sums rows groups out keys_are sums_are grouped is t v inside =
    let places = item_places query.group (length query.group + 1) query.outputs in
    let own = range_with_len 0 (length query.group) in
    let behind_own = range_with_len (length query.group) (length (summed_places query.outputs)) in
    shown_inside places window (λ u. grouped_rows keys sums (at rows u)) groups out grouped is t v inside
    ∙ ap (λ l. occurrences l v) ((λ i. map (projection places) (grouped_rows (keys_are i) (sums_are i) (at rows t))) ∙ map-map (projection places) (group_row own behind_own) (groups_of_values query (at rows t)))

-- ---- partitions by the first value

-- the first of the keys is the first value
key_first : (group : List ℕ) → no_group group ≡ false → list_any (λ key. key == 0) (range_with_len 0 (length group)) ≡ true
key_first [] some = cc some
key_first (first ∷ more) some = refl

-- of the rows of a partition the groups are those that go there
pub groups_part : PartitionsHaveGroups
groups_part partition_of number query some rows =
    ap (map (items_of_values query)) (grouped_left partition_of (λ table. None) number 0 (range_with_len 0 (length query.group)) (key_first query.group some) rows)

-- ---- what the rows have

shown_numbers : (places : List ℕ) (row : Row) → AreNumbers row → AreNumbers (projection places row)
shown_numbers [] row all = none_of IsNumber
shown_numbers (place ∷ places) row all = All-cons IsNumber (value_at row place) (projection places row) (number_at row place all) (shown_numbers places row all)

-- numbers of 64 bits, or texts
pub kept_numbers : (places : List ℕ) (joined_rows kept : List Fragment) → kept ≡ map (projected places) joined_rows → All (λ (f : Fragment). AreNumbers f.values) joined_rows → All (λ (f : Fragment). AreNumbers f.values) kept
kept_numbers places joined_rows kept is all =
    subst (All (λ (f : Fragment). AreNumbers f.values)) (sym is)
    (All-map (λ (f : Fragment). AreNumbers f.values) (projected places) joined_rows
    (All-weaker (λ (f : Fragment). AreNumbers f.values) (λ (f : Fragment). AreNumbers (projection places f.values)) (λ f has. shown_numbers places f.values has) joined_rows all))

-- and as many as there are columns
pub kept_wide : (places : List ℕ) (joined_rows kept : List Fragment) → kept ≡ map (projected places) joined_rows → All (λ (f : Fragment). length f.values ≡ length places) kept
kept_wide places joined_rows kept is =
    subst (All (λ (f : Fragment). length f.values ≡ length places)) (sym is)
    (All-map (λ (f : Fragment). length f.values ≡ length places) (projected places) joined_rows (λ k d less. length-projection places _))

-- ---- counts of one table

-- without a condition every row passes
all_pass : (rows : List Row) → selection None rows ≡ rows
all_pass [] = refl
all_pass (row ∷ rows) = ap (λ l. row ∷ l) (all_pass rows)

-- no condition is none
pub no_test : (test : Option Test) → is_some test ≡ false → test ≡ None
no_test None none = refl
no_test (Some test) none = cc

-- so those that pass are the rows of the table
pub rows_of_one : (valid : ValidRows) (query : QueryPlan) (table column t : ℕ) → CountsOne query table column → selection query.test (product_of (lists_at valid t (tables_of query))) ≡ valid table t
rows_of_one valid query table column t is = (λ i. selection (no_test query.test is.test i) (product_of (lists_at valid t (is.tables i)))) ∙ all_pass (valid table t)

-- where the groups are those of the table's rows, their items are the query's rows
pub counted_one : (valid : ValidRows) (query : QueryPlan) (window : Period) (table column : ℕ) (counts out : List Fragment) → CountsOne query table column → are_valid_items query ≡ true
    → HasInside window counts (λ t v. occurrences (grouped_rows (column ∷ []) [] (valid table t)) v)
    → out ≡ map (projected (item_places query.group (length query.group + 1) query.outputs)) counts
    → HasInside window out (λ t v. times_in valid query v t)
counted_one valid query window table column counts out is stand counted made t v inside =
    let places = item_places query.group (length query.group + 1) query.outputs in
    shown_inside places window (λ u. grouped_rows (column ∷ []) [] (valid table u)) counts out counted made t v inside
    ∙ ap (λ l. occurrences (map (projection places) l) v) (sym (λ i. grouped_rows (is.group i) (is.sums i) (rows_of_one valid query table column t is i)))
    ∙ ap (λ l. occurrences l v) (ordinary_grouped query (lists_at valid t (tables_of query)) (ap no_group is.group) stand)

-- items none of which is a sum have no values that are summed
pub nothing_summed : (outputs : List Output) → list_any is_sum outputs ≡ false → summed_places outputs ≡ []
nothing_summed [] none = refl
nothing_summed (Column place ∷ outputs) none = nothing_summed outputs none
nothing_summed (Count ∷ outputs) none = nothing_summed outputs none
nothing_summed (Sum place ∷ outputs) none = cc

-- and the converse
pub no_sum : (outputs : List Output) → summed_places outputs ≡ [] → list_any is_sum outputs ≡ false
no_sum [] none = refl
no_sum (Column place ∷ outputs) none = no_sum outputs none
no_sum (Count ∷ outputs) none = no_sum outputs none
no_sum (Sum place ∷ outputs) none = cc

-- a list of one item has its first item alone
single : {X : Type 0} (xs : List X) (d : X) → length xs ≡ 1 → xs ≡ slice_index_or xs 0 d ∷ []
single [] d one = absurd (omega (arith, one))
single (x ∷ []) d one = refl
single (x ∷ y ∷ xs) d one = absurd (omega (arith, one))

-- a query of one source without a condition, with one column after GROUP BY and no sums
pub counts_one : (query : QueryPlan) (sources : List QuerySource) (group : List ℕ) (source : QuerySource) → sources ≡ query.sources → group ≡ query.group
    → length sources ≡ 1 → is_some query.test ≡ false → length group ≡ 1 → list_any is_sum query.outputs ≡ false
    → CountsOne query (slice_index_or sources 0 source).table (slice_index_or group 0 0)
counts_one query sources group source sources_are group_is one_source none one_column no_sums = record {
  tables = ap tables_in (sym sources_are ∙ single sources source one_source);
  test = none;
  group = sym group_is ∙ single group 0 one_column;
  sums = nothing_summed query.outputs no_sums;
}
