-- Over a partition of what is valid a query has the rows of its answer whose first value goes to the partition.
use Rattle.std.proofs.Common.{◌≡◌, ℕ, suc, ◌+◌, ◌-◌, ◌*◌, ◌<◌, ◌==◌, Bool, true, false, not, cond, if◌then◌else◌, List, [], ◌∷◌, map, length, take, drop, Option, Some, None, refl, sym, ap, ◌∙◌, subst, arith}
use Rattle.std.specs.Prelude.{All, filter}
use Rattle.std.specs.List.{list_all, list_any}
use Rattle.std.proofs.lemmas.Bool.{eqb-true}
use Rattle.std.proofs.lemmas.List.{drop-drop}
use Rattle.std.proofs.lemmas.List.Elements.{All-filter}
use Rattle.std.proofs.lemmas.List.Sums.{sum_by-cons}
use Rattle.tq_base.specs.declared.catalogue.Catalogue.{Catalogue}
use Rattle.tq_base.specs.declared.value.Value.{Value}
use Rattle.tq_base.specs.Fragments.{occurrences}
use Rattle.tq_base.specs.Periods.{holds}
use Rattle.tq_base.specs.ValueOrder.{eq_from_same, same_from_eq}
use Rattle.tq_base.specs.RowValues.{value_at}
use Rattle.tq_condition.specs.declared.condition.Test.{Test}
use Rattle.tq_condition.specs.Ordinary.{admits, product_of, projection, selection}
use Rattle.tq_agg.specs.Grouping.{Row, each_once, first_row, grouped_by, same_row}
use Rattle.tq_plan.specs.declared.plans.Output.{Output}
use Rattle.tq_plan.specs.declared.plans.Output.TheVariants.{Column}
use Rattle.tq_plan.specs.declared.plans.QueryPlan.{QueryPlan}
use Rattle.tq_plan.specs.declared.plans.QuerySource.{QuerySource}
use Rattle.tq_plan.specs.Plans.{tables_in, tables_of}
use Rattle.tq_plan.specs.ValidPlans.{IsQueryOver, AreContiguousFrom, is_aggregate, are_valid_items, is_valid_item}
use Rattle.tq_exec.specs.Answers.{lists_at, times_by, times_in, times_in_right, ValidRows}
use Rattle.tq_exec.specs.Fitting.{AreFitting}
use Rattle.tq_exec.specs.Ordinary.{alone_or_together, groups, ordinary, output_value}
use Rattle.tq_exec.specs.Partitioning.{Columns, HasAt, IsPartitionedBy, PartitionsHaveAnswers, PartitionsHaveRows, goes_to, in_partition, is_partitioned}
use Rattle.tq_exec.specs.Scan.{part_of, SameCounts}
use Rattle.tq_exec.proofs.BagLemmas.{is_it, one_if}
use Rattle.tq_exec.proofs.GroupBags.{first_of_key, of_key, positive_once}
use Rattle.tq_exec.proofs.NumberLemmas.{first_of, others_of}
use Rattle.tq_exec.proofs.ProductLemmas.{AreWide, counted_first, failed, passed}
use Rattle.tq_exec.proofs.SourceLemmas.{valid_wide}
use Rattle.tq_exec.proofs.TableLemmas.{ordinary_same}

-- ---- lists of which some are left

module _ {X : Type 0} where
  -- what is left twice is what is left in the other order
  turned : (p q : X → Bool) (xs : List X) → filter p (filter q xs) ≡ filter q (filter p xs)
  turned p q [] = refl
  turned p q (x ∷ xs) = by (p x) (q x) refl refl (turned p q xs)
    where
      by : (b c : Bool) → p x ≡ b → q x ≡ c → filter p (filter q xs) ≡ filter q (filter p xs) → filter p (filter q (x ∷ xs)) ≡ filter q (filter p (x ∷ xs))
      by true true is and rest = rw (is, and) (rw is (ap (λ l. x ∷ l) rest))
      by true false is and rest = rw (is, and) rest
      by false true is and rest = rw (is, and) (rw is rest)
      by false false is and rest = rw (is, and) rest

  -- what the first leaves out the second does not have
  left_anyway : (p q : X → Bool) (xs : List X) → ((x : X) → q x ≡ false → p x ≡ false) → filter p (filter q xs) ≡ filter p xs
  left_anyway p q [] none = refl
  left_anyway p q (x ∷ xs) none = by (q x) refl (left_anyway p q xs none)
    where
      by : (c : Bool) → q x ≡ c → filter p (filter q xs) ≡ filter p xs → filter p (filter q (x ∷ xs)) ≡ filter p (x ∷ xs)
      by true is rest = rw is (ap (λ l. cond (p x) (x ∷ l) l) rest)
      by false is rest = rw (is, none x is) rest

  -- what is left of what was left already
  left_already : (p q : X → Bool) (xs : List X) → filter p (filter q (filter p xs)) ≡ filter q (filter p xs)
  left_already p q xs = turned p q (filter p xs) ∙ ap (filter q) (left_anyway p p xs (λ x none. none))

-- what is made of those that are left is left of what is made
pub made_of_left : {X Y : Type 0} (f : X → Y) (p : X → Bool) (q : Y → Bool) (xs : List X) → ((x : X) → q (f x) ≡ p x) → map f (filter p xs) ≡ filter q (map f xs)
made_of_left f p q [] same = refl
made_of_left f p q (x ∷ xs) same = by (p x) refl (made_of_left f p q xs same)
  where
    by : (b : Bool) → p x ≡ b → map f (filter p xs) ≡ filter q (map f xs) → map f (filter p (x ∷ xs)) ≡ filter q (map f (x ∷ xs))
    by true is rest = rw (is, same x ∙ is) (ap (λ l. f x ∷ l) rest)
    by false is rest = rw (is, same x ∙ is) rest

-- ---- keys

-- the same, of keys that stand in the list
made_of_keys : (f : Row → List Row) (p : Row → Bool) (q : List Row → Bool) (keys : List Row) → ((key : Row) → 0 < occurrences keys key → q (f key) ≡ p key) → map f (filter p keys) ≡ filter q (map f keys)
made_of_keys f p q [] same = refl
made_of_keys f p q (key ∷ keys) same =
    by (p key) refl (same key (omega (arith, sum_by-cons (is_it key) key keys, ap one_if (eq_from_same key key refl))))
    (made_of_keys f p q keys (λ other some. same other (omega (arith, some, sum_by-cons (is_it other) key keys))))
  where
    by : (b : Bool) → p key ≡ b → q (f key) ≡ p key → map f (filter p keys) ≡ filter q (map f keys) → map f (filter p (key ∷ keys)) ≡ filter q (map f (key ∷ keys))
    by true is here rest = rw (is, here ∙ is) (ap (λ l. f key ∷ l) rest)
    by false is here rest = rw (is, here ∙ is) rest

alike_on_left : (f g : Row → List Row) (p : Row → Bool) (keys : List Row) → ((key : Row) → p key ≡ true → f key ≡ g key) → map f (filter p keys) ≡ map g (filter p keys)
alike_on_left f g p [] alike = refl
alike_on_left f g p (key ∷ keys) alike = by (p key) refl (alike_on_left f g p keys alike)
  where
    by : (b : Bool) → p key ≡ b → map f (filter p keys) ≡ map g (filter p keys) → map f (filter p (key ∷ keys)) ≡ map g (filter p (key ∷ keys))
    by true is rest = rw is (λ i. alike key is i ∷ rest i)
    by false is rest = rw is rest

once_left : (p : Row → Bool) (rows : List Row) → each_once (filter p rows) ≡ filter p (each_once rows)
once_left p [] = refl
once_left p (row ∷ rows) = by (p row) refl (once_left p rows)
  where
    others : Row → Bool
    others other = not (same_row other row)

    by : (b : Bool) → p row ≡ b → each_once (filter p rows) ≡ filter p (each_once rows) → each_once (filter p (row ∷ rows)) ≡ filter p (each_once (row ∷ rows))
    by true is rest = rw is (ap (λ l. row ∷ l) (ap (filter others) rest ∙ turned others p (each_once rows)))
    by false is rest = rw is (rest ∙ sym (left_anyway p others (each_once rows) none))
      where
        none : (other : Row) → others other ≡ false → p other ≡ false
        none other left = by_same (same_row other row) refl
          where
            by_same : (c : Bool) → same_row other row ≡ c → p other ≡ false
            by_same true same = ap p (same_from_eq other row same) ∙ is
            by_same false same = cc (left, ap not same)

-- ---- queries

-- a column of a key
key_column : (place : ℕ) (keys : List ℕ) → list_any (λ key. key == place) keys ≡ true → (j : ℕ) × ((row : Row) → value_at (projection keys row) j ≡ value_at row place)
key_column place [] some = cc some
key_column place (key ∷ keys) some = by (key == place) refl (λ later. key_column place keys later)
  where
    by : (b : Bool) → (key == place) ≡ b → (list_any (λ key. key == place) keys ≡ true → (j : ℕ) × ((row : Row) → value_at (projection keys row) j ≡ value_at row place))
        → (j : ℕ) × ((row : Row) → value_at (projection (key ∷ keys) row) j ≡ value_at row place)
    by true is later = (0, λ row. ap (value_at row) (eqb-true key place is))
    by false is later =
        let (j, at) = later (rw is at some) in
        (suc j, at)

module _ (partition_of : Value → ℕ) (columns : Columns) (number : ℕ) where
  -- whether a row goes to the partition by its value at the place
  abbrev goes : ℕ → Row → Bool
  goes place row = partition_of (value_at row place) == number

  pub grouped_left : (place : ℕ) (keys : List ℕ) → list_any (λ key. key == place) keys ≡ true → (rows : List Row)
      → grouped_by keys (filter (goes place) rows) ≡ filter (λ group. goes place (first_row group)) (grouped_by keys rows)
  grouped_left place keys some rows =
      let (j, at) = key_column place keys some in
      let of_all = of_key keys rows in
      let of_left = of_key keys (filter (goes place) rows) in
      let found = each_once (map (projection keys) rows) in
      let same : (row : Row) → goes j (projection keys row) ≡ goes place row = λ row. ap (λ (v : Value). partition_of v == number) (at row) in
      ap (λ l. map of_left (each_once l)) (made_of_left (projection keys) (goes place) (goes j) rows same)
      ∙ ap (map of_left) (once_left (goes j) (map (projection keys) rows))
      ∙ alike_on_left of_left of_all (goes j) found
      (λ key is. left_anyway_turned key is)
      ∙ made_of_keys of_all (goes j) (λ group. goes place (first_row group)) found
      (λ key there. sym (same (first_row (of_all key))) ∙ ap (goes j) (first_of_key keys rows key (positive_once (map (projection keys) rows) key there)))
    where
      left_anyway_turned : (key : Row) → goes (key_column place keys some).0 key ≡ true → of_key keys (filter (goes place) rows) key ≡ of_key keys rows key
      left_anyway_turned key is = left_anyway (λ row. same_row (projection keys row) key) (goes place) rows none
        where
          none : (row : Row) → goes place row ≡ false → same_row (projection keys row) key ≡ false
          none row other = by_same (same_row (projection keys row) key) refl
            where
              by_same : (c : Bool) → same_row (projection keys row) key ≡ c → same_row (projection keys row) key ≡ false
              by_same false same = same
              by_same true same =
                  let is_key : projection keys row ≡ key = same_from_eq (projection keys row) key same in
                  let there : goes place row ≡ goes (key_column place keys some).0 key = ap (λ (v : Value). partition_of v == number) (sym ((key_column place keys some).1 row)) ∙ ap (goes (key_column place keys some).0) is_key in
                  cc (there, other, is)

  -- the groups of the rows that go to the partition
  groups_left : (place : ℕ) (items : List Output) (group : List ℕ) → list_all (is_valid_item (list_any is_aggregate (Column place ∷ items)) group) (Column place ∷ items) ≡ true → (rows : List Row)
      → groups group (Column place ∷ items) (filter (goes place) rows) ≡ filter (λ one. goes place (first_row one)) (groups group (Column place ∷ items) rows)
  groups_left place items [] stand rows = by (list_any is_aggregate (Column place ∷ items)) refl
    where
      by : (b : Bool) → list_any is_aggregate (Column place ∷ items) ≡ b → alone_or_together (list_any is_aggregate (Column place ∷ items)) (filter (goes place) rows) ≡ filter (λ one. goes place (first_row one)) (alone_or_together (list_any is_aggregate (Column place ∷ items)) rows)
      by true counted = cc (rw counted at stand)
      by false alone = rw alone (made_of_left (λ row. row ∷ []) (goes place) (λ one. goes place (first_row one)) rows (λ row. refl))
  groups_left place items (first ∷ more) stand rows = grouped_left place (first ∷ more) (by (list_any (λ key. key == place) (first ∷ more)) refl) rows
    where
      by : (b : Bool) → list_any (λ key. key == place) (first ∷ more) ≡ b → list_any (λ key. key == place) (first ∷ more) ≡ true
      by true is = is
      by false is = cc (rw is at stand)

  -- what a query makes of the rows that go to the partition
  made_left : (query : QueryPlan) (place : ℕ) (items : List Output) → query.outputs ≡ Column place ∷ items → are_valid_items query ≡ true → (rows : List Row)
      → map (λ group. map (output_value group) query.outputs) (groups query.group query.outputs (filter (goes place) rows)) ≡ filter (goes 0) (map (λ group. map (output_value group) query.outputs) (groups query.group query.outputs rows))
  made_left query place items first stand rows =
      subst (λ outputs. map (λ group. map (output_value group) outputs) (groups query.group outputs (filter (goes place) rows)) ≡ filter (goes 0) (map (λ group. map (output_value group) outputs) (groups query.group outputs rows))) (sym first)
      (ap (map (λ group. map (output_value group) (Column place ∷ items))) (groups_left place items query.group (subst (λ outputs. list_all (is_valid_item (list_any is_aggregate outputs) query.group) outputs ≡ true) first stand) rows)
      ∙ made_of_left (λ group. map (output_value group) (Column place ∷ items)) (λ one. goes place (first_row one)) (goes 0) (groups query.group (Column place ∷ items) rows) (λ group. refl))

  -- ---- rows that pass

  module _ (valid : ValidRows) where
    abbrev partition : ValidRows
    partition = in_partition partition_of columns number valid

    part_goes : (test : Option Test) (place : ℕ) (source : QuerySource) (row : Row) → HasAt test place source (columns source.table) → admits test row ≡ true → goes place row ≡ true
        → goes_to partition_of number (columns source.table) (part_of source row) ≡ true
    part_goes test place source row has passes there = by (columns source.table) has
      where
        by : (column : Option ℕ) → HasAt test place source column → goes_to partition_of number column (part_of source row) ≡ true
        by None has = refl
        by (Some column) has = ap (λ (v : Value). partition_of v == number) (has row passes) ∙ there

    part_stays : (test : Option Test) (place : ℕ) (source : QuerySource) (row : Row) → HasAt test place source (columns source.table) → admits test row ≡ true → goes place row ≡ false → is_partitioned (columns source.table) ≡ true
        → goes_to partition_of number (columns source.table) (part_of source row) ≡ false
    part_stays test place source row has passes there partitioned = by (columns source.table) has partitioned
      where
        by : (column : Option ℕ) → HasAt test place source column → is_partitioned column ≡ true → goes_to partition_of number column (part_of source row) ≡ false
        by None has partitioned = cc partitioned
        by (Some column) has partitioned = ap (λ (v : Value). partition_of v == number) (has row passes) ∙ there

    abbrev Wide : ℕ → QuerySource → Type 0
    Wide t source = AreWide source.width (valid source.table t)

    partition_wide : (t : ℕ) (source : QuerySource) → Wide t source → AreWide source.width (partition source.table t)
    partition_wide t source wide = All-filter (goes_to partition_of number (columns source.table)) (λ (row : Row). length row ≡ source.width) (valid source.table t) wide

    module _ (test : Option Test) (t place : ℕ) (row : Row) (passes : admits test row ≡ true) where
      abbrev Has : QuerySource → Type 0
      Has source = HasAt test place source (columns source.table)

      first_part : (begin : ℕ) (source : QuerySource) → source.first ≡ begin → take source.width (drop begin row) ≡ part_of source row
      first_part begin source stands = ap (λ p. take source.width (drop p row)) (sym stands)

      same_in : goes place row ≡ true → (begin : ℕ) (sources : List QuerySource) → AreContiguousFrom begin sources → All (Wide t) sources → All Has sources
          → occurrences (product_of (lists_at partition t (tables_in sources))) (drop begin row) ≡ occurrences (product_of (lists_at valid t (tables_in sources))) (drop begin row)
      same_in there begin [] stand wide has = refl
      same_in there begin (source ∷ sources) stand wide has =
          let part = drop begin row in
          let own : Wide t source = first_of (Wide t) source sources wide in
          let first : occurrences (partition source.table t) (take source.width part) ≡ occurrences (valid source.table t) (take source.width part) =
          subst (λ p. occurrences (partition source.table t) p ≡ occurrences (valid source.table t) p) (sym (first_part begin source stand.0))
          (passed (goes_to partition_of number (columns source.table)) (valid source.table t) (part_of source row) (part_goes test place source row (first_of Has source sources has) passes there)) in
          let rest : occurrences (product_of (lists_at partition t (tables_in sources))) (drop source.width part) ≡ occurrences (product_of (lists_at valid t (tables_in sources))) (drop source.width part) =
          subst (λ r. occurrences (product_of (lists_at partition t (tables_in sources))) r ≡ occurrences (product_of (lists_at valid t (tables_in sources))) r) (sym (drop-drop source.width begin row))
          (same_in there (begin + source.width) sources stand.1 (others_of (Wide t) source sources wide) (others_of Has source sources has)) in
          counted_first source.width (partition source.table t) (lists_at partition t (tables_in sources)) part (partition_wide t source own)
          ∙ (λ i. first i * rest i)
          ∙ sym (counted_first source.width (valid source.table t) (lists_at valid t (tables_in sources)) part own)

      none_in : goes place row ≡ false → (begin : ℕ) (sources : List QuerySource) → AreContiguousFrom begin sources → All (Wide t) sources → All Has sources
          → list_any (λ (source : QuerySource). is_partitioned (columns source.table)) sources ≡ true → occurrences (product_of (lists_at partition t (tables_in sources))) (drop begin row) ≡ 0
      none_in there begin [] stand wide has some = cc some
      none_in there begin (source ∷ sources) stand wide has some =
          by (is_partitioned (columns source.table)) refl
          (λ later. none_in there (begin + source.width) sources stand.1 (others_of (Wide t) source sources wide) (others_of Has source sources has) later)
        where
          part : Row
          part = drop begin row

          rest : List (List Row)
          rest = lists_at partition t (tables_in sources)

          counted : occurrences (product_of (lists_at partition t (tables_in (source ∷ sources)))) part ≡ occurrences (partition source.table t) (take source.width part) * occurrences (product_of rest) (drop source.width part)
          counted = counted_first source.width (partition source.table t) rest part (partition_wide t source (first_of (Wide t) source sources wide))

          by : (b : Bool) → is_partitioned (columns source.table) ≡ b
              → (list_any (λ (source : QuerySource). is_partitioned (columns source.table)) sources ≡ true → occurrences (product_of rest) (drop (begin + source.width) row) ≡ 0)
              → occurrences (product_of (lists_at partition t (tables_in (source ∷ sources)))) part ≡ 0
          by true partitioned others =
              let first : occurrences (partition source.table t) (take source.width part) ≡ 0 =
              subst (λ p. occurrences (partition source.table t) p ≡ 0) (sym (first_part begin source stand.0))
              (failed (goes_to partition_of number (columns source.table)) (valid source.table t) (part_of source row) (part_stays test place source row (first_of Has source sources has) passes there partitioned)) in
              let none : 0 * occurrences (product_of rest) (drop source.width part) ≡ 0 = omega arith in
              counted ∙ ap (λ n. n * occurrences (product_of rest) (drop source.width part)) first ∙ none
          by false whole others =
              let later : occurrences (product_of rest) (drop source.width part) ≡ 0 =
              subst (λ r. occurrences (product_of rest) r ≡ 0) (sym (drop-drop source.width begin row)) (others (rw whole at some)) in
              let none : occurrences (partition source.table t) (take source.width part) * 0 ≡ 0 = omega arith in
              counted ∙ ap (λ n. occurrences (partition source.table t) (take source.width part) * n) later ∙ none

    module _ (query : QueryPlan) (t place : ℕ) (stand : AreContiguousFrom 0 query.sources) (wide : All (Wide t) query.sources)
        (has : All (λ (source : QuerySource). HasAt query.test place source (columns source.table)) query.sources)
        (some : list_any (λ (source : QuerySource). is_partitioned (columns source.table)) query.sources ≡ true) where
      abbrev all : List Row
      all = product_of (lists_at valid t (tables_of query))

      abbrev own : List Row
      own = product_of (lists_at partition t (tables_of query))

      passing_in : SameCounts (selection query.test own) (filter (goes place) (selection query.test all))
      passing_in v = by (admits query.test v) (goes place v) refl refl
        where
          by : (b c : Bool) → admits query.test v ≡ b → goes place v ≡ c → occurrences (selection query.test own) v ≡ occurrences (filter (goes place) (selection query.test all)) v
          by true true passes there =
              passed (admits query.test) own v passes
              ∙ same_in query.test t place v passes there 0 query.sources stand wide has
              ∙ sym (passed (admits query.test) all v passes)
              ∙ sym (passed (goes place) (selection query.test all) v there)
          by true false passes there =
              passed (admits query.test) own v passes
              ∙ none_in query.test t place v passes there 0 query.sources stand wide has some
              ∙ sym (failed (goes place) (selection query.test all) v there)
          by false true passes there =
              failed (admits query.test) own v passes
              ∙ sym (passed (goes place) (selection query.test all) v there ∙ failed (admits query.test) all v passes)
          by false false passes there =
              failed (admits query.test) own v passes ∙ sym (failed (goes place) (selection query.test all) v there)

      ordinary_in : (items : List Output) → query.outputs ≡ Column place ∷ items → are_valid_items query ≡ true
          → SameCounts (ordinary query (lists_at partition t (tables_of query))) (filter (goes 0) (ordinary query (lists_at valid t (tables_of query))))
      ordinary_in items first items_are v =
          let left = filter (goes place) (selection query.test all) in
          let kept : selection query.test left ≡ left = left_already (admits query.test) (goes place) all in
          ordinary_same query (lists_at partition t (tables_of query)) (left ∷ []) items_are (λ u. passing_in u ∙ ap (λ l. occurrences l u) (sym kept)) v
          ∙ ap (λ rows. occurrences (map (λ group. map (output_value group) query.outputs) (groups query.group query.outputs rows)) v) kept
          ∙ ap (λ l. occurrences l v) (made_left query place items first items_are (selection query.test all))

    times_left : (query : QueryPlan) (catalogue : Catalogue) → AreFitting catalogue valid → IsQueryOver catalogue query → IsPartitionedBy columns query
        → (v : Row) (t : ℕ) → times_in partition query v t ≡ (if goes 0 v then times_in valid query v t else 0)
    times_left query catalogue fit over partitioned v t =
        ordinary_in query t partitioned.place over.sources (valid_wide catalogue valid query.sources fit over.columns t) partitioned.each partitioned.some partitioned.items partitioned.first over.items v ∙ by (goes 0 v) refl
      where
        rows : List Row
        rows = ordinary query (lists_at valid t (tables_of query))

        by : (b : Bool) → goes 0 v ≡ b → occurrences (filter (goes 0) rows) v ≡ (if goes 0 v then occurrences rows v else 0)
        by true there = passed (goes 0) rows v there ∙ rw there refl
        by false there = failed (goes 0) rows v there ∙ rw there refl

    right_left : (right : Option QueryPlan) (catalogue : Catalogue) → AreFitting catalogue valid → ((query : QueryPlan) → right ≡ Some query → IsQueryOver catalogue query) → ((query : QueryPlan) → right ≡ Some query → IsPartitionedBy columns query)
        → (v : Row) (t : ℕ) → times_in_right partition right v t ≡ (if goes 0 v then times_in_right valid right v t else 0)
    right_left None catalogue fit over partitioned v t = by (goes 0 v)
      where
        by : (b : Bool) → times_in_right partition None v t ≡ (if b then times_in_right valid None v t else 0)
        by true = refl
        by false = refl
    right_left (Some query) catalogue fit over partitioned v t = times_left query catalogue fit (over query refl) (partitioned query refl) v t

-- over a partition a plan has the rows of its answer that go there
pub partitions_answer : PartitionsHaveAnswers
partitions_answer partition_of columns number catalogue valid plan fit over partitioned v t =
    let left = times_left partition_of columns number valid plan.left catalogue fit over.0 partitioned.0 v t in
    let right = right_left partition_of columns number valid plan.right catalogue fit over.1 partitioned.1 v t in
    (λ i. if holds plan.window t then left i - right i else 0) ∙ by (holds plan.window t) (partition_of (value_at v 0) == number)
  where
    by : (b c : Bool) → (if b then (if c then times_in valid plan.left v t else 0) - (if c then times_in_right valid plan.right v t else 0) else 0) ≡ (if c then (if b then times_by valid plan v t else 0) else 0)
    by true true = refl
    by true false = refl
    by false true = refl
    by false false = refl

-- over a partition those rows pass whose value goes there
pub rows_part : PartitionsHaveRows
rows_part partition_of columns number catalogue valid query fit over linked v t =
    passing_in partition_of columns number valid query t linked.place over.sources (valid_wide catalogue valid query.sources fit over.columns t) linked.each linked.some v
