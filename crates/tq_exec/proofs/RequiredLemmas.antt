-- Rows that have the same values at the places that a query reads give it the same answer.
use Rattle.std.proofs.Common.{◌≡◌, ℕ, zero, suc, ◌+◌, ◌-◌, ◌<◌, Bool, true, false, cond, if◌then◌else◌, List, [], ◌∷◌, ◌++◌, map, length, Option, Some, None, refl, sym, ap, subst, arith}
use Rattle.std.specs.Prelude.{◌+ℤ◌, All, filter, pos}
use Rattle.std.specs.List.{AllZip, list_any}
use Rattle.std.proofs.lemmas.List.Concat.{flat_map-cons}
use Rattle.std.proofs.lemmas.List.Elements.{length_all_zip}
use Rattle.tq_base.specs.declared.catalogue.Catalogue.{Catalogue}
use Rattle.tq_base.specs.declared.value.Value.{Value}
use Rattle.tq_base.specs.Contents.{Int}
use Rattle.tq_base.specs.Fragments.{occurrences}
use Rattle.tq_base.specs.Periods.{holds}
use Rattle.tq_event.specs.Projection.{is_wanted, projected_value, projected_values, wanted_of}
use Rattle.tq_base.specs.RowValues.{number_of, value_at}
use Rattle.tq_condition.specs.Ordinary.{admits, product, product_of, projection, selection}
use Rattle.tq_agg.specs.Grouping.{Row, each_once, first_row, grouped_by, same_row, sum_at}
use Rattle.tq_plan.specs.declared.plans.Output.{Output}
use Rattle.tq_plan.specs.declared.plans.Output.TheVariants.{Column, Count, Sum}
use Rattle.tq_plan.specs.declared.plans.QueryPlan.{QueryPlan}
use Rattle.tq_plan.specs.declared.plans.QuerySource.{QuerySource}
use Rattle.tq_plan.specs.Plans.{tables_in, tables_of}
use Rattle.tq_plan.specs.ValidPlans.{IsQueryOver, AreContiguousFrom, is_aggregate}
use Rattle.tq_exec.specs.Answers.{lists_at, times_in, times_in_right, ValidRows}
use Rattle.tq_exec.specs.Fitting.{AreFitting}
use Rattle.tq_exec.specs.Required.{AgreeAt, IsMadeOf, QueryReads, RequiredColumnsSuffice, Serves, Wants, projected_in}
use Rattle.tq_exec.specs.Ordinary.{alone_or_together, groups, ordinary, output_value}
use Rattle.tq_exec.proofs.GroupBags.{of_key}
use Rattle.tq_exec.proofs.NumberLemmas.{first_of, others_of}
use Rattle.tq_exec.proofs.ProductLemmas.{AreWide}
use Rattle.tq_exec.proofs.SourceLemmas.{valid_wide}

-- ---- lists of which each element is alike to that at the same place of the other

module _ {X : Type 0} (Alike : X → X → Type 0) where
  -- those that pass a test
  left_alike : (p : X → Bool) → ((x y : X) → Alike x y → p x ≡ p y) → (xs ys : List X) → AllZip Alike xs ys → AllZip Alike (filter p xs) (filter p ys)
  left_alike p same [] [] are = tt
  left_alike p same [] (y ∷ ys) are = absurd are
  left_alike p same (x ∷ xs) [] are = absurd are
  left_alike p same (x ∷ xs) (y ∷ ys) are =
      subst (λ b. AllZip Alike (filter p (x ∷ xs)) (cond b (y ∷ filter p ys) (filter p ys))) (same x y are.0) (by (p x) (left_alike p same xs ys are.1))
    where
      by : (b : Bool) → AllZip Alike (filter p xs) (filter p ys) → AllZip Alike (cond b (x ∷ filter p xs) (filter p xs)) (cond b (y ∷ filter p ys) (filter p ys))
      by true rest = (are.0, rest)
      by false rest = rest

  both_alike : (xs ys us vs : List X) → AllZip Alike xs ys → AllZip Alike us vs → AllZip Alike (xs ++ us) (ys ++ vs)
  both_alike [] [] us vs are more = more
  both_alike [] (y ∷ ys) us vs are more = absurd are
  both_alike (x ∷ xs) [] us vs are more = absurd are
  both_alike (x ∷ xs) (y ∷ ys) us vs are more = (are.0, both_alike xs ys us vs are.1 more)

-- what is the same of alike elements
same_of_alike : {X Y : Type 0} (Alike : X → X → Type 0) (f : X → Y) → ((x y : X) → Alike x y → f x ≡ f y) → (xs ys : List X) → AllZip Alike xs ys → map f xs ≡ map f ys
same_of_alike Alike f same [] [] are = refl
same_of_alike Alike f same [] (y ∷ ys) are = absurd are
same_of_alike Alike f same (x ∷ xs) [] are = absurd are
same_of_alike Alike f same (x ∷ xs) (y ∷ ys) are = λ i. same x y are.0 i ∷ same_of_alike Alike f same xs ys are.1 i

-- what is alike of each
alike_of_each : {K X : Type 0} (Alike : X → X → Type 0) (f g : K → X) (keys : List K) → ((key : K) → Alike (f key) (g key)) → AllZip Alike (map f keys) (map g keys)
alike_of_each Alike f g [] alike = tt
alike_of_each Alike f g (key ∷ keys) alike = (alike key, alike_of_each Alike f g keys alike)

weaker_alike : {X : Type 0} (Alike Weaker : X → X → Type 0) → ((x y : X) → Alike x y → Weaker x y) → (xs ys : List X) → AllZip Alike xs ys → AllZip Weaker xs ys
weaker_alike Alike Weaker weaker [] [] are = tt
weaker_alike Alike Weaker weaker [] (y ∷ ys) are = absurd are
weaker_alike Alike Weaker weaker (x ∷ xs) [] are = absurd are
weaker_alike Alike Weaker weaker (x ∷ xs) (y ∷ ys) are = (weaker x y are.0, weaker_alike Alike Weaker weaker xs ys are.1)

module _ (places : ℕ → Bool) where
  -- ---- rows that have the same values at these places, the first value standing at the given one

  abbrev pub AgreeFrom : ℕ → Row → Row → Type 0
  AgreeFrom begin [] [] = Unit {0}
  AgreeFrom begin [] (w ∷ ws) = ⊥
  AgreeFrom begin (v ∷ vs) [] = ⊥
  AgreeFrom begin (v ∷ vs) (w ∷ ws) = (places begin ≡ true → v ≡ w) × AgreeFrom (begin + 1) vs ws

  agree_self : (begin : ℕ) (row : Row) → AgreeFrom begin row row
  agree_self begin [] = tt
  agree_self begin (v ∷ vs) = ((λ is. refl), agree_self (begin + 1) vs)

  agree_at : (begin : ℕ) (row other : Row) → AgreeFrom begin row other → (place k : ℕ) → k ≡ begin + place → places k ≡ true → value_at row place ≡ value_at other place
  agree_at begin [] [] are place k is looked = refl
  agree_at begin [] (w ∷ ws) are place k is looked = absurd are
  agree_at begin (v ∷ vs) [] are place k is looked = absurd are
  agree_at begin (v ∷ vs) (w ∷ ws) are zero k is looked =
      let here : k ≡ begin = omega (arith, is) in
      are.0 (subst (λ n. places n ≡ true) here looked)
  agree_at begin (v ∷ vs) (w ∷ ws) are (suc place) k is looked = agree_at (begin + 1) vs ws are.1 place k (omega (arith, is)) looked

  agree_both : (begin width : ℕ) (row other rest others : Row) → length row ≡ width → AgreeFrom begin row other → AgreeFrom (begin + width) rest others → AgreeFrom begin (row ++ rest) (other ++ others)
  agree_both begin width [] [] rest others wide are more =
      let same : begin + width ≡ begin = omega (arith, wide) in
      subst (λ n. AgreeFrom n rest others) same more
  agree_both begin width [] (w ∷ ws) rest others wide are more = absurd are
  agree_both begin width (v ∷ vs) [] rest others wide are more = absurd are
  agree_both begin width (v ∷ vs) (w ∷ ws) rest others wide are more =
      let next : begin + width ≡ begin + 1 + length vs = omega (arith, wide) in
      (are.0, agree_both (begin + 1) (length vs) vs ws rest others refl are.1 (subst (λ n. AgreeFrom n rest others) next more))

  kept_same : (w : Bool) (v : Value) → w ≡ true → v ≡ projected_value w v
  kept_same true v is = refl
  kept_same false v is = cc is

  -- a row of which the values at these places are kept
  kept_agrees : (wanted : List Bool) (begin : ℕ) (row : Row) → ((column : ℕ) → column < length row → places (begin + column) ≡ true → is_wanted wanted column ≡ true) → AgreeFrom begin row (projected_values wanted row)
  unfolding projected_values
  kept_agrees [] begin [] wants = tt
  kept_agrees [] begin (v ∷ vs) wants = agree_self begin (v ∷ vs)
  kept_agrees (w ∷ ws) begin [] wants = tt
  kept_agrees (w ∷ ws) begin (v ∷ vs) wants =
      let here : begin ≡ begin + 0 = omega arith in (
        (λ looked. kept_same w v (wants 0 (omega arith) (subst (λ n. places n ≡ true) here looked))),
        kept_agrees ws (begin + 1) vs (λ column less looked. wants (suc column) (omega (arith, less)) (let next : begin + 1 + column ≡ begin + suc column = omega arith in subst (λ n. places n ≡ true) next looked)),
      )

  -- ---- rows of sources

  -- the same of rows of a width
  abbrev WideFrom : ℕ → ℕ → Row → Row → Type 0
  WideFrom begin width row other = (length row ≡ width) × AgreeFrom begin row other

  kept_alike : (wanted : List Bool) (begin width : ℕ) (rows : List Row) → ((column : ℕ) → column < width → places (begin + column) ≡ true → is_wanted wanted column ≡ true) → AreWide width rows
      → AllZip (WideFrom begin width) rows (map (projected_values wanted) rows)
  kept_alike wanted begin width [] wants wide = tt
  kept_alike wanted begin width (row ∷ rows) wants wide =
      let here : length row ≡ width = first_of (λ (r : Row). length r ≡ width) row rows wide in (
        (here, kept_agrees wanted begin row (λ column less looked. wants column (omega (arith, less, here)) looked)),
        kept_alike wanted begin width rows wants (others_of (λ (r : Row). length r ≡ width) row rows wide),
      )

  after_alike : (begin width : ℕ) (row other : Row) → WideFrom begin width row other → (right rights : List Row) → AllZip (AgreeFrom (begin + width)) right rights
      → AllZip (AgreeFrom begin) (map (λ r. row ++ r) right) (map (λ r. other ++ r) rights)
  after_alike begin width row other is [] [] are = tt
  after_alike begin width row other is [] (r ∷ rights) are = absurd are
  after_alike begin width row other is (r ∷ right) [] are = absurd are
  after_alike begin width row other is (r ∷ right) (s ∷ rights) are =
      (agree_both begin width row other r s is.0 is.1 are.0, after_alike begin width row other is right rights are.1)

  product_alike : (begin width : ℕ) (left lefts right rights : List Row) → AllZip (WideFrom begin width) left lefts → AllZip (AgreeFrom (begin + width)) right rights
      → AllZip (AgreeFrom begin) (product left right) (product lefts rights)
  product_alike begin width [] [] right rights are more = tt
  product_alike begin width [] (m ∷ lefts) right rights are more = absurd are
  product_alike begin width (l ∷ left) [] right rights are more = absurd are
  product_alike begin width (l ∷ left) (m ∷ lefts) right rights are more =
      subst (λ all. AllZip (AgreeFrom begin) all (product (m ∷ lefts) rights)) (sym (flat_map-cons (λ (l : Row). map (λ r. l ++ r) right) l left))
      (subst (λ all. AllZip (AgreeFrom begin) (map (λ r. l ++ r) right ++ product left right) all) (sym (flat_map-cons (λ (l : Row). map (λ r. l ++ r) rights) m lefts))
      (both_alike (AgreeFrom begin) (map (λ r. l ++ r) right) (map (λ r. m ++ r) rights) (product left right) (product lefts rights)
      (after_alike begin width l m are.0 right rights more)
      (product_alike begin width left lefts right rights are.1 more)))

  module _ (wanted : List (List Bool)) (valid : ValidRows) (t : ℕ) where
    abbrev Wide : QuerySource → Type 0
    Wide source = AreWide source.width (valid source.table t)

    abbrev Wanted : QuerySource → Type 0
    Wanted source = Wants (wanted_of wanted source.table) places source

    source_alike : (begin : ℕ) (source : QuerySource) → source.first ≡ begin → Wide source → Wanted source
        → AllZip (WideFrom begin source.width) (valid source.table t) (projected_in wanted valid source.table t)
    source_alike begin source stands wide wants =
        subst (λ n. AllZip (WideFrom n source.width) (valid source.table t) (projected_in wanted valid source.table t)) stands
        (kept_alike (wanted_of wanted source.table) source.first source.width (valid source.table t) wants wide)

    products_alike : (begin : ℕ) (sources : List QuerySource) → AreContiguousFrom begin sources → All Wide sources → All Wanted sources
        → AllZip (AgreeFrom begin) (product_of (lists_at valid t (tables_in sources))) (product_of (lists_at (projected_in wanted valid) t (tables_in sources)))
    products_alike begin [] stand wide wants = (tt, tt)
    products_alike begin (source ∷ []) stand wide wants =
        weaker_alike (WideFrom begin source.width) (AgreeFrom begin) (λ row other is. is.1) (valid source.table t) (projected_in wanted valid source.table t)
        (source_alike begin source stand.0 (first_of Wide source [] wide) (first_of Wanted source [] wants))
    products_alike begin (source ∷ next ∷ sources) stand wide wants =
        product_alike begin source.width (valid source.table t) (projected_in wanted valid source.table t)
        (product_of (lists_at valid t (tables_in (next ∷ sources)))) (product_of (lists_at (projected_in wanted valid) t (tables_in (next ∷ sources))))
        (source_alike begin source stand.0 (first_of Wide source (next ∷ sources) wide) (first_of Wanted source (next ∷ sources) wants))
        (products_alike (begin + source.width) (next ∷ sources) stand.1 (others_of Wide source (next ∷ sources) wide) (others_of Wanted source (next ∷ sources) wants))

  -- ---- groups and items

  abbrev Alike : Row → Row → Type 0
  Alike = AgreeFrom 0

  agree : (row other : Row) → Alike row other → AgreeAt places row other
  agree row other are place looked = agree_at 0 row other are place place (omega arith) looked

  abbrev Looked : ℕ → Type 0
  Looked place = places place ≡ true

  same_key : (keys : List ℕ) → All Looked keys → (row other : Row) → Alike row other → projection keys row ≡ projection keys other
  same_key [] looked row other are = refl
  same_key (key ∷ keys) looked row other are =
      λ i. agree row other are key (first_of Looked key keys looked) i ∷ same_key keys (others_of Looked key keys looked) row other are i

  grouped_alike : (keys : List ℕ) → All Looked keys → (rows others : List Row) → AllZip Alike rows others → AllZip (AllZip Alike) (grouped_by keys rows) (grouped_by keys others)
  grouped_alike keys looked rows others are =
      subst (λ found. AllZip (AllZip Alike) (grouped_by keys rows) (map (of_key keys others) (each_once found)))
      (same_of_alike Alike (projection keys) (same_key keys looked) rows others are)
      (alike_of_each (AllZip Alike) (of_key keys rows) (of_key keys others) (each_once (map (projection keys) rows))
      (λ key. left_alike Alike (λ row. same_row (projection keys row) key) (λ row other alike. ap (λ k. same_row k key) (same_key keys looked row other alike)) rows others are))

  each_alone : (rows others : List Row) → AllZip Alike rows others → AllZip (AllZip Alike) (map (λ row. row ∷ []) rows) (map (λ row. row ∷ []) others)
  each_alone [] [] are = tt
  each_alone [] (r ∷ others) are = absurd are
  each_alone (row ∷ rows) [] are = absurd are
  each_alone (row ∷ rows) (other ∷ others) are = ((are.0, tt), each_alone rows others are.1)

  alone_alike : (b : Bool) (rows others : List Row) → AllZip Alike rows others → AllZip (AllZip Alike) (alone_or_together b rows) (alone_or_together b others)
  alone_alike true rows others are = (are, tt)
  alone_alike false rows others are = each_alone rows others are

  groups_alike : (keys : List ℕ) (outputs : List Output) → All Looked keys → (rows others : List Row) → AllZip Alike rows others → AllZip (AllZip Alike) (groups keys outputs rows) (groups keys outputs others)
  groups_alike [] outputs looked rows others are = alone_alike (list_any is_aggregate outputs) rows others are
  groups_alike (first ∷ more) outputs looked rows others are = grouped_alike (first ∷ more) looked rows others are

  same_first : (place : ℕ) → Looked place → (group other : List Row) → AllZip Alike group other → value_at (first_row group) place ≡ value_at (first_row other) place
  same_first place looked [] [] are = refl
  same_first place looked [] (s ∷ other) are = absurd are
  same_first place looked (r ∷ group) [] are = absurd are
  same_first place looked (r ∷ group) (s ∷ other) are = agree r s are.0 place looked

  same_sum : (place : ℕ) → Looked place → (group other : List Row) → AllZip Alike group other → sum_at place group ≡ sum_at place other
  same_sum place looked [] [] are = refl
  same_sum place looked [] (s ∷ other) are = absurd are
  same_sum place looked (r ∷ group) [] are = absurd are
  same_sum place looked (r ∷ group) (s ∷ other) are = λ i. number_of (agree r s are.0 place looked i) +ℤ same_sum place looked group other are.1 i

  same_item : (output : Output) → IsMadeOf places output → (group other : List Row) → AllZip Alike group other → output_value group output ≡ output_value other output
  same_item (Column place) looked group other are = same_first place looked group other are
  same_item Count looked group other are = ap (λ n. Int (pos n)) (length_all_zip Alike group other are)
  same_item (Sum place) looked group other are = ap Int (same_sum place looked group other are)

  same_items : (outputs : List Output) → All (IsMadeOf places) outputs → (group other : List Row) → AllZip Alike group other → map (output_value group) outputs ≡ map (output_value other) outputs
  same_items [] looked group other are = refl
  same_items (output ∷ outputs) looked group other are =
      λ i. same_item output (first_of (IsMadeOf places) output outputs looked) group other are i ∷ same_items outputs (others_of (IsMadeOf places) output outputs looked) group other are i

  -- ---- queries

  ordinary_alike : (query : QueryPlan) → QueryReads places query → (lists others : List (List Row)) → AllZip Alike (product_of lists) (product_of others) → ordinary query lists ≡ ordinary query others
  ordinary_alike query required lists others are =
      same_of_alike (AllZip Alike) (λ group. map (output_value group) query.outputs) (same_items query.outputs required.items)
      (groups query.group query.outputs (selection query.test (product_of lists))) (groups query.group query.outputs (selection query.test (product_of others)))
      (groups_alike query.group query.outputs required.group (selection query.test (product_of lists)) (selection query.test (product_of others))
      (left_alike Alike (admits query.test) (λ row other alike. required.test row other (agree row other alike)) (product_of lists) (product_of others) are))

module _ (wanted : List (List Bool)) (catalogue : Catalogue) (valid : ValidRows) (fit : AreFitting catalogue valid) where
  times_kept : (query : QueryPlan) → IsQueryOver catalogue query → Serves wanted query → (v : Row) (t : ℕ) → times_in (projected_in wanted valid) query v t ≡ times_in valid query v t
  times_kept query over serves v t =
      ap (λ rows. occurrences rows v)
      (sym (ordinary_alike serves.places query serves.required (lists_at valid t (tables_of query)) (lists_at (projected_in wanted valid) t (tables_of query))
      (products_alike serves.places wanted valid t 0 query.sources over.sources (valid_wide catalogue valid query.sources fit over.columns t) serves.wants)))

  right_kept : (right : Option QueryPlan) → ((query : QueryPlan) → right ≡ Some query → IsQueryOver catalogue query) → ((query : QueryPlan) → right ≡ Some query → Serves wanted query)
      → (v : Row) (t : ℕ) → times_in_right (projected_in wanted valid) right v t ≡ times_in_right valid right v t
  right_kept None over serves v t = refl
  right_kept (Some query) over serves v t = times_kept query (over query refl) (serves query refl) v t

-- a plan's answer depends on the columns that it names, and on no others
pub named_tell : RequiredColumnsSuffice
named_tell wanted catalogue valid plan fit over serve v t =
    let left = times_kept wanted catalogue valid fit plan.left over.0 serve.0 v t in
    let right = right_kept wanted catalogue valid fit plan.right over.1 serve.1 v t in
    λ i. if holds plan.window t then left i - right i else 0
