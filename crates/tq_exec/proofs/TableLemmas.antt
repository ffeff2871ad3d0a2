-- What a query gives depends on how often each row stands in its sources, and not on the rows' order: so whatever is
-- valid as often gives a plan the same answer.
use Rattle.std.proofs.Common.{◌≡◌, ℕ, ◌+◌, ◌-◌, Bool, true, false, if◌then◌else◌, List, [], ◌∷◌, ◌++◌, map, length, pos, Option, Some, None, refl, sym, ap, ◌∙◌, arith}
use Rattle.std.specs.Prelude.{All, sum_by}
use Rattle.std.specs.List.{list_any}
use Rattle.std.proofs.lemmas.List.Concat.{flat_map-cons}
use Rattle.std.proofs.lemmas.List.Elements.{All-cons, All-tail}
use Rattle.std.proofs.lemmas.List.Sums.{sum_by-append, sum_by-cons}
use Rattle.tq_base.specs.Contents.{Int}
use Rattle.tq_base.specs.Fragments.{occurrences}
use Rattle.tq_base.specs.Periods.{holds}
use Rattle.tq_condition.specs.Ordinary.{admits, product, product_of, projection, selection}
use Rattle.tq_plan.specs.Plans.{tables_of}
use Rattle.tq_agg.specs.Grouping.{Row, grouped_rows}
use Rattle.tq_plan.specs.declared.plans.Plan.{Plan}
use Rattle.tq_plan.specs.declared.plans.QueryPlan.{QueryPlan}
use Rattle.tq_exec.specs.Answers.{lists_at, right_tables, tables_read, times_at, times_in, times_in_right, AnswersAgree, ValidRows}
use Rattle.tq_exec.specs.Ordinary.{ordinary}
use Rattle.tq_plan.specs.ValidPlans.{is_aggregate, are_valid_items, no_group, IsPlan, PlansAreValid}
use Rattle.tq_exec.specs.OutputPlaces.{item_places, output_place, summed_places}
use Rattle.tq_exec.specs.Scan.{SameCounts}
use Rattle.tq_exec.proofs.BagLemmas.{is_it, same_filtered, same_lengths, same_mapped, same_products, same_sums}
use Rattle.tq_exec.proofs.GroupBags.{same_groups}
use Rattle.tq_exec.proofs.GroupingLemmas.{ordinary_counted, ordinary_grouped}
use Rattle.tq_exec.proofs.PlaceLemmas.{no_places, ordinary_alone}

-- ---- products

-- the lists are alike, one by one
abbrev AreAlike : List (List Row) → List (List Row) → Type 0
AreAlike [] [] = Unit {0}
AreAlike [] (b ∷ ys) = ⊥
AreAlike (a ∷ xs) [] = ⊥
AreAlike (a ∷ xs) (b ∷ ys) = SameCounts a b × AreAlike xs ys

counted_product : (left right : List Row) (v : Row) → occurrences (product left right) v ≡ sum_by (λ l. occurrences (map (λ r. l ++ r) right) v) left
counted_product [] right v = refl
counted_product (l ∷ left) right v =
    ap (λ rows. occurrences rows v) (flat_map-cons (λ (row : Row). map (λ r. row ++ r) right) l left)
    ∙ sum_by-append (is_it v) (map (λ r. l ++ r) right) (product left right)
    ∙ (let rest = counted_product left right v in
    let both : occurrences (map (λ r. l ++ r) right) v + occurrences (product left right) v ≡ sum_by (λ (row : Row). occurrences (map (λ r. row ++ r) right) v) (l ∷ left) =
    omega (arith, rest, sum_by-cons (λ (row : Row). occurrences (map (λ r. row ++ r) right) v) l left) in
    both)

same_left : (a b right : List Row) → SameCounts a b → SameCounts (product a right) (product b right)
same_left a b right same v =
    counted_product a right v ∙ same_sums (λ l. occurrences (map (λ r. l ++ r) right) v) a b same ∙ sym (counted_product b right v)

same_product_of : (xs ys : List (List Row)) → AreAlike xs ys → SameCounts (product_of xs) (product_of ys)
same_product_of [] [] alike v = refl
same_product_of [] (b ∷ ys) alike v = absurd alike
same_product_of (a ∷ xs) [] alike v = absurd alike
same_product_of (a ∷ []) (b ∷ []) alike v = alike.0 v
same_product_of (a ∷ []) (b ∷ c ∷ ys) alike v = absurd alike.1
same_product_of (a ∷ d ∷ xs) (b ∷ []) alike v = absurd alike.1
same_product_of (a ∷ d ∷ xs) (b ∷ c ∷ ys) alike v =
    same_left a b (product_of (d ∷ xs)) alike.0 v ∙ same_products b (product_of (d ∷ xs)) (product_of (c ∷ ys)) (same_product_of (d ∷ xs) (c ∷ ys) alike.1) v

-- ---- queries

-- the rows that pass
same_passing : (query : QueryPlan) (xs ys : List (List Row)) → AreAlike xs ys → SameCounts (selection query.test (product_of xs)) (selection query.test (product_of ys))
same_passing query xs ys alike = same_filtered (admits query.test) (product_of xs) (product_of ys) (same_product_of xs ys alike)

-- a query makes as often of rows that pass as often
pub ordinary_same : (query : QueryPlan) (xs ys : List (List Row)) → are_valid_items query ≡ true → SameCounts (selection query.test (product_of xs)) (selection query.test (product_of ys)) → SameCounts (ordinary query xs) (ordinary query ys)
ordinary_same query xs ys stand same v = by_group (no_group query.group) refl
  where
    one : List Row
    one = selection query.test (product_of xs)

    other : List Row
    other = selection query.test (product_of ys)

    places : List ℕ
    places = item_places query.group (length query.group + 1) query.outputs

    by_count : (b : Bool) → list_any is_aggregate query.outputs ≡ b → no_group query.group ≡ true → occurrences (ordinary query xs) v ≡ occurrences (ordinary query ys) v
    by_count true counted none =
        sym (ap (λ l. occurrences l v) (ordinary_counted query xs none counted stand))
        ∙ ap (λ n. occurrences (map (projection places) ((Int (pos n) ∷ []) ∷ [])) v) (same_lengths one other same)
        ∙ ap (λ l. occurrences l v) (ordinary_counted query ys none counted stand)
    by_count false alone none =
        ap (λ l. occurrences l v) (ordinary_alone query xs (no_places query.group none) alone)
        ∙ same_mapped (projection (map output_place query.outputs)) one other same v
        ∙ sym (ap (λ l. occurrences l v) (ordinary_alone query ys (no_places query.group none) alone))

    by_group : (b : Bool) → no_group query.group ≡ b → occurrences (ordinary query xs) v ≡ occurrences (ordinary query ys) v
    by_group true none = by_count (list_any is_aggregate query.outputs) refl none
    by_group false some =
        sym (ap (λ l. occurrences l v) (ordinary_grouped query xs some stand))
        ∙ same_mapped (projection places) (grouped_rows query.group (summed_places query.outputs) one) (grouped_rows query.group (summed_places query.outputs) other)
        (same_groups query.group (summed_places query.outputs) one other same) v
        ∙ ap (λ l. occurrences l v) (ordinary_grouped query ys some stand)

same_ordinary : (query : QueryPlan) (xs ys : List (List Row)) → are_valid_items query ≡ true → AreAlike xs ys → SameCounts (ordinary query xs) (ordinary query ys)
same_ordinary query xs ys stand alike = ordinary_same query xs ys stand (same_passing query xs ys alike)

-- ---- plans

module _ (valid other : ValidRows) where
  abbrev Agree : ℕ → Type 0
  Agree number = (t : ℕ) (v : Row) → occurrences (valid number t) v ≡ occurrences (other number t) v

  lists_alike : (numbers : List ℕ) (t : ℕ) → All Agree numbers → AreAlike (lists_at valid t numbers) (lists_at other t numbers)
  lists_alike [] t all = tt
  lists_alike (table ∷ numbers) t all = (all 0 table (omega arith) t, lists_alike numbers t (All-tail Agree table numbers all))

  times_same : (query : QueryPlan) (v : Row) (t : ℕ) → are_valid_items query ≡ true → All Agree (tables_of query) → times_in valid query v t ≡ times_in other query v t
  times_same query v t stand all = same_ordinary query (lists_at valid t (tables_of query)) (lists_at other t (tables_of query)) stand (lists_alike (tables_of query) t all) v

  right_same : (right : Option QueryPlan) (v : Row) (t : ℕ) → ((query : QueryPlan) → right ≡ Some query → are_valid_items query ≡ true) → All Agree (right_tables right)
      → times_in_right valid right v t ≡ times_in_right other right v t
  right_same None v t stand all = refl
  right_same (Some query) v t stand all = times_same query v t (stand query refl) all

  plan_same : PlansAreValid → (plan : Plan) (v : Row) (t : ℕ) → IsPlan plan → All Agree (tables_read plan) → times_at valid plan v t ≡ times_at other plan v t
  plan_same stand plan v t is all =
      let parts = All-parts Agree (tables_of plan.left) (right_tables plan.right) all in
      λ i. if holds plan.window t then times_same plan.left v t ((stand plan is).0) parts.0 i - right_same plan.right v t ((stand plan is).1) parts.1 i else 0
    where
      All-parts : (P : ℕ → Type 0) (xs ys : List ℕ) → All P (xs ++ ys) → All P xs × All P ys
      All-parts P [] ys all = ((λ k d less. absurd (omega (arith, less))), all)
      All-parts P (x ∷ xs) ys all =
          let rest = All-parts P xs ys (All-tail P x (xs ++ ys) all) in
          (All-cons P x xs (all 0 x (omega arith)) rest.0, rest.1)

-- an answer over what is valid is one over whatever is valid as often
pub answers_agree : PlansAreValid → AnswersAgree
answers_agree stand valid other plan table is all x = record {
  columns = x.columns;
  layers = record {
    ordered = x.layers.ordered;
    coalesced = x.layers.coalesced;
    counted = λ v t. x.layers.counted v t ∙ plan_same valid other stand plan v t is all;
  };
}
