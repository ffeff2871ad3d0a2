-- Items of grouped and counted rows.
use Rattle.std.proofs.Common.{◌≡◌, ℕ, suc, ◌+◌, ◌<◌, ◌==◌, ◌&&◌, ◌||◌, nat_lt, Bool, true, false, not, List, [], ◌∷◌, ◌++◌, map, length, refl, sym, ap, ◌∙◌, arith}
use Rattle.std.specs.Prelude.{IsTrue, pos}
use Rattle.std.specs.List.{list_all, list_any, position_or_len}
use Rattle.std.proofs.lemmas.Bool.{false≢true, eqb-true, ltb-false}
use Rattle.std.proofs.lemmas.List.{append_assoc, get_or-append-add, length-append}
use Rattle.std.proofs.Math.ListN.{get_or-append}
use Rattle.tq_base.specs.declared.value.Value.{Value}
use Rattle.tq_base.specs.Contents.{Int}
use Rattle.tq_base.specs.declared.fragment.Fragment.{Fragment}
use Rattle.tq_base.specs.declared.period.Period.{Period}
use Rattle.tq_base.specs.Fragments.{at, occurrences}
use Rattle.tq_base.specs.Periods.{holds}
use Rattle.tq_base.specs.RowValues.{value_at}
use Rattle.tq_condition.specs.Ordinary.{HasInside, product_of, projection, selection}
use Rattle.tq_agg.specs.Grouping.{Row, count_rows, first_row, group_row, grouped_by, grouped_rows, sum_at}
use Rattle.tq_plan.specs.declared.plans.Output.{Output}
use Rattle.tq_plan.specs.declared.plans.Output.TheVariants.{Column, Count, Sum}
use Rattle.tq_plan.specs.declared.plans.QueryPlan.{QueryPlan}
use Rattle.tq_exec.specs.Answers.{lists_at, times_in, ValidRows}
use Rattle.tq_exec.specs.Ordinary.{alone_or_together, groups, ordinary, output_value}
use Rattle.tq_plan.specs.ValidPlans.{is_aggregate, are_valid_items, is_valid_item, no_group}
use Rattle.tq_plan.specs.Plans.{is_groupable, tables_of}
use Rattle.tq_exec.specs.OutputPlaces.{item_places, number_in, summed_places}
use Rattle.tq_exec.proofs.BagLemmas.{same_mapped}
use Rattle.tq_exec.proofs.GroupBags.{same_groups}

-- ---- a key

found_before : (p : ℕ → Bool) (places : List ℕ) → list_any p places ≡ true → position_or_len p places < length places
found_before p [] found = absurd (false≢true found)
found_before p (q ∷ places) found = by_first (p q) refl (found_before p places)
  where
    by_first : (b : Bool) → p q ≡ b → (list_any p places ≡ true → position_or_len p places < length places) → position_or_len p (q ∷ places) < length (q ∷ places)
    by_first true is later = rw is (omega arith)
    by_first false is later = rw is (let less = later (sym (ap (λ b. b || list_any p places) is) ∙ found) in omega (arith, less))

number_is : (places : List ℕ) (place : ℕ) → list_any (λ p. p == place) places ≡ true → number_in places place ≡ position_or_len (λ p. p == place) places
number_is places place found = by_less (nat_lt (position_or_len (λ p. p == place) places) (length places)) refl
  where
    by_less : (b : Bool) → nat_lt (position_or_len (λ p. p == place) places) (length places) ≡ b → number_in places place ≡ position_or_len (λ p. p == place) places
    by_less true is = rw is refl
    by_less false is = absurd (omega (arith, ltb-false (position_or_len (λ p. p == place) places) (length places) is, found_before (λ p. p == place) places found))

key_at : (places : List ℕ) (row : Row) (place : ℕ) → list_any (λ p. p == place) places ≡ true → value_at (projection places row) (position_or_len (λ p. p == place) places) ≡ value_at row place
key_at [] row place found = absurd (false≢true found)
key_at (q ∷ places) row place found = by_first (q == place) refl (key_at places row place)
  where
    by_first : (b : Bool) → (q == place) ≡ b
        → (list_any (λ p. p == place) places ≡ true → value_at (projection places row) (position_or_len (λ p. p == place) places) ≡ value_at row place)
        → value_at (projection (q ∷ places) row) (position_or_len (λ p. p == place) (q ∷ places)) ≡ value_at row place
    by_first true is later = rw is (ap (value_at row) (eqb-true q place is))
    by_first false is later =
        rw is (ap (value_at (projection (q ∷ places) row)) (let next : 1 + position_or_len (λ p. p == place) places ≡ suc (position_or_len (λ p. p == place) places) = omega arith in next)
        ∙ later (sym (ap (λ b. b || list_any (λ p. p == place) places) is) ∙ found))

pub length-projection : (places : List ℕ) (row : Row) → length (projection places row) ≡ length places
length-projection [] row = refl
length-projection (place ∷ places) row = ap suc (length-projection places row)

-- ---- the row of a group: its key, its count, its sums

after_key : (key sums : List Value) (count : Value) (n : ℕ) → value_at (key ++ count ∷ sums) (length key + n) ≡ value_at (count ∷ sums) n
after_key key sums count n = get_or-append-add key (count ∷ sums) n (Int (pos 0))

shown_key : (group : List ℕ) (row : Row) (rest : List Value) (place : ℕ) → list_any (λ p. p == place) group ≡ true → value_at (projection group row ++ rest) (number_in group place) ≡ value_at row place
shown_key group row rest place found =
    ap (value_at (projection group row ++ rest)) (number_is group place found)
    ∙ get_or-append (projection group row) rest (Int (pos 0)) (position_or_len (λ p. p == place) group)
    (omega (arith, found_before (λ p. p == place) group found, length-projection group row))
    ∙ key_at group row place found

groupable : (counted : Bool) (group : List ℕ) (place : ℕ) → no_group group ≡ false → is_groupable counted group place ≡ true → list_any (λ p. p == place) group ≡ true
groupable counted [] place some is = absurd (false≢true (sym some))
groupable counted (first ∷ more) place some is = is

and_left : (a b : Bool) → (a && b) ≡ true → a ≡ true
and_left true b is = refl
and_left false b is = is

and_right : (a b : Bool) → (a && b) ≡ true → b ≡ true
and_right true b is = is
and_right false b is = cc

-- the items of a group are the values at these places of the row that it makes; some of its sums are taken already
arranged : (counted : Bool) (group : List ℕ) (rows : List Row) (taken : List Value) (outputs : List Output) → no_group group ≡ false → list_all (is_valid_item counted group) outputs ≡ true
    → projection (item_places group (length group + 1 + length taken) outputs) (projection group (first_row rows) ++ Int (pos (length rows)) ∷ (taken ++ map (λ place. Int (sum_at place rows)) (summed_places outputs)))
    ≡ map (output_value rows) outputs
arranged counted group rows taken [] some stand = refl
arranged counted group rows taken (Column place ∷ outputs) some stand =
    λ i. shown_key group (first_row rows) (Int (pos (length rows)) ∷ (taken ++ map (λ p. Int (sum_at p rows)) (summed_places outputs))) place
    (groupable counted group place some (and_left (is_groupable counted group place) (list_all (is_valid_item counted group) outputs) stand)) i
    ∷ arranged counted group rows taken outputs some (and_right (is_groupable counted group place) (list_all (is_valid_item counted group) outputs) stand) i
arranged counted group rows taken (Count ∷ outputs) some stand =
    λ i. at_count i ∷ arranged counted group rows taken outputs some (and_right true (list_all (is_valid_item counted group) outputs) stand) i
  where
    key : List Value
    key = projection group (first_row rows)

    sums : List Value
    sums = taken ++ map (λ place. Int (sum_at place rows)) (summed_places outputs)

    at_count : value_at (key ++ Int (pos (length rows)) ∷ sums) (length group) ≡ Int (pos (length rows))
    at_count = ap (value_at (key ++ Int (pos (length rows)) ∷ sums)) (let same : length group ≡ length key + 0 = omega (arith, length-projection group (first_row rows)) in same) ∙ after_key key sums (Int (pos (length rows))) 0
arranged counted group rows taken (Sum place ∷ outputs) some stand =
    λ i. at_sum i ∷ (shifted ∙ arranged counted group rows (taken ++ sum ∷ []) outputs some (and_right (not (no_group group)) (list_all (is_valid_item counted group) outputs) stand)) i
  where
    key : List Value
    key = projection group (first_row rows)

    later : List Value
    later = map (λ p. Int (sum_at p rows)) (summed_places outputs)

    sum : Value
    sum = Int (sum_at place rows)

    whole : List Value
    whole = key ++ Int (pos (length rows)) ∷ (taken ++ sum ∷ later)

    at_sum : value_at whole (length group + 1 + length taken) ≡ sum
    at_sum =
        ap (value_at whole) (let same : length group + 1 + length taken ≡ length key + (1 + length taken) = omega (arith, length-projection group (first_row rows)) in same)
        ∙ after_key key (taken ++ sum ∷ later) (Int (pos (length rows))) (1 + length taken)
        ∙ ap (value_at (Int (pos (length rows)) ∷ (taken ++ sum ∷ later))) (let same : 1 + length taken ≡ suc (length taken + 0) = omega arith in same)
        ∙ get_or-append-add taken (sum ∷ later) 0 (Int (pos 0))

    shifted : projection (item_places group (length group + 1 + length taken + 1) outputs) whole
        ≡ projection (item_places group (length group + 1 + length (taken ++ sum ∷ [])) outputs) (key ++ Int (pos (length rows)) ∷ ((taken ++ sum ∷ []) ++ later))
    shifted =
        ap (λ n. projection (item_places group n outputs) whole) (let next : length group + 1 + length taken + 1 ≡ length group + 1 + length (taken ++ sum ∷ []) = omega (arith, length-append taken (sum ∷ [])) in next)
        ∙ ap (λ l. projection (item_places group (length group + 1 + length (taken ++ sum ∷ [])) outputs) (key ++ Int (pos (length rows)) ∷ l)) (sym (append_assoc taken (sum ∷ []) later))

items_of_group : (query : QueryPlan) (rows : List Row) → no_group query.group ≡ false → are_valid_items query ≡ true
    → projection (item_places query.group (length query.group + 1) query.outputs) (group_row query.group (summed_places query.outputs) rows) ≡ map (output_value rows) query.outputs
items_of_group query rows some stand =
    ap (λ n. projection (item_places query.group n query.outputs) (group_row query.group (summed_places query.outputs) rows)) (let same : length query.group + 1 ≡ length query.group + 1 + length no_values = omega arith in same)
    ∙ arranged (list_any is_aggregate query.outputs) query.group rows no_values query.outputs some stand
  where
    no_values : List Value
    no_values = []

groups_arranged : (query : QueryPlan) (lists : List (List Row)) → no_group query.group ≡ false → are_valid_items query ≡ true
    → map (projection (item_places query.group (length query.group + 1) query.outputs)) (map (group_row query.group (summed_places query.outputs)) lists) ≡ map (λ group. map (output_value group) query.outputs) lists
groups_arranged query [] some stand = refl
groups_arranged query (rows ∷ lists) some stand = λ i. items_of_group query rows some stand i ∷ groups_arranged query lists some stand i

with_groups : (places : List ℕ) (outputs : List Output) (rows : List Row) → no_group places ≡ false → groups places outputs rows ≡ grouped_by places rows
with_groups [] outputs rows some = absurd (false≢true (sym some))
with_groups (first ∷ more) outputs rows some = refl

-- the rows of groups, arranged as the items stand, are those of the ordinary query
pub ordinary_grouped : (query : QueryPlan) (lists : List (List Row)) → no_group query.group ≡ false → are_valid_items query ≡ true
    → map (projection (item_places query.group (length query.group + 1) query.outputs)) (grouped_rows query.group (summed_places query.outputs) (selection query.test (product_of lists))) ≡ ordinary query lists
ordinary_grouped query lists some stand =
    groups_arranged query (grouped_by query.group (selection query.test (product_of lists))) some stand
    ∙ ap (map (λ group. map (output_value group) query.outputs)) (sym (with_groups query.group query.outputs (selection query.test (product_of lists)) some))

-- ---- counts without groups

counts : (outputs : List Output) (rows : List Row) → list_all (is_valid_item true []) outputs ≡ true → projection (item_places [] 1 outputs) (Int (pos (length rows)) ∷ []) ≡ map (output_value rows) outputs
counts [] rows stand = refl
counts (Column place ∷ outputs) rows stand = cc
counts (Count ∷ outputs) rows stand = ap (λ l. Int (pos (length rows)) ∷ l) (counts outputs rows stand)
counts (Sum place ∷ outputs) rows stand = cc

-- the count, arranged as the items stand, is the row of the ordinary query
pub ordinary_counted : (query : QueryPlan) (lists : List (List Row)) → no_group query.group ≡ true → list_any is_aggregate query.outputs ≡ true → are_valid_items query ≡ true
    → map (projection (item_places query.group (length query.group + 1) query.outputs)) (count_rows (selection query.test (product_of lists))) ≡ ordinary query lists
ordinary_counted query lists none counted stand = by_group query.group refl
  where
    rows : List Row
    rows = selection query.test (product_of lists)

    by_group : (group : List ℕ) → query.group ≡ group
        → map (projection (item_places query.group (length query.group + 1) query.outputs)) (count_rows rows) ≡ ordinary query lists
    by_group [] is =
        ap (λ g. map (projection (item_places g (length g + 1) query.outputs)) (count_rows rows)) is
        ∙ ap (λ r. r ∷ []) (counts query.outputs rows (sym (λ i. list_all (is_valid_item (counted i) (is i)) query.outputs) ∙ stand))
        ∙ ap (λ b. map (λ group. map (output_value group) query.outputs) (alone_or_together b rows)) (sym counted)
        ∙ ap (λ g. map (λ group. map (output_value group) query.outputs) (groups g query.outputs rows)) (sym is)
    by_group (first ∷ more) is = absurd (false≢true (sym (ap no_group is) ∙ none))

-- ---- fragments

-- the items of groups of the rows that pass
pub grouped_inside : (valid : ValidRows) (query : QueryPlan) (window : Period) (passed out : List Fragment) → no_group query.group ≡ false → are_valid_items query ≡ true
    → HasInside window passed (λ t v. occurrences (selection query.test (product_of (lists_at valid t (tables_of query)))) v)
    → HasInside window out (λ t v. occurrences (map (projection (item_places query.group (length query.group + 1) query.outputs)) (grouped_rows query.group (summed_places query.outputs) (at passed t))) v)
    → HasInside window out (λ t v. times_in valid query v t)
grouped_inside valid query window passed out some stand on_passed on_out t v inside =
    let places = item_places query.group (length query.group + 1) query.outputs in
    let lists = lists_at valid t (tables_of query) in
    let rows = selection query.test (product_of lists) in
    let sums = summed_places query.outputs in
    on_out t v inside
    ∙ same_mapped (projection places) (grouped_rows query.group sums (at passed t)) (grouped_rows query.group sums rows) (same_groups query.group sums (at passed t) rows (λ w. on_passed t w inside)) v
    ∙ ap (λ l. occurrences l v) (ordinary_grouped query lists some stand)

-- the items of the count of as many rows as pass
pub counted_inside : (valid : ValidRows) (query : QueryPlan) (window : Period) (counted out : List Fragment) → no_group query.group ≡ true → list_any is_aggregate query.outputs ≡ true → are_valid_items query ≡ true
    → ((t : ℕ) → IsTrue (holds window t) → length (at counted t) ≡ length (selection query.test (product_of (lists_at valid t (tables_of query)))))
    → HasInside window out (λ t v. occurrences (map (projection (item_places query.group (length query.group + 1) query.outputs)) (count_rows (at counted t))) v)
    → HasInside window out (λ t v. times_in valid query v t)
counted_inside valid query window counted out none aggregate stand as_many on_out t v inside =
    let shown = item_places query.group (length query.group + 1) query.outputs in
    let lists = lists_at valid t (tables_of query) in
    on_out t v inside
    ∙ ap (λ n. occurrences (map (projection shown) ((Int (pos n) ∷ []) ∷ [])) v) (as_many t inside)
    ∙ ap (λ l. occurrences l v) (ordinary_counted query lists none aggregate stand)
