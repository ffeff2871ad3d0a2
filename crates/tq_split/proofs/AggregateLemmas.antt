-- The answers over parts of a plan that counts and sums: added, they are the answer over the whole tables.
use Rattle.std.proofs.Common.{◌≡◌, ◌<◌, ◌≤◌, ◌+◌, ◌-◌, ◌++◌, ◌==◌, ◌∙◌, ◌&&◌, ◌||◌, ℕ, ℤ, zero, suc, Bool, true, false, not, cond, List, [], ◌∷◌, None, Option, Some, ap, arith, filter, length, map, min, refl, subst, sum_by, sym, take, drop}
use Rattle.std.specs.Prelude.{pos, if◌then◌else◌}
use Rattle.std.specs.Option.{is_some}
use Rattle.std.specs.List.{flat_map, list_all, list_any, range_with_len}
use Rattle.std.proofs.lemmas.Bool.{and_parts, eqb-true, false≢true}
use Rattle.std.proofs.lemmas.List.{length-append, length-drop, length-map, length-take-le, take-append-drop}
use Rattle.std.proofs.lemmas.List.Concat.{flat_map-cons}
use Rattle.std.proofs.lemmas.List.FromFn.{length-range_with_len}
use Rattle.std.proofs.lemmas.List.Sums.{sum_by-cons}
use Rattle.std.proofs.Math.IntN.{+ℤ_idl, pos-+ℤ-pos}
use Rattle.tq_base.specs.Contents.{Int}
use Rattle.tq_base.specs.Fragments.{occurrences}
use Rattle.tq_base.specs.Periods.{holds}
use Rattle.tq_base.specs.RowValues.{value_at}
use Rattle.tq_base.specs.ValueOrder.{eq_from_same, same_from_eq}
use Rattle.tq_condition.specs.Ordinary.{product_of, projection, selection}
use Rattle.tq_agg.specs.Grouping.{Row, each_once, first_row, grouped_by, same_row, sum_at}
use Rattle.tq_plan.specs.declared.plans.Output.{Output}
use Rattle.tq_plan.specs.declared.plans.Output.TheVariants.{Column, Count, Sum}
use Rattle.tq_plan.specs.declared.plans.Plan.{Plan}
use Rattle.tq_plan.specs.declared.plans.QueryPlan.{QueryPlan}
use Rattle.tq_plan.specs.Plans.{tables_of}
use Rattle.tq_plan.specs.ValidPlans.{are_valid_items, is_aggregate, is_valid_item}
use Rattle.tq_exec.specs.Answers.{lists_at, times_by, times_in, times_in_right, ValidRows}
use Rattle.tq_exec.specs.OutputPlaces.{output_place}
use Rattle.tq_exec.specs.Ordinary.{alone_or_together, groups, output_value}
use Rattle.tq_exec.specs.Partitioning.{AreLinkedBy, Columns, PartitionsHaveRows, in_partition}
use Rattle.tq_exec.specs.Scan.{SameCounts}
use Rattle.tq_exec.proofs.BagLemmas.{is_it, one_if}
use Rattle.tq_exec.proofs.GroupBags.{first_of_key, of_key, positive_once}
use Rattle.tq_exec.proofs.LinkedPartLemmas.{made_of_parts}
use Rattle.tq_exec.proofs.PartitionLemmas.{made_of_left}
use Rattle.tq_exec.proofs.TableLemmas.{ordinary_same}
use Rattle.tq_split.specs.Adding.{added_rows}
use Rattle.tq_split.specs.Splits.{AggregatesAddUp, ShowsGroups, is_column}
use Rattle.tq_split.proofs.AddingLemmas.{added_occurrences, same_added}
use Rattle.tq_split.proofs.GroupLemmas.{at_most_one, by_key, counted_once, group_made, key-append, key_counted, key_long, key_made, occurrences-append, sum-append}
use Rattle.tq_split.proofs.PartialSums.{AreAdditive, AreKeys, numbers_of, parts_added}

-- ---- groups by other places

-- the first row of each key
abbrev firsts : (Row → Row) → List Row → List Row
firsts f [] = []
firsts f (row ∷ rows) = row ∷ filter (λ other. not (same_row (f other) (f row))) (firsts f rows)

once_of_firsts : (f : Row → Row) (rows : List Row) → map f (firsts f rows) ≡ each_once (map f rows)
once_of_firsts f [] = refl
once_of_firsts f (row ∷ rows) =
    ap (λ l. f row ∷ l)
    (made_of_left f (λ other. not (same_row (f other) (f row))) (λ other. not (same_row other (f row))) (firsts f rows) (λ x. refl)
    ∙ ap (filter (λ other. not (same_row other (f row)))) (once_of_firsts f rows))

-- keys that are equal for the same rows make the same groups
module _ (f g : Row → Row) (alike : (a b : Row) → same_row (f a) (f b) ≡ same_row (g a) (g b)) where
  firsts_alike : (rows : List Row) → firsts f rows ≡ firsts g rows
  firsts_alike [] = refl
  firsts_alike (row ∷ rows) = λ i. row ∷ filter (λ other. not (alike other row i)) (firsts_alike rows i)

  of_firsts : (rows found : List Row) → map (λ key. filter (λ row. same_row (f row) key) rows) (map f found) ≡ map (λ key. filter (λ row. same_row (g row) key) rows) (map g found)
  of_firsts rows [] = refl
  of_firsts rows (first ∷ found) = λ i. filter (λ row. alike row first i) rows ∷ of_firsts rows found i

  regrouped : (rows : List Row) → map (λ key. filter (λ row. same_row (f row) key) rows) (each_once (map f rows)) ≡ map (λ key. filter (λ row. same_row (g row) key) rows) (each_once (map g rows))
  regrouped rows =
      ap (map (λ key. filter (λ row. same_row (f row) key) rows)) (sym (once_of_firsts f rows))
      ∙ of_firsts rows (firsts f rows)
      ∙ ap (λ l. map (λ key. filter (λ row. same_row (g row) key) rows) (map g l)) (firsts_alike rows)
      ∙ ap (map (λ key. filter (λ row. same_row (g row) key) rows)) (once_of_firsts g rows)

abbrev rest_of : Row → Row
rest_of [] = []
rest_of (value ∷ values) = values

value_agrees : (others : List ℕ) (place : ℕ) (a b : Row) → list_any (λ p. p == place) others ≡ true → projection others a ≡ projection others b → value_at a place ≡ value_at b place
value_agrees [] place a b found same = absurd (false≢true found)
value_agrees (q ∷ others) place a b found same = by (q == place) refl found (λ later. value_agrees others place a b later (ap rest_of same))
  where
    by : (c : Bool) → (q == place) ≡ c → (c || list_any (λ p. p == place) others) ≡ true → (list_any (λ p. p == place) others ≡ true → value_at a place ≡ value_at b place) → value_at a place ≡ value_at b place
    by true is here later = subst (λ x. value_at a x ≡ value_at b x) (eqb-true q place is) (ap (λ l. value_at l 0) same)
    by false is there later = later there

-- rows that agree at places agree at fewer places
places_agree : (places others : List ℕ) (a b : Row) → list_all (λ place. list_any (λ p. p == place) others) places ≡ true → projection others a ≡ projection others b → projection places a ≡ projection places b
places_agree [] others a b within same = refl
places_agree (place ∷ places) others a b within same =
    let both = and_parts (list_any (λ p. p == place) others) (list_all (λ other. list_any (λ p. p == other) others) places) within in
    λ i. value_agrees others place a b both.0 same i ∷ places_agree places others a b both.1 same i

both_ways : (x y : Bool) → (x ≡ true → y ≡ true) → (y ≡ true → x ≡ true) → x ≡ y
both_ways true y to from = sym (to refl)
both_ways false true to from = from refl
both_ways false false to from = refl

same_keys : (places others : List ℕ) → list_all (λ place. list_any (λ p. p == place) others) places ≡ true → list_all (λ place. list_any (λ p. p == place) places) others ≡ true
    → (a b : Row) → same_row (projection places a) (projection places b) ≡ same_row (projection others a) (projection others b)
same_keys places others within back a b =
    both_ways (same_row (projection places a) (projection places b)) (same_row (projection others a) (projection others b))
    (λ is. eq_from_same (projection others a) (projection others b) (places_agree others places a b back (same_from_eq (projection places a) (projection places b) is)))
    (λ is. eq_from_same (projection places a) (projection places b) (places_agree places others a b within (same_from_eq (projection others a) (projection others b) is)))

-- ---- outputs

abbrev output_number : Output → List Row → ℤ
output_number (Column place) group = pos 0
output_number Count group = pos (length group)
output_number (Sum place) group = sum_at place group

outputs_shown : (outputs : List Output) (group : List Row) → list_all is_aggregate outputs ≡ true → map (output_value group) outputs ≡ numbers_of (map output_number outputs) group
outputs_shown [] group counted = refl
outputs_shown (Column place ∷ outputs) group counted = cc counted
outputs_shown (Count ∷ outputs) group counted = ap (λ l. Int (pos (length group)) ∷ l) (outputs_shown outputs group counted)
outputs_shown (Sum place ∷ outputs) group counted = ap (λ l. Int (sum_at place group) ∷ l) (outputs_shown outputs group counted)

outputs_add : (outputs : List Output) → AreAdditive (map output_number outputs)
outputs_add [] = tt
outputs_add (Column place ∷ outputs) = ((refl, λ a b. sym (+ℤ_idl (pos 0))), outputs_add outputs)
outputs_add (Count ∷ outputs) = ((refl, λ a b. ap pos (length-append a b) ∙ sym (pos-+ℤ-pos (length a) (length b))), outputs_add outputs)
outputs_add (Sum place ∷ outputs) = ((refl, sum-append place), outputs_add outputs)

columns_first : (places : List ℕ) (sums : List Output) (group : List Row) → map (output_value group) (map Column places ++ sums) ≡ projection places (first_row group) ++ map (output_value group) sums
columns_first [] sums group = refl
columns_first (place ∷ places) sums group = ap (λ l. value_at (first_row group) place ∷ l) (columns_first places sums group)

some_counted : (places : List ℕ) (sums : List Output) → 1 ≤ length sums → list_all is_aggregate sums ≡ true → list_any is_aggregate (map Column places ++ sums) ≡ true
some_counted [] [] some counted = absurd (omega (arith, some))
some_counted [] (output ∷ sums) some counted = ap (λ b. b || list_any is_aggregate sums) (and_parts (is_aggregate output) (list_all is_aggregate sums) counted).0
some_counted (place ∷ places) sums some counted = some_counted places sums some counted

-- columns that are valid are among those of GROUP BY; without it there are none
shown_grouped : (counted : Bool) (first : ℕ) (more places : List ℕ) (sums : List Output) → list_all (is_valid_item counted (first ∷ more)) (map Column places ++ sums) ≡ true
    → list_all (λ place. list_any (λ p. p == place) (first ∷ more)) places ≡ true
shown_grouped counted first more [] sums valid = refl
shown_grouped counted first more (place ∷ places) sums valid =
    let both = and_parts (list_any (λ p. p == place) (first ∷ more)) (list_all (is_valid_item counted (first ∷ more)) (map Column places ++ sums)) valid in
    ap (λ b. b && list_all (λ other. list_any (λ p. p == other) (first ∷ more)) places) both.0 ∙ shown_grouped counted first more places sums both.1

none_shown : (places : List ℕ) (sums : List Output) → list_all (is_valid_item true []) (map Column places ++ sums) ≡ true → places ≡ []
none_shown [] sums valid = refl
none_shown (place ∷ places) sums valid = cc valid

-- ---- keys

grouped_keys : (places : List ℕ) → AreKeys places (λ rows. each_once (map (projection places) rows))
grouped_keys places = record {
  long = λ rows key some. key_long places rows key (positive_once (map (projection places) rows) key some);
  few = λ rows key.
      let all = map (projection places) rows in
      counted_once all key ∙ sym (twice (occurrences all key)) ∙ ap at_most_one (sym (counted_once all key));
  none = λ rows key is. empty (of_key places rows key) (sym (key_counted places rows key) ∙ positive (occurrences (map (projection places) rows) key) (sym (counted_once (map (projection places) rows) key) ∙ is));
}
  where
    twice : (n : ℕ) → at_most_one (at_most_one n) ≡ at_most_one n
    twice zero = refl
    twice (suc n) = refl

    positive : (n : ℕ) → at_most_one n ≡ 0 → n ≡ 0
    positive zero is = refl
    positive (suc n) is = absurd (omega (arith, is))

    empty : (rows : List Row) → length rows ≡ 0 → rows ≡ []
    empty [] is = refl
    empty (row ∷ rows) is = absurd (omega (arith, is))

all_of_none : (rows : List Row) → of_key [] rows [] ≡ rows
all_of_none [] = refl
all_of_none (row ∷ rows) = ap (λ l. row ∷ l) (all_of_none rows)

one_key : AreKeys [] (λ rows. [] ∷ [])
one_key = record {
  long = λ rows key some. by_long key (same_row [] key) refl (omega (arith, some, sum_by-cons (is_it key) [] []));
  few = λ rows key. by_few key (same_row [] key) refl;
  none = λ rows key is. no_rows rows key (omega (arith, is, sum_by-cons (is_it key) [] []));
}
  where
    by_long : (key : Row) (b : Bool) → same_row [] key ≡ b → 0 < one_if (same_row [] key) → length key ≡ 0
    by_long key true is some = sym (ap length (same_from_eq [] key is))
    by_long key false is some = absurd (omega (arith, some, ap one_if is))

    by_few : (key : Row) (b : Bool) → same_row [] key ≡ b → occurrences ([] ∷ []) key ≡ at_most_one (occurrences ([] ∷ []) key)
    by_few key true is = let one : occurrences ([] ∷ []) key ≡ 1 = omega (arith, sum_by-cons (is_it key) [] [], ap one_if is) in one ∙ sym (ap at_most_one one)
    by_few key false is = let none : occurrences ([] ∷ []) key ≡ 0 = omega (arith, sum_by-cons (is_it key) [] [], ap one_if is) in none ∙ sym (ap at_most_one none)

    no_rows : (rows : List Row) (key : Row) → one_if (same_row [] key) ≡ 0 → of_key [] rows key ≡ []
    no_rows [] key is = refl
    no_rows (row ∷ rows) key is = by (same_row [] key) refl (no_rows rows key is)
      where
        by : (b : Bool) → same_row [] key ≡ b → of_key [] rows key ≡ [] → cond b (row ∷ of_key [] rows key) (of_key [] rows key) ≡ []
        by true same rest = absurd (omega (arith, is, ap one_if same))
        by false same rest = rest

-- ---- the keys of parts

-- a key is there exactly if it is in a part
grouped_there : (places : List ℕ) (parts : List (List Row)) (key : Row)
    → at_most_one (sum_by (λ (rows : List Row). occurrences (each_once (map (projection places) rows)) key) parts) ≡ occurrences (each_once (map (projection places) (flat_map (λ rows. rows) parts))) key
grouped_there places parts key =
    together parts ∙ ap at_most_one (sym (key_counted places (flat_map (λ (l : List Row). l) parts) key)) ∙ sym (counted_once (map (projection places) (flat_map (λ (l : List Row). l) parts)) key)
  where
    once : List Row → ℕ
    once rows = occurrences (each_once (map (projection places) rows)) key

    either : (m s l : ℕ) → at_most_one s ≡ at_most_one l → at_most_one (at_most_one m + s) ≡ at_most_one (m + l)
    either zero s l same =
        let one : 0 + s ≡ s = omega arith in
        let other : 0 + l ≡ l = omega arith in
        ap at_most_one one ∙ same ∙ sym (ap at_most_one other)
    either (suc m) s l same =
        let one : 1 + s ≡ suc s = omega arith in
        let other : suc m + l ≡ suc (m + l) = omega arith in
        ap at_most_one one ∙ sym (ap at_most_one other)

    together : (lists : List (List Row)) → at_most_one (sum_by (λ (rows : List Row). occurrences (each_once (map (projection places) rows)) key) lists) ≡ at_most_one (length (of_key places (flat_map (λ rows. rows) lists) key))
    together [] = refl
    together (rows ∷ lists) =
        let here : occurrences (each_once (map (projection places) rows)) key ≡ at_most_one (length (of_key places rows key)) = counted_once (map (projection places) rows) key ∙ ap at_most_one (key_counted places rows key) in
        let sum = sum_by-cons (λ (l : List Row). occurrences (each_once (map (projection places) l)) key) rows lists in
        let both : length (of_key places (flat_map (λ (l : List Row). l) (rows ∷ lists)) key) ≡ length (of_key places rows key) + length (of_key places (flat_map (λ (l : List Row). l) lists) key) =
        ap (λ l. length (of_key places l key)) (flat_map-cons (λ (l : List Row). l) rows lists) ∙ ap length (key-append places rows (flat_map (λ (l : List Row). l) lists) key) ∙ length-append (of_key places rows key) (of_key places (flat_map (λ (l : List Row). l) lists) key) in
        ap at_most_one (sum ∙ ap (λ m. m + sum_by (λ (l : List Row). occurrences (each_once (map (projection places) l)) key) lists) here)
        ∙ either (length (of_key places rows key)) (sum_by (λ (l : List Row). occurrences (each_once (map (projection places) l)) key) lists) (length (of_key places (flat_map (λ (l : List Row). l) lists) key)) (together lists)
        ∙ sym (ap at_most_one both)

one_there : (parts : List (List Row)) → 1 ≤ length parts → at_most_one (sum_by (λ (rows : List Row). occurrences ([] ∷ []) []) parts) ≡ occurrences ([] ∷ []) []
one_there [] some = absurd (omega (arith, some))
one_there (rows ∷ parts) some =
    let more : sum_by (λ (l : List Row). occurrences ([] ∷ []) []) (rows ∷ parts) ≡ suc (sum_by (λ (l : List Row). occurrences ([] ∷ []) []) parts) = omega (arith, sum_by-cons (λ (l : List Row). occurrences ([] ∷ []) []) rows parts) in
    ap at_most_one more

-- ---- the answers of a query

made_with : (places : List ℕ) (sums outputs : List Output) → outputs ≡ map Column places ++ sums → list_all is_aggregate sums ≡ true → (group : List Row)
    → map (output_value group) outputs ≡ group_made places (numbers_of (map output_number sums)) group
made_with places sums outputs are counted group =
    ap (map (output_value group)) are ∙ columns_first places sums group ∙ ap (λ l. projection places (first_row group) ++ l) (outputs_shown sums group counted)

all_made : (places : List ℕ) (sums outputs : List Output) → outputs ≡ map Column places ++ sums → list_all is_aggregate sums ≡ true → (lists : List (List Row))
    → map (λ group. map (output_value group) outputs) lists ≡ map (group_made places (numbers_of (map output_number sums))) lists
all_made places sums outputs are counted [] = refl
all_made places sums outputs are counted (group ∷ lists) = λ i. made_with places sums outputs are counted group i ∷ all_made places sums outputs are counted lists i

-- the keys of the query's groups
abbrev found_keys : List ℕ → List ℕ → List Row → List Row
found_keys [] places rows = [] ∷ []
found_keys (first ∷ more) places rows = each_once (map (projection places) rows)

-- the rows of groups that are shown first
groups_made : (group places : List ℕ) (sums outputs : List Output) → outputs ≡ map Column places ++ sums → 1 ≤ length sums → list_all is_aggregate sums ≡ true
    → list_all (λ place. list_any (λ p. p == place) places) group ≡ true → list_all (is_valid_item (list_any is_aggregate outputs) group) outputs ≡ true → (rows : List Row)
    → map (λ g. map (output_value g) outputs) (groups group outputs rows) ≡ map (key_made places (numbers_of (map output_number sums)) rows) (found_keys group places rows)
groups_made [] places sums outputs are some counted shown valid rows =
    let aggregate : list_any is_aggregate outputs ≡ true = ap (list_any is_aggregate) are ∙ some_counted places sums some counted in
    let empty : places ≡ [] = none_shown places sums (sym (λ i. list_all (is_valid_item (aggregate i) []) (are i)) ∙ valid) in
    ap (λ b. map (λ g. map (output_value g) outputs) (alone_or_together b rows)) aggregate
    ∙ ap (λ l. l ∷ []) (made_with places sums outputs are counted rows ∙ (λ i. projection (empty i) (first_row rows) ++ numbers_of (map output_number sums) rows))
    ∙ sym ((λ i. key_made (empty i) (numbers_of (map output_number sums)) rows [] ∷ []) ∙ ap (λ l. numbers_of (map output_number sums) l ∷ []) (all_of_none rows))
groups_made (first ∷ more) places sums outputs are some counted shown valid rows =
    let group = first ∷ more in
    let within = shown_grouped (list_any is_aggregate outputs) first more places sums (sym (ap (list_all (is_valid_item (list_any is_aggregate outputs) group)) are) ∙ valid) in
    let found = each_once (map (projection places) rows) in
    all_made places sums outputs are counted (grouped_by group rows)
    ∙ ap (map (group_made places (numbers_of (map output_number sums)))) (regrouped (projection group) (projection places) (same_keys group places shown within) rows)
    ∙ by_key places (numbers_of (map output_number sums)) rows found (λ key some. first_of_key places rows key (positive_once (map (projection places) rows) key some))

-- the rows that the query makes of the rows that pass
abbrev answer_of : QueryPlan → List Row → List Row
answer_of query rows = map (λ group. map (output_value group) query.outputs) (groups query.group query.outputs rows)

-- the query without its condition
abbrev unconditional : QueryPlan → QueryPlan
unconditional query = record { sources = query.sources; test = None; group = query.group; outputs = query.outputs }

all_pass : (rows : List Row) → selection None rows ≡ rows
all_pass [] = refl
all_pass (row ∷ rows) = ap (λ l. row ∷ l) (all_pass rows)

-- it depends on how often each row is there, and on nothing else
answers_same : (query : QueryPlan) → are_valid_items query ≡ true → (a b : List Row) → SameCounts a b → SameCounts (answer_of query a) (answer_of query b)
answers_same query valid a b same v =
    ap (λ l. occurrences (answer_of query l) v) (sym (all_pass a))
    ∙ ordinary_same (unconditional query) (a ∷ []) (b ∷ []) valid (λ u. ap (λ l. occurrences l u) (all_pass a) ∙ same u ∙ sym (ap (λ l. occurrences l u) (all_pass b))) v
    ∙ ap (λ l. occurrences (answer_of query l) v) (all_pass b)

-- ---- the rows of parts

flat_counted : (f : List Row → List Row) (piece : ℕ → List Row) (numbers : List ℕ) (u : Row) → sum_by (λ (i : ℕ). occurrences (f (piece i)) u) numbers ≡ occurrences (flat_map f (map piece numbers)) u
flat_counted f piece [] u = refl
flat_counted f piece (i ∷ numbers) u =
    let here : sum_by (λ (k : ℕ). occurrences (f (piece k)) u) (i ∷ numbers) ≡ occurrences (f (piece i)) u + occurrences (flat_map f (map piece numbers)) u =
    omega (arith, sum_by-cons (λ (k : ℕ). occurrences (f (piece k)) u) i numbers, flat_counted f piece numbers u) in
    here ∙ sym (occurrences-append (f (piece i)) (flat_map f (map piece numbers)) u) ∙ sym (ap (λ l. occurrences l u) (flat_map-cons f (piece i) (map piece numbers)))

map_itself : (rows : List Row) → map (λ (row : Row). row) rows ≡ rows
map_itself [] = refl
map_itself (row ∷ rows) = ap (λ l. row ∷ l) (map_itself rows)

no_sum : (numbers : List ℕ) → sum_by (λ (i : ℕ). 0) numbers ≡ 0
no_sum [] = refl
no_sum (i ∷ numbers) = omega (arith, sum_by-cons (λ (i : ℕ). 0) i numbers, no_sum numbers)

keys_of : (group places : List ℕ) → (group ≡ [] → places ≡ []) → AreKeys places (found_keys group places)
keys_of [] places empty = subst (λ (p : List ℕ). AreKeys p (λ (rows : List Row). [] ∷ [])) (sym (empty refl)) one_key
keys_of (first ∷ more) places empty = grouped_keys places

there_of : (group places : List ℕ) (parts : List (List Row)) (v : Row) → (group ≡ [] → places ≡ []) → 1 ≤ length parts
    → at_most_one (sum_by (λ (rows : List Row). occurrences (found_keys group places rows) (take (length places) v)) parts) ≡ occurrences (found_keys group places (flat_map (λ rows. rows) parts)) (take (length places) v)
there_of [] places parts v empty some =
    subst (λ (p : List ℕ). at_most_one (sum_by (λ (rows : List Row). occurrences ([] ∷ []) (take (length p) v)) parts) ≡ occurrences ([] ∷ []) (take (length p) v)) (sym (empty refl)) (one_there parts some)
there_of (first ∷ more) places parts v empty some = grouped_there places parts (take (length places) v)

empty_shown : (group places : List ℕ) (sums outputs : List Output) → outputs ≡ map Column places ++ sums → 1 ≤ length sums → list_all is_aggregate sums ≡ true
    → list_all (is_valid_item (list_any is_aggregate outputs) group) outputs ≡ true → group ≡ [] → places ≡ []
empty_shown group places sums outputs are some counted valid is =
    let aggregate : list_any is_aggregate outputs ≡ true = ap (list_any is_aggregate) are ∙ some_counted places sums some counted in
    none_shown places sums (sym (λ i. list_all (is_valid_item (aggregate i) (is i)) (are i)) ∙ valid)

-- ---- plans

left_only : (valid : ValidRows) (plan : Plan) (v : Row) (t : ℕ) → plan.right ≡ None → times_by valid plan v t ≡ times_in valid plan.left v t
left_only valid plan v t alone =
    let left = times_in valid plan.left v t in
    let whole : left - 0 ≡ left = omega arith in
    ap (λ right. left - times_in_right valid right v t) alone ∙ whole

pub no_right : (right : Option QueryPlan) → is_some right ≡ false → right ≡ None
no_right None is = refl
no_right (Some query) is = cc is

pub aggregates_add : PartitionsHaveRows → (plan : Plan) (columns : Columns) (groups : ℕ) → plan.right ≡ None → AreLinkedBy columns plan.left → ShowsGroups plan.left groups → AggregatesAddUp plan columns groups
aggregates_add law plan columns shown alone linked shows part_of count catalogue valid below fit over t rows are v = by (holds plan.window t) are
  where
    part_number : Row → ℕ
    part_number row = part_of (value_at row linked.place)

    answer_made : (l : List Row) → answer_of plan.left l ≡ map (key_made shows.places (numbers_of (map output_number shows.sums)) l) (found_keys plan.left.group shows.places l)
    answer_made l = groups_made plan.left.group shows.places shows.sums plan.left.outputs shows.outputs shows.some shows.counted shows.shown over.0.items l

    part_answer : (i : ℕ) (u : Row) → times_by (in_partition part_of columns i valid) plan u t ≡ occurrences (answer_of plan.left (filter (λ (row : Row). part_of (value_at row linked.place) == i) (selection plan.left.test (product_of (lists_at valid t (tables_of plan.left)))))) u
    part_answer i u =
        left_only (in_partition part_of columns i valid) plan u t alone
        ∙ answers_same plan.left over.0.items (selection plan.left.test (product_of (lists_at (in_partition part_of columns i valid) t (tables_of plan.left))))
        (filter (λ (row : Row). part_of (value_at row linked.place) == i) (selection plan.left.test (product_of (lists_at valid t (tables_of plan.left)))))
        (λ (w : Row). law part_of columns i catalogue valid plan.left fit over.0 linked w t) u

    by : (b : Bool) → ((u : Row) → sum_by (λ (i : ℕ). if b then times_by (in_partition part_of columns i valid) plan u t else 0) (range_with_len 0 count) ≡ occurrences rows u)
        → occurrences (added_rows shown (length plan.left.outputs) rows) v ≡ (if b then times_by valid plan v t else 0)
    by false none = same_added shown (length plan.left.outputs) rows [] (λ u. sym (none u) ∙ no_sum (range_with_len 0 count)) v
    by true all =
        let w = length plan.left.outputs in
        let places = shows.places in
        let fs = map output_number shows.sums in
        let empty = empty_shown plan.left.group places shows.sums plan.left.outputs shows.outputs shows.some shows.counted over.0.items in
        let found = found_keys plan.left.group places in
        let keys_are = keys_of plan.left.group places empty in
        let whole = selection plan.left.test (product_of (lists_at valid t (tables_of plan.left))) in
        let cut = λ (i : ℕ). filter (λ (row : Row). part_of (value_at row linked.place) == i) whole in
        let lists = map cut (range_with_len 0 count) in
        let make = λ (l : List Row). map (key_made places (numbers_of fs) l) (found l) in
        let flat = flat_map make lists in
        let together = flat_map (λ (l : List Row). l) lists in
        let long : w ≡ length places + length shows.sums = ap length shows.outputs ∙ length-append (map Column places) shows.sums ∙ ap (λ n. n + length shows.sums) (length-map places Column) in
        let first : min shown w ≡ length places = omega (arith, long, shows.many) in
        let rest : w - shown ≡ length fs = omega (arith, long, shows.many, length-map shows.sums output_number) in
        let keys_long : length (range_with_len 0 (min shown w)) ≡ length places = length-range_with_len 0 (min shown w) ∙ first in
        let some : 1 ≤ length lists = omega (arith, below (Int (pos 0)), length-map (range_with_len 0 count) cut, length-range_with_len 0 count) in
        let same : SameCounts rows flat =
        λ u. sym (all u) ∙ ap (λ (g : ℕ → ℕ). sum_by g (range_with_len 0 count)) (λ k i. (part_answer i u ∙ ap (λ l. occurrences l u) (answer_made (cut i))) k) ∙ flat_counted make cut (range_with_len 0 count) u in
        let back : SameCounts together whole =
        λ u. sym (flat_counted (λ (l : List Row). l) cut (range_with_len 0 count) u)
        ∙ ap (λ (g : ℕ → ℕ). sum_by g (range_with_len 0 count)) (λ k i. occurrences (sym (map_itself (cut i)) k) u)
        ∙ made_of_parts (λ (row : Row). row) part_number count (λ row. below (value_at row linked.place)) whole u
        ∙ ap (λ l. occurrences l u) (map_itself whole) in
        same_added shown w rows flat same v
        ∙ added_occurrences shown w flat v
        ∙ (λ i. cond (same_row (take (keys_long i) v ++ map (λ place. Int (sum_at place (of_key (range_with_len 0 (first i)) flat (take (keys_long i) v)))) (range_with_len (first i) (rest i))) v)
        (at_most_one (length (of_key (range_with_len 0 (first i)) flat (take (keys_long i) v)))) 0)
        ∙ parts_added places fs (outputs_add shows.sums) found keys_are lists v (there_of plan.left.group places lists v empty some)
        ∙ ap (λ l. occurrences l v) (sym (answer_made together))
        ∙ answers_same plan.left over.0.items together whole back v
        ∙ sym (left_only valid plan v t alone)

-- ---- the outputs of a query

no_aggregates : (outputs : List Output) → list_any is_aggregate outputs ≡ false → outputs ≡ map Column (map output_place outputs)
no_aggregates [] none = refl
no_aggregates (Column place ∷ outputs) none = ap (λ l. Column place ∷ l) (no_aggregates outputs none)
no_aggregates (Count ∷ outputs) none = cc none
no_aggregates (Sum place ∷ outputs) none = cc none

shown_at : (outputs : List Output) (place : ℕ) → list_any is_aggregate outputs ≡ false → list_any (is_column place) outputs ≡ list_any (λ p. p == place) (map output_place outputs)
shown_at [] place none = refl
shown_at (Column shown ∷ outputs) place none = ap (λ b. (shown == place) || b) (shown_at outputs place none)
shown_at (Count ∷ outputs) place none = cc none
shown_at (Sum summed ∷ outputs) place none = cc none

-- columns that show all groups, and then counts and sums
pub groups_shown : (query : QueryPlan) (groups : ℕ) → groups < length query.outputs → list_any is_aggregate (take groups query.outputs) ≡ false → list_all is_aggregate (drop groups query.outputs) ≡ true
    → list_all (λ place. list_any (is_column place) (take groups query.outputs)) query.group ≡ true → ShowsGroups query groups
groups_shown query groups within none all shown = record {
  places = map output_place (take groups query.outputs);
  sums = drop groups query.outputs;
  outputs = sym (take-append-drop groups query.outputs) ∙ ap (λ l. l ++ drop groups query.outputs) (no_aggregates (take groups query.outputs) none);
  many = length-map (take groups query.outputs) output_place ∙ length-take-le groups query.outputs (omega (arith, within));
  some = omega (arith, within, length-drop groups query.outputs);
  counted = all;
  shown = ap (λ (p : ℕ → Bool). list_all p query.group) (λ i place. sym (shown_at (take groups query.outputs) place none) i) ∙ shown;
}
