-- Partitions of the tables by columns that link the sources of a plan: the answers over them add up.
use Rattle.std.proofs.Common.{◌≡◌, ◌<◌, ◌+◌, ◌-◌, ◌==◌, ◌∙◌, ℕ, Bool, true, false, cond, List, [], ◌∷◌, None, ap, arith, filter, map, refl, sum_by, sym}
use Rattle.std.specs.Prelude.{if◌then◌else◌}
use Rattle.std.specs.List.{range_with_len}
use Rattle.std.proofs.lemmas.List.Sums.{sum_by-cons}
use Rattle.tq_base.specs.Fragments.{occurrences}
use Rattle.tq_base.specs.Periods.{holds}
use Rattle.tq_base.specs.RowValues.{value_at}
use Rattle.tq_condition.specs.Ordinary.{product_of, projection, selection}
use Rattle.tq_agg.specs.Grouping.{Row}
use Rattle.tq_plan.specs.declared.plans.Plan.{Plan}
use Rattle.tq_plan.specs.Plans.{tables_of}
use Rattle.tq_exec.specs.Answers.{lists_at, times_by, times_in, times_in_right, ValidRows}
use Rattle.tq_exec.specs.OutputPlaces.{output_place}
use Rattle.tq_exec.specs.Partitioning.{PartitionsHaveRows, in_partition}
use Rattle.tq_exec.specs.Parts.{LinkedPartitionsAreParts}
use Rattle.tq_exec.proofs.BagLemmas.{is_it, same_mapped}
use Rattle.tq_exec.proofs.PlaceLemmas.{no_places, ordinary_alone}
use Rattle.tq_exec.proofs.RangeLemmas.{counted_once}

-- ---- sums over the numbers of parts

sum_of_none : (numbers : List ℕ) → sum_by (λ (i : ℕ). 0) numbers ≡ 0
sum_of_none [] = refl
sum_of_none (i ∷ numbers) = omega (arith, sum_by-cons (λ (i : ℕ). 0) i numbers, sum_of_none numbers)

sum_of_both : (f g : ℕ → ℕ) (numbers : List ℕ) → sum_by (λ (i : ℕ). f i + g i) numbers ≡ sum_by f numbers + sum_by g numbers
sum_of_both f g [] = refl
sum_of_both f g (i ∷ numbers) =
    omega (arith, sum_by-cons (λ (i : ℕ). f i + g i) i numbers, sum_by-cons f i numbers, sum_by-cons g i numbers, sum_of_both f g numbers)

-- ---- rows that belong to parts

-- how often the row stands in what is made of a list with or without one more row
made_with : (f : Row → Row) (b : Bool) (row : Row) (rows : List Row) (v : Row) → occurrences (map f (cond b (row ∷ rows) rows)) v ≡ cond b (is_it v (f row)) 0 + occurrences (map f rows) v
made_with f true row rows v = sum_by-cons (is_it v) (f row) (map f rows)
made_with f false row rows v = omega arith

-- what is made of the rows of all parts is made of all rows
pub made_of_parts : (f : Row → Row) (part : Row → ℕ) (count : ℕ) → ((row : Row) → part row < count) → (rows : List Row) (v : Row)
    → sum_by (λ (i : ℕ). occurrences (map f (filter (λ (row : Row). part row == i) rows)) v) (range_with_len 0 count) ≡ occurrences (map f rows) v
made_of_parts f part count below [] v = sum_of_none (range_with_len 0 count)
made_of_parts f part count below (row ∷ rows) v =
    let numbers = range_with_len 0 count in
    let own = λ (i : ℕ). cond (part row == i) (is_it v (f row)) 0 in
    let others = λ (i : ℕ). occurrences (map f (filter (λ (other : Row). part other == i) rows)) v in
    ap (λ (g : ℕ → ℕ). sum_by g numbers) (λ k i. made_with f (part row == i) row (filter (λ (other : Row). part other == i) rows) v k)
    ∙ sum_of_both own others numbers
    ∙ (let once : sum_by own numbers ≡ is_it v (f row) = counted_once (part row) (is_it v (f row)) 0 count (omega arith) (omega (arith, below row)) in
    let both : sum_by own numbers + sum_by others numbers ≡ occurrences (map f (row ∷ rows)) v =
    omega (arith, once, made_of_parts f part count below rows v, sum_by-cons (is_it v) (f row) (map f rows)) in
    both)

-- ---- plans

-- without EXCEPT ALL a row stands in the answer as often as on the left
left_only : (valid : ValidRows) (plan : Plan) (v : Row) (t : ℕ) → plan.right ≡ None → times_by valid plan v t ≡ times_in valid plan.left v t
left_only valid plan v t alone =
    let left = times_in valid plan.left v t in
    let whole : left - 0 ≡ left = omega arith in
    ap (λ right. left - times_in_right valid right v t) alone ∙ whole

pub linked_are_parts : PartitionsHaveRows → LinkedPartitionsAreParts
linked_are_parts law partition_of count columns catalogue valid plan below fit over joins linked v t = by (holds plan.window t)
  where
    -- the row that is made of a joined row
    made : Row → Row
    made = projection (map output_place plan.left.outputs)

    passing : ValidRows → List Row
    passing rows = selection plan.left.test (product_of (lists_at rows t (tables_of plan.left)))

    part : ℕ → ValidRows
    part i = in_partition partition_of columns i valid

    part_number : Row → ℕ
    part_number row = partition_of (value_at row linked.place)

    as_made : (rows : ValidRows) → times_by rows plan v t ≡ occurrences (map made (passing rows)) v
    as_made rows =
        left_only rows plan v t joins.alone
        ∙ ap (λ l. occurrences l v) (ordinary_alone plan.left (lists_at rows t (tables_of plan.left)) (no_places plan.left.group joins.ungrouped) joins.uncounted)

    in_part : (i : ℕ) → times_by (part i) plan v t ≡ occurrences (map made (filter (λ (row : Row). part_number row == i) (passing valid))) v
    in_part i =
        as_made (part i)
        ∙ same_mapped made (passing (part i)) (filter (λ (row : Row). part_number row == i) (passing valid)) (λ (u : Row). law partition_of columns i catalogue valid plan.left fit over.0 linked u t) v

    by : (b : Bool) → sum_by (λ (i : ℕ). if b then times_by (part i) plan v t else 0) (range_with_len 0 count) ≡ (if b then times_by valid plan v t else 0)
    by true =
        ap (λ (g : ℕ → ℕ). sum_by g (range_with_len 0 count)) (λ k i. in_part i k)
        ∙ made_of_parts made part_number count (λ (row : Row). below (value_at row linked.place)) (passing valid) v
        ∙ sym (as_made valid)
    by false = sum_of_none (range_with_len 0 count)
