-- Merging ordered lists, one run after the other.
use Rattle.std.proofs.Common.{◌≡◌, ◌≢◌, ◌<◌, ◌≤◌, ◌+◌, ◌++◌, ◌∙◌, ℕ, zero, suc, Bool, true, false, List, [], ◌∷◌, ap, arith, get_or, inl, inr, length, map, min, refl, subst, sym, take}
use Rattle.std.specs.Prelude.{All, IsSorted, filter, if◌then◌else◌}
use Rattle.std.specs.Ordering.{eq_by_cmp}
use Rattle.std.proofs.lemmas.Bool.{cases_lt}
use Rattle.std.proofs.lemmas.List.{take_all}
use Rattle.std.proofs.lemmas.List.Concat.{flat_map-cons}
use Rattle.std.proofs.lemmas.List.Elements.{All-append, All-cons, All-filter, All-head, All-map, All-nil, All-tail}
use Rattle.std.proofs.lemmas.List.Sorted.{IsPermutation-refl}
use Rattle.tq_base.specs.declared.fragment.Fragment.{Fragment}
use Rattle.tq_base.specs.declared.period.Period.{Period}
use Rattle.tq_base.specs.declared.value.Value.{Value}
use Rattle.tq_base.specs.Copies.{copies-append, tally}
use Rattle.tq_base.specs.Fragments.{at, copies, fragment_cmp}
use Rattle.tq_base.specs.Groups.{Below, NotAbove, below_differs, below_then, grouping_starts}
use Rattle.tq_base.specs.Layers.{IsLayers, TakesIn}
use Rattle.tq_base.specs.Periods.{holds}
use Rattle.tq_base.specs.Ranges.{AreBelow, layers_follow, one_after_other}
use Rattle.tq_base.specs.Sweep.{pairs_head}
use Rattle.tq_base.specs.ValueOrder.{same_from_eq, values_cmp}
use Rattle.tq_base.proofs.Unique.{copies-cons, sorted_tail, tally_is, tally_one}
use Rattle.tq_condition.specs.Ordinary.{projection}
use Rattle.tq_split.specs.declared.combine.Combine.{Combine}
use Rattle.tq_split.specs.declared.combine.Combine.TheVariants.{Add, Merge}
use Rattle.tq_split.specs.Adding.{combined, run_values}
use Rattle.tq_split.specs.Merges.{AreAfter, AreInOrder, AreMergedSoFar, AreRunsBelow, BeginsAbove, after_run, run_of, runs_of}
use Rattle.tq_split.proofs.AddingLemmas.{added_apart, first_values, has_key, keys, same_first, take_greater, take_less}
use Rattle.tq_split.proofs.GroupLemmas.{occurrences-append}

-- ---- rows with copies

-- each row is valid at its own start
pub own_copy : (rows : List Fragment) (k : ℕ) (d : Fragment) → k < length rows → 1 ≤ copies rows (get_or rows k d).values (get_or rows k d).period.start
own_copy [] k d less = absurd (omega (arith, less))
own_copy (row ∷ rows) zero d less =
    let lasts : row.period.start < row.period.end = row.period.ordered in
    omega (arith, copies-cons row rows row.values row.period.start, tally_one row.values row.period.start row (tally row.values row.period.start row) refl refl (omega arith) lasts)
own_copy (row ∷ rows) (suc k) d less =
    let other = get_or rows k d in
    omega (arith, copies-cons row rows other.values other.period.start, own_copy rows k d (omega (arith, less)))

-- a list with copies of values has a row with them
pub found_row : (rows : List Fragment) (v : List Value) (t : ℕ) → 1 ≤ copies rows v t → (k : ℕ) × (k < length rows) × ((d : Fragment) → (get_or rows k d).values ≡ v)
found_row [] v t some = absurd (omega (arith, some))
found_row (row ∷ rows) v t some = elim (tally_is v t row) [
  | inl none ↦
      let (k, less, is) = found_row rows v t (omega (arith, some, copies-cons row rows v t, none)) in
      (suc k, omega (arith, less), is)
  | inr here ↦ (0, omega arith, λ d. here.0)
]

-- rows of lesser runs than others are of lesser runs than fewer of them
below_fewer : (combine : Combine) (rows others fewer : List Fragment) → ((v : List Value) (t : ℕ) → copies fewer v t ≤ copies others v t) → AreRunsBelow combine rows others → AreRunsBelow combine rows fewer
below_fewer combine rows others fewer few below k d less j e within =
    let row = get_or fewer j e in
    let (found, there, same) = found_row others row.values row.period.start (omega (arith, own_copy fewer j e within, few row.values row.period.start)) in
    subst (λ v. Below (run_values combine (get_or rows k d).values) (run_values combine v)) (same e) (below k d less found e there)

-- ---- the order of runs

run_less : (combine : Combine) (a b : List Value) → Below (run_values combine a) (run_values combine b) → Below a b
run_less Merge a b less = less
run_less (Add groups) a b less = take_less groups a b less

run_not_above : (combine : Combine) (a b : List Value) → NotAbove a b → NotAbove (run_values combine a) (run_values combine b)
run_not_above Merge a b not_above = not_above
run_not_above (Add groups) a b not_above = λ greater. not_above (take_greater groups a b greater)

rows_below : (combine : Combine) (rows others : List Fragment) → AreRunsBelow combine rows others → AreBelow rows others
rows_below combine rows others below k d less j e within = run_less combine (get_or rows k d).values (get_or others j e).values (below k d less j e within)

-- ---- runs

-- the first row belongs to the run, or the run is empty
copies_run : (combine : Combine) (v : List Value) (rows : List Fragment) (u : List Value) (t : ℕ) → copies (run_of combine v rows) u t + copies (after_run combine v rows) u t ≡ copies rows u t
copies_run combine v [] u t = refl
copies_run combine v (row ∷ rows) u t = by (eq_by_cmp values_cmp (run_values combine row.values) v) (copies_run combine v rows u t)
  where
    by : (b : Bool) → copies (run_of combine v rows) u t + copies (after_run combine v rows) u t ≡ copies rows u t
        → copies (if b then row ∷ run_of combine v rows else []) u t + copies (if b then after_run combine v rows else row ∷ rows) u t ≡ copies (row ∷ rows) u t
    by true rest = omega (arith, rest, copies-cons row (run_of combine v rows) u t, copies-cons row rows u t)
    by false rest = omega arith

copies_runs : (combine : Combine) (v : List Value) (lists : List (List Fragment)) (u : List Value) (t : ℕ) → copies (runs_of combine v lists) u t + copies (one_after_other (map (after_run combine v) lists)) u t ≡ copies (one_after_other lists) u t
copies_runs combine v [] u t = refl
copies_runs combine v (rows ∷ lists) u t =
    let run = ap (λ l. copies l u t) (flat_map-cons (run_of combine v) rows lists) ∙ copies-append (run_of combine v rows) (runs_of combine v lists) u t in
    let after = ap (λ l. copies l u t) (flat_map-cons (λ (l : List Fragment). l) (after_run combine v rows) (map (after_run combine v) lists)) ∙ copies-append (after_run combine v rows) (one_after_other (map (after_run combine v) lists)) u t in
    let all = ap (λ l. copies l u t) (flat_map-cons (λ (l : List Fragment). l) rows lists) ∙ copies-append rows (one_after_other lists) u t in
    omega (arith, run, after, all, copies_run combine v rows u t, copies_runs combine v lists u t)

abbrev HasValues : Combine → List Value → Fragment → Type 0
HasValues combine v row = run_values combine row.values ≡ v

abbrev IsWide : ℕ → Fragment → Type 0
IsWide width row = length row.values ≡ width

run_alike : (combine : Combine) (v : List Value) (rows : List Fragment) → All (HasValues combine v) (run_of combine v rows)
run_alike combine v [] = All-nil (HasValues combine v)
run_alike combine v (row ∷ rows) = by (eq_by_cmp values_cmp (run_values combine row.values) v) refl (run_alike combine v rows)
  where
    by : (b : Bool) → eq_by_cmp values_cmp (run_values combine row.values) v ≡ b → All (HasValues combine v) (run_of combine v rows) → All (HasValues combine v) (if b then row ∷ run_of combine v rows else [])
    by true same rest = All-cons (HasValues combine v) row (run_of combine v rows) (same_from_eq (run_values combine row.values) v same) rest
    by false same rest = All-nil (HasValues combine v)

runs_alike : (combine : Combine) (v : List Value) (lists : List (List Fragment)) → All (HasValues combine v) (runs_of combine v lists)
runs_alike combine v [] = All-nil (HasValues combine v)
runs_alike combine v (rows ∷ lists) =
    subst (All (HasValues combine v)) (sym (flat_map-cons (run_of combine v) rows lists))
    (All-append (HasValues combine v) (run_of combine v rows) (runs_of combine v lists) (run_alike combine v rows) (runs_alike combine v lists))

-- ---- the rows after a run

after_sorted : (combine : Combine) (v : List Value) (rows : List Fragment) → IsSorted fragment_cmp rows → IsSorted fragment_cmp (after_run combine v rows)
after_sorted combine v [] sorted = sorted
after_sorted combine v (row ∷ rows) sorted = by (eq_by_cmp values_cmp (run_values combine row.values) v) (after_sorted combine v rows (sorted_tail row rows sorted))
  where
    by : (b : Bool) → IsSorted fragment_cmp (after_run combine v rows) → IsSorted fragment_cmp (if b then after_run combine v rows else row ∷ rows)
    by true rest = rest
    by false rest = sorted

after_wide : (combine : Combine) (width : ℕ) (v : List Value) (rows : List Fragment) → All (IsWide width) rows → All (IsWide width) (after_run combine v rows)
after_wide combine width v [] wide = wide
after_wide combine width v (row ∷ rows) wide = by (eq_by_cmp values_cmp (run_values combine row.values) v) (after_wide combine width v rows (All-tail (IsWide width) row rows wide))
  where
    by : (b : Bool) → All (IsWide width) (after_run combine v rows) → All (IsWide width) (if b then after_run combine v rows else row ∷ rows)
    by true rest = rest
    by false rest = wide

run_wide : (combine : Combine) (width : ℕ) (v : List Value) (rows : List Fragment) → All (IsWide width) rows → All (IsWide width) (run_of combine v rows)
run_wide combine width v [] wide = wide
run_wide combine width v (row ∷ rows) wide = by (eq_by_cmp values_cmp (run_values combine row.values) v) (run_wide combine width v rows (All-tail (IsWide width) row rows wide))
  where
    by : (b : Bool) → All (IsWide width) (run_of combine v rows) → All (IsWide width) (if b then row ∷ run_of combine v rows else [])
    by true rest = All-cons (IsWide width) row (run_of combine v rows) (All-head (IsWide width) row rows wide) rest
    by false rest = All-nil (IsWide width)

-- ordered rows that begin above a run are above it
all_above : (combine : Combine) (v : List Value) (rows : List Fragment) → IsSorted fragment_cmp rows → BeginsAbove combine v rows → All (λ (g : Fragment). Below v (run_values combine g.values)) rows
all_above combine v [] sorted begins = All-nil (λ (g : Fragment). Below v (run_values combine g.values))
all_above combine v (row ∷ rows) sorted begins =
    let rising = (grouping_starts (row ∷ rows) (row ∷ rows) (IsPermutation-refl (row ∷ rows)) sorted).rising in
    let later = pairs_head (λ (f : Fragment) (g : Fragment). NotAbove f.values g.values) row rows rising in
    All-cons (λ (g : Fragment). Below v (run_values combine g.values)) row rows begins
    (λ k d less. below_then v (run_values combine row.values) (run_values combine (get_or rows k d).values) begins (run_not_above combine row.values (get_or rows k d).values (later k d less)))

after_above : (combine : Combine) (width : ℕ) (v : List Value) (lists : List (List Fragment)) → All (AreInOrder width) lists → AreAfter combine v lists
    → All (λ (g : Fragment). Below v (run_values combine g.values)) (one_after_other (map (after_run combine v) lists))
after_above combine width v [] ordered after = All-nil (λ (g : Fragment). Below v (run_values combine g.values))
after_above combine width v (rows ∷ lists) ordered after =
    subst (All (λ (g : Fragment). Below v (run_values combine g.values))) (sym (flat_map-cons (λ (l : List Fragment). l) (after_run combine v rows) (map (after_run combine v) lists)))
    (All-append (λ (g : Fragment). Below v (run_values combine g.values)) (after_run combine v rows) (one_after_other (map (after_run combine v) lists))
    (all_above combine v (after_run combine v rows) (after_sorted combine v rows (All-head (AreInOrder width) rows lists ordered).0) (All-head (λ (l : List Fragment). BeginsAbove combine v (after_run combine v l)) rows lists after))
    (after_above combine width v lists (All-tail (AreInOrder width) rows lists ordered) (All-tail (λ (l : List Fragment). BeginsAbove combine v (after_run combine v l)) rows lists after)))

all_in_order : (combine : Combine) (width : ℕ) (v : List Value) (lists : List (List Fragment)) → All (AreInOrder width) lists → All (AreInOrder width) (map (after_run combine v) lists)
all_in_order combine width v [] ordered = All-nil (AreInOrder width)
all_in_order combine width v (rows ∷ lists) ordered =
    let first = All-head (AreInOrder width) rows lists ordered in
    All-cons (AreInOrder width) (after_run combine v rows) (map (after_run combine v) lists) (after_sorted combine v rows first.0, after_wide combine width v rows first.1)
    (all_in_order combine width v lists (All-tail (AreInOrder width) rows lists ordered))

all_wide : (width : ℕ) (lists : List (List Fragment)) → All (AreInOrder width) lists → All (IsWide width) (one_after_other lists)
all_wide width [] ordered = All-nil (IsWide width)
all_wide width (rows ∷ lists) ordered =
    subst (All (IsWide width)) (sym (flat_map-cons (λ (l : List Fragment). l) rows lists))
    (All-append (IsWide width) rows (one_after_other lists) (All-head (AreInOrder width) rows lists ordered).1 (all_wide width lists (All-tail (AreInOrder width) rows lists ordered)))

runs_wide : (combine : Combine) (width : ℕ) (v : List Value) (lists : List (List Fragment)) → All (AreInOrder width) lists → All (IsWide width) (runs_of combine v lists)
runs_wide combine width v [] ordered = All-nil (IsWide width)
runs_wide combine width v (rows ∷ lists) ordered =
    subst (All (IsWide width)) (sym (flat_map-cons (run_of combine v) rows lists))
    (All-append (IsWide width) (run_of combine v rows) (runs_of combine v lists) (run_wide combine width v rows (All-head (AreInOrder width) rows lists ordered).1)
    (runs_wide combine width v lists (All-tail (AreInOrder width) rows lists ordered)))

-- ---- what runs make

-- the values of the rows valid at an instant
at_all : (P : List Value → Type 0) (rows : List Fragment) (t : ℕ) → All (λ (row : Fragment). P row.values) rows → All P (at rows t)
at_all P rows t all = All-map P (λ (row : Fragment). row.values) (filter (λ (row : Fragment). holds row.period t) rows) (All-filter (λ (row : Fragment). holds row.period t) (λ (row : Fragment). P row.values) rows all)

-- the first values of a row of a run are its key
wide_key : (groups width : ℕ) (row : Fragment) → length row.values ≡ width → projection (keys groups width) row.values ≡ take groups row.values
wide_key groups width row wide =
    first_values row.values (min groups width) (omega (arith, wide)) ∙ elim (cases_lt width groups) [
      | inl more ↦
          let all : min groups width ≡ width = omega (arith, more) in
          take_long row.values (min groups width) groups (omega (arith, all, wide)) (omega (arith, more, wide))
      | inr fewer ↦
          let some : min groups width ≡ groups = omega (arith, fewer) in
          ap (λ n. take n row.values) some
    ]
  where
    take_long : (values : List Value) (m n : ℕ) → length values ≤ m → length values ≤ n → take m values ≡ take n values
    take_long values m n one other = take_all m values one ∙ sym (take_all n values other)

-- a run, and the rows after it, make what all rows make
runs_combined : (combine : Combine) (width : ℕ) (v : List Value) (lists : List (List Fragment)) → All (AreInOrder width) lists → AreAfter combine v lists → (u : List Value) (t : ℕ)
    → combined combine width (runs_of combine v lists) u t + combined combine width (one_after_other (map (after_run combine v) lists)) u t ≡ combined combine width (one_after_other lists) u t
runs_combined Merge width v lists ordered after u t = copies_runs Merge v lists u t
runs_combined (Add groups) width v lists ordered after u t =
    added_apart groups width (at (one_after_other lists) t) (at runs t) (at rest t) v
    (λ w. sym (occurrences-append (at runs t) (at rest t) w ∙ copies_runs (Add groups) v lists w t))
    (at_all (λ (values : List Value). projection (keys groups width) values ≡ v) runs t
    (λ k d less. wide_key groups width (get_or runs k d) (runs_wide (Add groups) width v lists ordered k d less) ∙ runs_alike (Add groups) v lists k d less))
    (at_all (λ (values : List Value). projection (keys groups width) values ≢ v) rest t
    (λ k d less same. below_differs v (take groups (get_or rest k d).values) (after_above (Add groups) width v lists ordered after k d less)
    (sym (sym (wide_key groups width (get_or rest k d) (all_wide width (map (after_run (Add groups) v) lists) (all_in_order (Add groups) width v lists ordered) k d less)) ∙ same))))
    u
  where
    runs : List Fragment
    runs = runs_of (Add groups) v lists

    rest : List Fragment
    rest = one_after_other (map (after_run (Add groups) v) lists)

-- a row that rows make is of the run of one of them
combined_found : (combine : Combine) (width : ℕ) (rows : List Fragment) (v : List Value) (t : ℕ) → All (IsWide width) rows → 1 ≤ combined combine width rows v t
    → (k : ℕ) × (k < length rows) × ((d : Fragment) → run_values combine (get_or rows k d).values ≡ run_values combine v)
combined_found Merge width rows v t wide some = found_row rows v t some
combined_found (Add groups) width rows v t wide some =
    let has = has_key groups width (at rows t) v (omega (arith, some)) in
    let (k, less, is) = found_row rows has.row t (omega (arith, has.stands)) in
    let first : Fragment = get_or rows k (record { values = v; period = every }) in
    (k, less, λ d. ap (take groups) (is d) ∙ same_first groups width (at rows t) v has (ap length (sym (is first)) ∙ wide k first less))
  where
    every : Period
    every = record { start = 0; end = 1; ordered = omega arith }

-- ---- what is merged so far

own_layers : (m : List Value → ℕ → ℕ) (rows : List Fragment) → IsLayers m rows → IsLayers (copies rows) rows
own_layers m rows layers = record { ordered = layers.ordered; coalesced = layers.coalesced; counted = λ v t. refl }

-- before the first run
pub none_merged : (combine : Combine) (width : ℕ) (lists : List (List Fragment)) → All (AreInOrder width) lists → AreMergedSoFar combine width lists lists []
none_merged combine width lists ordered = record {
  layers = record { ordered = λ k d low high. absurd (omega (arith, high)); coalesced = All-nil _; counted = λ v t. refl };
  counted = λ v t. omega arith;
  fewer = λ v t. omega arith;
  below = All-nil (λ (f : Fragment). All (λ (g : Fragment). Below (run_values combine f.values) (run_values combine g.values)) (one_after_other lists));
  ordered = ordered;
}

-- after one run
pub run_merged : (combine : Combine) (width : ℕ) (v : List Value) (lists : List (List Fragment)) (layers : List Fragment) → All (AreInOrder width) lists → AreAfter combine v lists
    → IsLayers (combined combine width (runs_of combine v lists)) layers → AreMergedSoFar combine width lists (map (after_run combine v) lists) layers
run_merged combine width v lists layers ordered after are = record {
  layers = own_layers (combined combine width (runs_of combine v lists)) layers are;
  counted = λ u t. omega (arith, are.counted u t, runs_combined combine width v lists ordered after u t);
  fewer = λ u t. omega (arith, copies_runs combine v lists u t);
  below = λ k d less j e within.
      subst (λ u. Below u (run_values combine (get_or (one_after_other (map (after_run combine v) lists)) j e).values)) (sym (own_values k d less)) (after_above combine width v lists ordered after j e within);
  ordered = all_in_order combine width v lists ordered;
}
  where
    own_values : (k : ℕ) (d : Fragment) → k < length layers → run_values combine (get_or layers k d).values ≡ v
    own_values k d less =
        let row = get_or layers k d in
        let (found, there, same) = combined_found combine width (runs_of combine v lists) row.values row.period.start (runs_wide combine width v lists ordered)
        (omega (arith, own_copy layers k d less, are.counted row.values row.period.start)) in
        sym (same d) ∙ runs_alike combine v lists found d there

-- one run after another
pub merged_then : (combine : Combine) (width : ℕ) (lists middle left : List (List Fragment)) (rows others : List Fragment) → AreMergedSoFar combine width lists middle rows → AreMergedSoFar combine width middle left others
    → AreMergedSoFar combine width lists left (rows ++ others)
merged_then combine width lists middle left rows others first second =
    let both = layers_follow (copies rows) (copies others) rows others first.layers second.layers (rows_below combine rows others below) in
    record {
      layers = own_layers (λ v t. copies rows v t + copies others v t) (rows ++ others) both;
      counted = λ v t. omega (arith, first.counted v t, second.counted v t, copies-append rows others v t);
      fewer = λ v t. omega (arith, first.fewer v t, second.fewer v t);
      below = All-append (λ (f : Fragment). All (λ (g : Fragment). Below (run_values combine f.values) (run_values combine g.values)) (one_after_other left)) rows others
          (below_fewer combine rows (one_after_other middle) (one_after_other left) second.fewer first.below) second.below;
      ordered = second.ordered;
    }
  where
    below : AreRunsBelow combine rows others
    below k d less j e within =
        let row = get_or others j e in
        let (found, there, same) = combined_found combine width (one_after_other middle) row.values row.period.start (all_wide width middle first.ordered)
        (omega (arith, own_copy others j e within, second.counted row.values row.period.start)) in
        subst (λ v. Below (run_values combine (get_or rows k d).values) v) (same e) (first.below k d less found e there)

-- no rows make nothing
combined_none : (combine : Combine) (width : ℕ) (rows : List Fragment) (v : List Value) (t : ℕ) → rows ≡ [] → combined combine width rows v t ≡ 0
combined_none Merge width rows v t none = ap (λ l. copies l v t) none
combined_none (Add groups) width rows v t none = ap (λ l. combined (Add groups) width l v t) none

-- after the last run
pub all_merged : (combine : Combine) (width : ℕ) (lists left : List (List Fragment)) (rows : List Fragment) → AreMergedSoFar combine width lists left rows → one_after_other left ≡ []
    → IsLayers (combined combine width (one_after_other lists)) rows
all_merged combine width lists left rows merged none = record {
  ordered = merged.layers.ordered;
  coalesced = merged.layers.coalesced;
  counted = λ v t. omega (arith, merged.counted v t, combined_none combine width (one_after_other left) v t none);
}

-- ---- a run of one row

pub single : (rows : List Fragment) (d : Fragment) → length rows ≡ 1 → rows ≡ get_or rows 0 d ∷ []
single [] d one = absurd (omega (arith, one))
single (row ∷ []) d one = refl
single (row ∷ next ∷ rows) d one = absurd (omega (arith, one))

pub single_layers : (rows : List Fragment) → length rows ≡ 1 → IsLayers (copies rows) rows
single_layers [] one = absurd (omega (arith, one))
single_layers (row ∷ []) one = record {
  ordered = λ k d low high. absurd (omega (arith, high));
  coalesced =
      All-cons (λ (f : Fragment). All (λ (g : Fragment). f.values ≡ g.values → TakesIn f.period g.period) (row ∷ [])) row []
      (All-cons (λ (g : Fragment). row.values ≡ g.values → TakesIn row.period g.period) row [] (λ same before. absurd (omega (arith, before))) (All-nil _))
      (All-nil _);
  counted = λ v t. refl;
}
single_layers (row ∷ next ∷ rows) one = absurd (omega (arith, one))
