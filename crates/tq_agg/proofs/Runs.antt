-- Runs of keys of equal values are groups of rows of one key.
use Rattle.std.proofs.Common.{◌≡◌, ◌≢◌, ℕ, ◌+◌, ◌<◌, ◌≤◌, false, List, [], ◌∷◌, ◌++◌, length, take, drop, map, get_or, is_lt, refl, sym, subst, ap, ◌∙◌, arith, length-drop, length-take}
use Rattle.std.specs.Prelude.{All, IsPermutation, IsSorted}
use Rattle.std.specs.List.Sorted.{IsNonDecreasingBy}
use Rattle.std.specs.Ordering.{nat_cmp, ordering_then}
use Rattle.std.specs.declared.cmp.Ordering.{Ordering}
use Rattle.std.specs.declared.cmp.Ordering.TheVariants.{Less, Equal, Greater}
use Rattle.std.proofs.lemmas.Bool.Decides.{nat_tests}
use Rattle.std.proofs.lemmas.List.{drop-map, get_or-drop, get_or-map, get_or-take, length-map, take-map}
use Rattle.std.proofs.lemmas.List.Elements.{All-map, All-weaker}
use Rattle.std.proofs.lemmas.List.Sorted.{IsNonDecreasingBy-from_all_adjacent, IsPermutation-map}
use Rattle.tq_base.specs.RowValues.{value_at}
use Rattle.tq_base.specs.declared.period.Period.{Period}
use Rattle.tq_base.specs.declared.fragment.Fragment.{Fragment}
use Rattle.tq_base.specs.declared.sort_input.SortKey.{SortKey}
use Rattle.tq_base.specs.declared.sort_input.RunStart.TheVariants.{Unknown}
use Rattle.tq_base.specs.declared.sort_input.Side.{Side}
use Rattle.tq_base.specs.declared.sort_input.Side.TheVariants.{Left, Right}
use Rattle.tq_base.specs.SortKeyLaws.{alike}
use Rattle.tq_base.specs.Keys.{columns_on, held, held_on, key_cmp, key_row, key_values, overlapping, value_key_cmp, Held, IsSortKey, Rises, SortInputState}
use Rattle.tq_base.specs.ValueOrder.{values_cmp}
use Rattle.tq_agg.specs.GroupKeys.{key_of, AreOfKey}
use Rattle.tq_agg.proofs.Grouping.{IsRun, RiseByKey}

abbrev pub no_key : SortKey
no_key = record { prefix = 0; start = 0; row = 0; side = Left; run_start = Unknown }

second_of : (r s : Ordering) → r ≡ Equal → is_lt (ordering_then r s) ≡ false → is_lt s ≡ false
second_of Less s equal is = cc
second_of Equal s equal is = is
second_of Greater s equal is = cc

not_less : (m n : ℕ) → is_lt (nat_cmp m n) ≡ false → n ≤ m
not_less m n is = grind (arith, nat_tests)

module _ (rows : List Fragment) (columns : List ℕ) where
  -- the rows on both sides
  abbrev pub groups_state : SortInputState
  groups_state = record { left = rows; right = rows; left_columns = columns; right_columns = columns }

  abbrev row_of : SortKey → Fragment
  row_of k = key_row groups_state k

  -- the values of a key are those of its row in the key columns
  pub of_columns : (k : SortKey) → key_values groups_state k ≡ key_of columns (row_of k)
  of_columns k = ap (λ places. map (value_at (row_of k).values) places) (same k.side)
    where
      same : (side : Side) → columns_on groups_state side ≡ columns
      same Left = refl
      same Right = refl

  rows_held : (others : List Fragment) → map (λ (h : Held). h.row) (held_on Left others) ≡ others
  rows_held [] = refl
  rows_held (f ∷ others) = ap (λ l. f ∷ l) (rows_held others)

  held_rows : (keys : List SortKey) → map (λ (h : Held). h.row) (map (held groups_state) keys) ≡ map row_of keys
  held_rows [] = refl
  held_rows (k ∷ keys) = ap (λ l. row_of k ∷ l) (held_rows keys)

  -- the rows of the sorted keys are those gathered, in an order
  pub rows_same : (window : Period) (none keys sorted : List SortKey) → none ≡ [] → map (held groups_state) keys ≡ map (held groups_state) none ++ held_on Left (overlapping window rows) → IsPermutation (map (held groups_state) keys) (map (held groups_state) sorted)
      → IsPermutation (overlapping window rows) (map row_of sorted)
  rows_same window none keys sorted is_none are same =
      let row : Held → Fragment = λ (h : Held). h.row in
      let all : map row (map (held groups_state) keys) ≡ overlapping window rows =
      ap (map row) (are ∙ ap (λ l. map (held groups_state) l ++ held_on Left (overlapping window rows)) is_none) ∙ rows_held (overlapping window rows) in
      subst (λ l. IsPermutation l (map row_of sorted)) all
      (subst (IsPermutation (map row (map (held groups_state) keys))) (held_rows sorted) (IsPermutation-map row (map (held groups_state) keys) (map (held groups_state) sorted) same))

  -- the rows of sorted keys rise by their keys
  pub rows_rise : (sorted : List SortKey) → Rises groups_state sorted → RiseByKey columns (map row_of sorted)
  rows_rise sorted rise = record {
    rises = λ i j d before short above.
        let below : j < length sorted = omega (arith, short, length-map sorted row_of) in
        let one : key_of columns (get_or (map row_of sorted) i d) ≡ key_values groups_state (get_or sorted i no_key) =
        ap (key_of columns) (get_or-map row_of sorted i no_key d (omega (arith, before, below))) ∙ sym (of_columns (get_or sorted i no_key)) in
        let other : key_of columns (get_or (map row_of sorted) j d) ≡ key_values groups_state (get_or sorted j no_key) =
        ap (key_of columns) (get_or-map row_of sorted j no_key d below) ∙ sym (of_columns (get_or sorted j no_key)) in
        rise i j no_key before below (ap (λ u. values_cmp u (key_values groups_state (get_or sorted j no_key))) (sym one) ∙ ap (values_cmp (key_of columns (get_or (map row_of sorted) i d))) (sym other) ∙ above);
  }

  -- in a run of sorted keys no start is after the next
  pub run_starts : (sorted : List SortKey) (start len : ℕ) → All (IsSortKey groups_state) sorted → IsSorted (key_cmp groups_state) sorted
      → ((d : SortKey) → All (λ k. key_values groups_state k ≡ key_values groups_state (get_or (drop start sorted) 0 d)) (take len (drop start sorted)))
      → IsNonDecreasingBy (λ (k : SortKey). k.start) (take len (drop start sorted))
  run_starts sorted start len are order alike' =
      IsNonDecreasingBy-from_all_adjacent (λ (k : SortKey). k.start) (take len (drop start sorted))
      (λ k d lt.
      let long = length-take len (drop start sorted) in
      let all = length-drop start sorted in
      let here : get_or (take len (drop start sorted)) k d ≡ get_or sorted (start + k) d =
      get_or-take len (drop start sorted) k d (omega (arith, lt, long)) ∙ get_or-drop start sorted k d in
      let next : get_or (take len (drop start sorted)) (k + 1) d ≡ get_or sorted (start + k + 1) d =
      get_or-take len (drop start sorted) (k + 1) d (omega (arith, lt, long)) ∙ get_or-drop start sorted (k + 1) d
      ∙ ap (λ i. get_or sorted i d) (let same : start + (k + 1) ≡ start + k + 1 = omega arith in same) in
      let a = get_or sorted (start + k) d in
      let b = get_or sorted (start + k + 1) d in
      let below : start + k + 1 < length sorted = omega (arith, lt, long, all) in
      let same : key_values groups_state b ≡ key_values groups_state a =
      sym (ap (λ x. key_values groups_state x) next) ∙ alike' d (k + 1) d lt ∙ sym (alike' d k d (omega (arith, lt))) ∙ ap (λ x. key_values groups_state x) here in
      let tied = alike groups_state b a (are (start + k + 1) d below) (are (start + k) d (omega (arith, below))) same in
      let le : a.start ≤ b.start = not_less b.start a.start (second_of (value_key_cmp groups_state b a) (nat_cmp b.start a.start) tied (order (start + k) d (omega arith) below)) in
      omega (arith, le, ap (λ (x : SortKey). x.start) here, ap (λ (x : SortKey). x.start) next))

  module _ (sorted : List SortKey) (start len : ℕ) where
    -- the rows of the run
    pub run_rows : map row_of (take len (drop start sorted)) ≡ take len (drop start (map row_of sorted))
    run_rows = sym (take-map row_of len (drop start sorted)) ∙ ap (take len) (sym (drop-map row_of start sorted))

    -- the first of them
    abbrev pub first_row : Fragment
    first_row = row_of (get_or (drop start sorted) 0 no_key)

    pub is_run : start < length sorted → (0 < length (drop start sorted) → 0 < len) → len ≤ length (drop start sorted)
        → ((d : SortKey) → All (λ k. key_values groups_state k ≡ key_values groups_state (get_or (drop start sorted) 0 d)) (take len (drop start sorted)))
        → ((d : SortKey) → len < length (drop start sorted) → key_values groups_state (get_or (drop start sorted) len d) ≢ key_values groups_state (get_or (drop start sorted) 0 d))
        → IsRun columns (map row_of sorted) start len first_row
    is_run below some within alike ends =
        let long = length-drop start sorted in
        let all = length-map sorted row_of in
        let head : key_values groups_state (get_or (drop start sorted) 0 no_key) ≡ key_of columns first_row = of_columns (get_or (drop start sorted) 0 no_key) in
        record {
          below = omega (arith, below, all);
          more = some (omega (arith, below, long));
          within = omega (arith, below, within, long, all);
          first =
              ap row_of (get_or-drop start sorted 0 no_key ∙ ap (λ i. get_or sorted i no_key) (let same : start + 0 ≡ start = omega arith in same))
              ∙ sym (get_or-map row_of sorted start no_key first_row below);
          alike =
              subst (AreOfKey columns (key_of columns first_row)) run_rows
              (All-map (λ r. key_of columns r ≡ key_of columns first_row) row_of (take len (drop start sorted))
              (All-weaker (λ k. key_values groups_state k ≡ key_values groups_state (get_or (drop start sorted) 0 no_key)) (λ k. key_of columns (row_of k) ≡ key_of columns first_row)
              (λ k is. sym (of_columns k) ∙ is ∙ head) (take len (drop start sorted)) (alike no_key)));
          ends = λ d inside same.
              let there : start + len < length sorted = omega (arith, inside, all) in
              ends no_key (omega (arith, there, long))
              (of_columns (get_or (drop start sorted) len no_key)
              ∙ ap (λ k. key_of columns (row_of k)) (get_or-drop start sorted len no_key)
              ∙ ap (key_of columns) (sym (get_or-map row_of sorted (start + len) no_key d there))
              ∙ same ∙ sym head);
        }
