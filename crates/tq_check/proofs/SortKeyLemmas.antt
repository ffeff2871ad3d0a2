-- Keys of all rows in order: overlapping and meeting rows, run by run.
use Rattle.std.proofs.Common.{◌≡◌, ◌≢◌, ◌++◌, ◌∷◌, [], ℕ, zero, suc, ◌+◌, ◌<◌, ◌≤◌, false, true, List, get_or, length, map, take, drop, refl, sym, ap, ◌∙◌, subst, arith, inl, inr}
use Rattle.std.specs.Prelude.{All, AllPairs, IsPermutation, IsSorted}
use Rattle.std.specs.List.{range_with_len}
use Rattle.std.specs.Cmp.{nat_cmp_is}
use Rattle.std.specs.Ordering.{is_lt, nat_cmp, ordering_then}
use Rattle.std.specs.declared.cmp.Ordering.{Ordering}
use Rattle.std.specs.declared.cmp.Ordering.TheVariants.{Equal, Greater, Less}
use Rattle.std.proofs.lemmas.Bool.{cases_lt}
use Rattle.std.proofs.lemmas.List.{get_or-drop, get_or-map, get_or-take, get_or_default, length-drop, length-map, length-take, map-append, take-append-drop}
use Rattle.std.proofs.lemmas.List.Elements.{All-drop, All-map, All-take}
use Rattle.std.proofs.lemmas.List.Sorted.{IsPermutation-map, ranks_by, sorted_far}
use Rattle.tq_base.specs.declared.value.Value.{Value}
use Rattle.tq_base.specs.declared.fragment.Fragment.{Fragment}
use Rattle.tq_base.specs.declared.sort_input.SortKey.{SortKey}
use Rattle.tq_base.specs.declared.sort_input.RunStart.TheVariants.{Unknown}
use Rattle.tq_base.specs.declared.sort_input.Side.{Side}
use Rattle.tq_base.specs.declared.sort_input.Side.TheVariants as side
use Rattle.tq_base.specs.Groups.{below_differs, below_then, Below, NotAbove}
use Rattle.tq_base.specs.SortKeyLaws.{alike, key_cmp_total, run_starts_rest, whole_row}
use Rattle.tq_base.specs.Keys.{columns_on, held, held_on, key_cmp, key_row, key_values, no_row, rows_on, value_key_cmp, Held, IsSortKey, SortInputState}
use Rattle.tq_base.specs.ValueOrder.{values_cmp, values_same}
use Rattle.tq_check.specs.EqualRows.{meeting, overlapping}
use Rattle.tq_check.specs.Runs.{adjacent_starts, overlapping_starts, Ascend, AreInOrder, CompareAllValues}
use Rattle.tq_check.proofs.ApartLemmas.{meeting_apart, overlapping_apart, AreApart, HaveOthers}
use Rattle.tq_check.proofs.RunLemmas.{run_meeting, run_overlapping, HaveValues}

-- the key that stands for a place after the end of a list
abbrev pub end_key : SortKey
end_key = record { prefix = 0; start = 0; row = 0; side = side.Left; run_start = Unknown }

-- ---- collected keys

held_rows : (s : SortInputState) (keys : List SortKey) → map (λ (h : Held). h.row) (map (held s) keys) ≡ map (key_row s) keys
held_rows s [] = refl
held_rows s (k ∷ keys) = ap (λ l. key_row s k ∷ l) (held_rows s keys)

rows_held : (rows : List Fragment) → map (λ (h : Held). h.row) (held_on side.Left rows) ≡ rows
rows_held [] = refl
rows_held (row ∷ rows) = ap (λ l. row ∷ l) (rows_held rows)

-- keys of left rows, in any order, stand for these rows
pub rows_moved : (s : SortInputState) (keys : List SortKey) (rows : List Fragment) → IsPermutation (held_on side.Left rows) (map (held s) keys) → IsPermutation rows (map (key_row s) keys)
rows_moved s keys rows same =
    subst (λ l. IsPermutation l (map (key_row s) keys)) (rows_held rows)
    (subst (IsPermutation (map (λ (h : Held). h.row) (held_on side.Left rows))) (held_rows s keys) (IsPermutation-map (λ (h : Held). h.row) (held_on side.Left rows) (map (held s) keys) same))

-- ---- sorted keys

-- if both sides have one table's rows and all its columns, the keys' values are those of their rows
pub all_whole : (s : SortInputState) (width : ℕ) (keys : List SortKey) → s.right ≡ s.left → s.right_columns ≡ s.left_columns → s.left_columns ≡ range_with_len 0 width
    → All (λ (f : Fragment). length f.values ≡ width) s.left → All (IsSortKey s) keys → CompareAllValues s keys
all_whole s width keys rows columns all wide are i d less = one (get_or keys i d) (are i d less)
  where
    columns_are : (z : Side) → columns_on s z ≡ range_with_len 0 width
    columns_are side.Left = all
    columns_are side.Right = columns ∙ all

    rows_are : (z : Side) → All (λ (f : Fragment). length f.values ≡ width) (rows_on s z)
    rows_are side.Left = wide
    rows_are side.Right = subst (λ l. All (λ (f : Fragment). length f.values ≡ width) l) (sym rows) wide

    one : (k : SortKey) → IsSortKey s k → key_values s k ≡ (key_row s k).values
    one k is = whole_row s k width (columns_are k.side) (rows_are k.side k.row no_row is.stands)

-- the first start is at most the second if the second is not less
not_below : (a b : ℕ) → is_lt (nat_cmp b a) ≡ false → a ≤ b
not_below a b is = elim (cases_lt b a) [
  | inl below ↦ let less : Less ≡ nat_cmp b a = nat_cmp_is b a Less below in let below_too : is_lt (nat_cmp b a) ≡ true = ap is_lt (sym less) in cc
  | inr order ↦ order
]

-- among sorted keys with equal values, none starts after a later one
pub all_ascend : (s : SortInputState) (keys : List SortKey) → IsSorted (key_cmp s) keys → All (IsSortKey s) keys → Ascend s keys
all_ascend s keys sorted are i j d before less same =
    let a = get_or keys i d in
    let b = get_or keys j d in
    let far : is_lt (key_cmp s b a) ≡ false = sorted_far (λ x y. is_lt (key_cmp s x y)) (ranks_by (key_cmp_total s) (λ (k : SortKey). k)) keys sorted i j d (omega (arith, before)) less in
    let tied : value_key_cmp s b a ≡ Equal = alike s b a (are j d less) (are i d (omega (arith, before, less))) (sym same) in
    not_below a.start b.start (sym (ap (λ o. is_lt (ordering_then o (nat_cmp b.start a.start))) tied) ∙ far)

-- pairs of the rest of a list
pairs_rest : {X : Type 0} (P : X → X → Type 0) (n : ℕ) (xs : List X) → AllPairs P xs → AllPairs P (drop n xs)
pairs_rest P n xs all i j d before less =
    let one : get_or (drop n xs) i d ≡ get_or xs (n + i) d = get_or-drop n xs i d in
    let other : get_or (drop n xs) j d ≡ get_or xs (n + j) d = get_or-drop n xs j d in
    rw (one, other) (all (n + i) (n + j) d (omega (arith, before)) (omega (arith, less, length-drop n xs)))

-- keys from a place on
pub order_rest : (s : SortInputState) (keys : List SortKey) (n : ℕ) → AreInOrder s keys → AreInOrder s (drop n keys)
order_rest s keys n order = record {
  each = All-drop (IsSortKey s) n keys order.each;
  run_starts = run_starts_rest s keys n order.run_starts;
  rises = pairs_rest (λ a b. values_cmp (key_values s a) (key_values s b) ≢ Greater) n keys order.rises;
  ascend = pairs_rest (λ a b. key_values s a ≡ key_values s b → a.start ≤ b.start) n keys order.ascend;
  whole = All-drop (λ k. key_values s k ≡ (key_row s k).values) n keys order.whole;
}

-- values that are neither above others nor equal to them are below them
below_from : (u v : List Value) → NotAbove u v → u ≢ v → Below u v
below_from u v not_above differ = by (values_cmp u v) refl
  where
    by : (r : Ordering) → values_cmp u v ≡ r → Below u v
    by Less is = is
    by Equal is = absurd (differ (values_same u v is))
    by Greater is = absurd (not_above is)

-- ---- the first run

module _ (s : SortInputState) (keys : List SortKey) (len : ℕ) (order : AreInOrder s keys) (some : 0 < len) (within : len ≤ length keys)
    (same : All (λ k. key_values s k ≡ key_values s (get_or keys 0 end_key)) (take len keys))
    (ends : len < length keys → key_values s (get_or keys len end_key) ≢ key_values s (get_or keys 0 end_key)) where
  abbrev v : List Value
  v = key_values s (get_or keys 0 end_key)

  abbrev run : List Fragment
  run = map (key_row s) (take len keys)

  abbrev rest : List Fragment
  rest = map (key_row s) (drop len keys)

  run_values : HaveValues v run
  run_values =
      All-map (λ (f : Fragment). f.values ≡ v) (key_row s) (take len keys)
      (λ i d below. sym (All-take (λ k. key_values s k ≡ (key_row s k).values) len keys order.whole i d below) ∙ same i d below)

  others : (j : ℕ) → len + j < length keys → key_values s (get_or keys (len + j) end_key) ≢ v
  others zero less =
      let at : len + 0 ≡ len = omega arith in
      subst (λ n. key_values s (get_or keys n end_key) ≢ v) (sym at) (ends (omega (arith, less)))
  others (suc j) less =
      let here : len < length keys = omega (arith, less) in
      let first = below_from v (key_values s (get_or keys len end_key)) (order.rises 0 len end_key some here) (λ is. ends here (sym is)) in
      let next = below_then v (key_values s (get_or keys len end_key)) (key_values s (get_or keys (len + suc j) end_key)) first (order.rises len (len + suc j) end_key (omega arith) less) in
      λ is. below_differs v (key_values s (get_or keys (len + suc j) end_key)) next (sym is)

  rest_values : HaveOthers v rest
  rest_values =
      All-map (λ (f : Fragment). f.values ≢ v) (key_row s) (drop len keys) (λ j d less is.
      let below : len + j < length keys = omega (arith, less, length-drop len keys) in
      let there : get_or (drop len keys) j d ≡ get_or keys (len + j) end_key = get_or-drop len keys j d ∙ get_or_default keys (len + j) d end_key below in
      others j below (order.whole (len + j) end_key below ∙ ap (λ k. (key_row s k).values) (sym there) ∙ is))

  apart : AreApart run rest
  apart = record {
    first = λ i d less. subst (λ u. HaveOthers u rest) (sym (run_values i d less)) rest_values;
    second = λ j d less i e other is. rest_values j d less (sym is ∙ run_values i e other);
  }

  run_ascends : AllPairs (λ (a b : Fragment). a.period.start ≤ b.period.start) run
  run_ascends i j d before less =
      let short : j < length (take len keys) = omega (arith, less, length-map (take len keys) (key_row s)) in
      let j_in : j < len = omega (arith, short, length-take len keys) in
      let i_in : i < len = omega (arith, before, j_in) in
      let one : get_or run i d ≡ key_row s (get_or keys i end_key) = get_or-map (key_row s) (take len keys) i end_key d (omega (arith, before, short)) ∙ ap (key_row s) (get_or-take len keys i end_key i_in) in
      let other : get_or run j d ≡ key_row s (get_or keys j end_key) = get_or-map (key_row s) (take len keys) j end_key d short ∙ ap (key_row s) (get_or-take len keys j end_key j_in) in
      let i_same : key_values s (get_or keys i end_key) ≡ v = ap (key_values s) (sym (get_or-take len keys i end_key i_in)) ∙ same i end_key (omega (arith, before, short)) in
      let j_same : key_values s (get_or keys j end_key) ≡ v = ap (key_values s) (sym (get_or-take len keys j end_key j_in)) ∙ same j end_key short in
      let starts = order.ascend i j end_key before (omega (arith, j_in, within)) (i_same ∙ sym j_same) in
      let i_start = (order.each i end_key (omega (arith, i_in, within))).start in
      let j_start = (order.each j end_key (omega (arith, j_in, within))).start in
      rw (one, other) (omega (arith, starts, i_start, j_start))

  split : map (key_row s) keys ≡ run ++ rest
  split = ap (map (key_row s)) (sym (take-append-drop len keys)) ∙ map-append (key_row s) (take len keys) (drop len keys)

  pub first_overlapping : overlapping (map (key_row s) keys) ≡ overlapping_starts 0 run + overlapping rest
  first_overlapping = ap overlapping split ∙ overlapping_apart run rest apart ∙ ap (λ n. n + overlapping rest) (run_overlapping run v run_values run_ascends)

  pub first_meeting : meeting (map (key_row s) keys) ≡ adjacent_starts 0 run + meeting rest
  first_meeting = ap meeting split ∙ meeting_apart run rest apart ∙ ap (λ n. n + meeting rest) (run_meeting run v run_values run_ascends)
