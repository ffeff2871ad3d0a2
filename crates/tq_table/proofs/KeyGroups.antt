-- Keys of left rows with all columns compared: their rows are added to the table group by group.
use Rattle.std.proofs.Common.{◌≡◌, ◌≢◌, ◌++◌, ◌∷◌, [], ℕ, ◌+◌, ◌<◌, List, get_or, length, map, take, drop, refl, sym, ap, ◌∙◌, subst, arith, IfSome, slice_get}
use Rattle.std.specs.Prelude.{All, AllPairs, IsPermutation}
use Rattle.std.specs.List.{range_with_len}
use Rattle.std.specs.declared.cmp.Ordering.TheVariants.{Less, Greater}
use Rattle.std.proofs.lemmas.List.{drop_more, get_or-map, length-drop, length-map, map-append, take-append-drop}
use Rattle.std.proofs.lemmas.List.Elements.{All-cons, All-map, All-nil, All-take}
use Rattle.std.proofs.lemmas.List.Sorted.{All-permutation, IsPermutation-map}
use Rattle.tq_base.specs.declared.value.Value.{Value}
use Rattle.tq_base.specs.declared.fragment.Fragment.{Fragment}
use Rattle.tq_base.specs.declared.sort_input.SortKey.{SortKey}
use Rattle.tq_base.specs.declared.sort_input.RunStart.TheVariants.{Unknown}
use Rattle.tq_base.specs.declared.sort_input.Side.TheVariants as side
use Rattle.tq_base.specs.ValueOrder.{values_cmp}
use Rattle.tq_base.specs.Copies.{copies-IsPermutation}
use Rattle.tq_base.specs.Groups.{closes_group, Grouping}
use Rattle.tq_base.specs.SortKeyLaws.{whole_row}
use Rattle.tq_base.specs.Keys.{columns_on, held, held_on, key_row, key_values, no_row, rows_on, Held, IsSortKey, Rises, SortInputState}
use Rattle.tq_base.specs.Layering.{AddsLayers}
use Rattle.tq_base.specs.Layers.{TakesIn}

-- the keys are of left rows
abbrev pub AreLeft : List SortKey → Type 0
AreLeft keys = All (λ k. k.side ≡ side.Left) keys

-- all values of the keys' rows are compared
abbrev pub AreWhole : SortInputState → List SortKey → Type 0
AreWhole s keys = All (λ k. key_values s k ≡ (key_row s k).values) keys

-- the key that stands for a place after the end of a list
abbrev pub end_key : SortKey
end_key = record { prefix = 0; start = 0; row = 0; side = side.Left; run_start = Unknown }

-- ---- collected keys

held_rows : (s : SortInputState) (keys : List SortKey) → map (λ (h : Held). h.row) (map (held s) keys) ≡ map (key_row s) keys
held_rows s [] = refl
held_rows s (k ∷ keys) = ap (λ l. key_row s k ∷ l) (held_rows s keys)

rows_held : (rows : List Fragment) → map (λ (h : Held). h.row) (held_on side.Left rows) ≡ rows
rows_held [] = refl
rows_held (row ∷ rows) = ap (λ l. row ∷ l) (rows_held rows)

all_left : (rows : List Fragment) → All (λ (h : Held). h.side ≡ side.Left) (held_on side.Left rows)
all_left [] = All-nil (λ (h : Held). h.side ≡ side.Left)
all_left (row ∷ rows) = All-cons (λ (h : Held). h.side ≡ side.Left) (record { side = side.Left; row = row }) (held_on side.Left rows) refl (all_left rows)

-- keys of left rows, in the rows' order, stand for these rows one by one
pub rows_kept : (s : SortInputState) (keys : List SortKey) (rows : List Fragment) → map (held s) keys ≡ held_on side.Left rows → map (key_row s) keys ≡ rows
rows_kept s keys rows are = sym (held_rows s keys) ∙ ap (map (λ (h : Held). h.row)) are ∙ rows_held rows

-- keys of left rows, in any order, stand for these rows
pub rows_moved : (s : SortInputState) (keys : List SortKey) (rows : List Fragment) → IsPermutation (held_on side.Left rows) (map (held s) keys) → IsPermutation rows (map (key_row s) keys)
rows_moved s keys rows same =
    subst (λ l. IsPermutation l (map (key_row s) keys)) (rows_held rows)
    (subst (IsPermutation (map (λ (h : Held). h.row) (held_on side.Left rows))) (held_rows s keys) (IsPermutation-map (λ (h : Held). h.row) (held_on side.Left rows) (map (held s) keys) same))

-- and have the left side
pub left_moved : (s : SortInputState) (keys : List SortKey) (rows : List Fragment) → IsPermutation (held_on side.Left rows) (map (held s) keys) → AreLeft keys
left_moved s keys rows same =
    let there : All (λ (h : Held). h.side ≡ side.Left) (map (held s) keys) = All-permutation (λ (h : Held). h.side ≡ side.Left) (held_on side.Left rows) (map (held s) keys) same (all_left rows) in
    λ i d less. subst (λ (h : Held). h.side ≡ side.Left) (get_or-map (held s) keys i d (held s d) less) (there i (held s d) (omega (arith, less, length-map keys (held s))))

-- keys of the left side stand for rows of the left
pub all_stand : (s : SortInputState) (keys : List SortKey) → All (IsSortKey s) keys → AreLeft keys → All (λ k. k.row < length s.left) keys
all_stand s keys are left i d less = subst (λ z. (get_or keys i d).row < length (rows_on s z)) (left i d less) (are i d less).stands

-- ---- all columns

whole : (s : SortInputState) (width : ℕ) → s.left_columns ≡ range_with_len 0 width → All (λ (f : Fragment). length f.values ≡ width) s.left → (k : SortKey) → IsSortKey s k → k.side ≡ side.Left → key_values s k ≡ (key_row s k).values
whole s width columns wide k is left =
    whole_row s k width
    (ap (columns_on s) left ∙ columns)
    (subst (λ z. k.row < length (rows_on s z) → length (get_or (rows_on s z) k.row no_row).values ≡ width) (sym left) (λ stands. wide k.row no_row stands) is.stands)

-- if all columns are compared, the keys' values are those of their rows
pub all_whole : (s : SortInputState) (width : ℕ) (keys : List SortKey) → s.left_columns ≡ range_with_len 0 width → All (λ (f : Fragment). length f.values ≡ width) s.left → All (IsSortKey s) keys → AreLeft keys → AreWhole s keys
all_whole s width keys columns wide are left i d below = whole s width columns wide (get_or keys i d) (are i d below) (left i d below)

-- ---- groups

rising : (s : SortInputState) (keys : List SortKey) → AreWhole s keys → Rises s keys → AllPairs (λ f g. values_cmp f.values g.values ≢ Greater) (map (key_row s) keys)
rising s keys whole rises i j d before short =
    let within : j < length keys = omega (arith, short, length-map keys (key_row s)) in
    let first = get_or-map (key_row s) keys i end_key d (omega (arith, before, within)) in
    let second = get_or-map (key_row s) keys j end_key d within in
    let a = get_or keys i end_key in
    let b = get_or keys j end_key in
    let a_is : key_values s a ≡ (key_row s a).values = whole i end_key (omega (arith, before, within)) in
    let b_is : key_values s b ≡ (key_row s b).values = whole j end_key within in
    rw (first, second) (λ above. rises i j end_key before within (ap (λ u. values_cmp u (key_values s b)) a_is ∙ ap (λ v. values_cmp (key_row s a).values v) b_is ∙ above))

-- before the first group
pub grouping_starts : (s : SortInputState) (rows : List Fragment) (keys : List SortKey) → IsPermutation rows (map (key_row s) keys) → AreWhole s keys → Rises s keys → Grouping rows (map (key_row s) keys) []
grouping_starts s rows keys same whole rises = record {
  counted = λ v t. omega (arith, copies-IsPermutation rows (map (key_row s) keys) v t same);
  coalesced = All-nil (λ f. All (λ g. f.values ≡ g.values → TakesIn f.period g.period) []);
  below = λ k d lt. All-nil (λ f. values_cmp f.values (get_or (map (key_row s) keys) k d).values ≡ Less);
  rising = rising s keys whole rises;
  ordered = λ k d low high. absurd (omega arith);
}

-- a run of keys with equal values at the front is a group, which is added to the table
module _ (s : SortInputState) (keys : List SortKey) (len : ℕ) (are_whole : AreWhole s keys) where
  abbrev v : List Value
  v = key_values s (get_or keys 0 end_key)

  alike_rows : All (λ k. key_values s k ≡ v) (take len keys) → All (λ f. f.values ≡ v) (map (key_row s) (take len keys))
  alike_rows alike =
      All-map (λ f. f.values ≡ v) (key_row s) (take len keys)
      (λ i d below. sym (All-take (λ k. key_values s k ≡ (key_row s k).values) len keys are_whole i d below) ∙ alike i d below)

  differs : (len < length keys → key_values s (get_or keys len end_key) ≢ v) → (after : List SortKey) → drop len keys ≡ after → IfSome (slice_get (map (key_row s) after) 0) (λ f. f.values ≢ v)
  differs ends [] is = tt
  differs ends (k ∷ after) is =
      let short : len < length keys = omega (arith, length-drop len keys, ap length is) in
      let more : drop len keys ≡ get_or keys len end_key ∷ drop (len + 1) keys = drop_more keys len end_key short in
      let k_is : get_or keys len end_key ≡ k = cc in
      λ same. ends short (are_whole len end_key short ∙ ap (λ l. (key_row s l).values) k_is ∙ same)

  pub takes_group : (rows table new : List Fragment) → Grouping rows (map (key_row s) keys) table
      → All (λ k. key_values s k ≡ v) (take len keys)
      → (len < length keys → key_values s (get_or keys len end_key) ≢ v)
      → ((u : List Value) → All (λ k. (key_row s k).values ≡ u) (take len keys) → AddsLayers u (map (key_row s) (take len keys)) table new)
      → Grouping rows (map (key_row s) (drop len keys)) new
  takes_group rows table new before alike ends adds =
      let split : map (key_row s) keys ≡ map (key_row s) (take len keys) ++ map (key_row s) (drop len keys) =
      ap (map (key_row s)) (sym (take-append-drop len keys)) ∙ map-append (key_row s) (take len keys) (drop len keys) in
      closes_group rows (map (key_row s) (take len keys)) (map (key_row s) (drop len keys)) table new v
      (subst (λ l. Grouping rows l table) split before)
      (alike_rows alike)
      (differs ends (drop len keys) refl)
      (adds v (λ i d below. sym (All-take (λ k. key_values s k ≡ (key_row s k).values) len keys are_whole i d below) ∙ alike i d below))
