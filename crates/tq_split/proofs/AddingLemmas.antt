-- The rows that add those of groups: how often a row stands among them.
use Rattle.std.proofs.Common.{◌≡◌, ◌≢◌, ◌<◌, ◌≤◌, ◌+◌, ◌-◌, ◌++◌, ◌∙◌, ℕ, zero, suc, Bool, true, false, cond, List, [], ◌∷◌, ap, append-nil, append_assoc, arith, inl, inr, length, map, min, refl, sym, take}
use Rattle.std.specs.Prelude.{All, filter, pos}
use Rattle.std.specs.List.{range_with_len}
use Rattle.std.specs.Ordering.{ordering_then}
use Rattle.std.specs.declared.cmp.Ordering.{Ordering}
use Rattle.std.specs.declared.cmp.Ordering.TheVariants.{Equal, Greater, Less}
use Rattle.std.proofs.lemmas.Bool.{cases_lt, false≢true}
use Rattle.std.proofs.lemmas.Bool.Decides.{nat_tests}
use Rattle.std.proofs.lemmas.List.{length-append, length-map, map-append, take_all, take_at}
use Rattle.std.proofs.lemmas.List.Elements.{All-head, All-tail}
use Rattle.std.proofs.lemmas.List.FromFn.{length-range_with_len}
use Rattle.std.proofs.lemmas.List.Sums.{sum_by-cons}
use Rattle.std.proofs.Math.Seq.{get_or-append_seam}
use Rattle.tq_base.specs.declared.fragment.Fragment.{Fragment}
use Rattle.tq_base.specs.declared.period.Period.{Period}
use Rattle.tq_base.specs.declared.value.Value.{Value}
use Rattle.tq_base.specs.Contents.{Int}
use Rattle.tq_base.specs.Fragments.{at, copies, occurrences}
use Rattle.tq_base.specs.Groups.{Below}
use Rattle.tq_base.specs.Layers.{IsLayers}
use Rattle.tq_base.specs.Periods.{holds}
use Rattle.tq_base.specs.RowValues.{value_at}
use Rattle.tq_base.proofs.Unique.{held_from}
use Rattle.tq_base.specs.ValueOrder.{eq_from_same, same_from_eq, value_cmp, values_cmp}
use Rattle.tq_condition.specs.Ordinary.{HasInside, IsEmptyOutside, projection}
use Rattle.tq_agg.specs.Grouping.{Row, first_row, group_row, grouped_by, grouped_rows, same_row, sum_at}
use Rattle.tq_exec.specs.Scan.{SameCounts}
use Rattle.tq_exec.proofs.BagLemmas.{is_it, one_if, same_filtered, same_lengths}
use Rattle.tq_exec.proofs.GroupBags.{of_key}
use Rattle.tq_split.specs.declared.combine.Combine.TheVariants.{Add}
use Rattle.tq_split.specs.Adding.{added_row, added_rows, combined}
use Rattle.tq_split.proofs.GroupLemmas.{at_most_one, key-append, made_of_groups, same_sum_at, shown}

-- ---- the first values

-- values behind others, and below, the first values
behind : (before values : List Value) (n : ℕ) → n ≤ length values → projection (range_with_len (length before) n) (before ++ values) ≡ take n values
behind before values zero less = refl
behind before [] (suc n) less = absurd (omega (arith, less))
behind before (value ∷ values) (suc n) less =
    let next : length before + 1 ≡ length (before ++ value ∷ []) = omega (arith, length-append before (value ∷ [])) in
    λ i. get_or-append_seam before value values (Int (pos 0)) i
    ∷ (ap (λ start. projection (range_with_len start n) (before ++ value ∷ values)) next
    ∙ ap (projection (range_with_len (length (before ++ value ∷ [])) n)) (sym (append_assoc before (value ∷ []) values))
    ∙ behind (before ++ value ∷ []) values n (omega (arith, less))) i

pub first_values : (values : List Value) (n : ℕ) → n ≤ length values → projection (range_with_len 0 n) values ≡ take n values
first_values values n less = behind [] values n less

-- lists whose first values are in an order are in that order
pub take_less : (n : ℕ) (a b : List Value) → Below (take n a) (take n b) → Below a b
take_less zero a b less = cc less
take_less (suc n) [] [] less = cc less
take_less (suc n) [] (y ∷ b) less = refl
take_less (suc n) (x ∷ a) [] less = cc less
take_less (suc n) (x ∷ a) (y ∷ b) less = by (value_cmp x y) less (take_less n a b)
  where
    by : (r : Ordering) → ordering_then r (values_cmp (take n a) (take n b)) ≡ Less → (Below (take n a) (take n b) → Below a b) → ordering_then r (values_cmp a b) ≡ Less
    by Less is rest = refl
    by Equal is rest = rest is
    by Greater is rest = cc is

pub take_greater : (n : ℕ) (a b : List Value) → values_cmp (take n a) (take n b) ≡ Greater → values_cmp a b ≡ Greater
take_greater zero a b greater = cc greater
take_greater (suc n) [] [] greater = cc greater
take_greater (suc n) [] (y ∷ b) greater = cc greater
take_greater (suc n) (x ∷ a) [] greater = refl
take_greater (suc n) (x ∷ a) (y ∷ b) greater = by (value_cmp x y) greater (take_greater n a b)
  where
    by : (r : Ordering) → ordering_then r (values_cmp (take n a) (take n b)) ≡ Greater → (values_cmp (take n a) (take n b) ≡ Greater → values_cmp a b ≡ Greater) → ordering_then r (values_cmp a b) ≡ Greater
    by Less is rest = cc is
    by Equal is rest = rest is
    by Greater is rest = refl

-- ---- ranges of numbers

pub range_more : (a n : ℕ) → range_with_len a (suc n) ≡ range_with_len a n ++ (a + n) ∷ []
range_more a zero = let same : a ≡ a + 0 = omega arith in ap (λ x. x ∷ []) same
range_more a (suc n) =
    let next : a + 1 + n ≡ a + suc n = omega arith in
    ap (λ l. a ∷ l) (range_more (a + 1) n ∙ ap (λ x. range_with_len (a + 1) n ++ x ∷ []) next)

-- ---- the rows of counted groups without their counts

pub shown_long : (groups width : ℕ) → groups ≤ width → length (range_with_len 0 groups ++ range_with_len (groups + 1) (width - groups)) ≡ width
shown_long groups width within =
    omega (arith, within, length-append (range_with_len 0 groups) (range_with_len (groups + 1) (width - groups)), length-range_with_len 0 groups, length-range_with_len (groups + 1) (width - groups))

-- the key and the sums of such a row
without_count : (n s : ℕ) (key sums : List Value) (count : Value) → length key ≡ n → length sums ≡ s → projection (range_with_len 0 n ++ range_with_len (n + 1) s) (key ++ count ∷ sums) ≡ key ++ sums
without_count n s key sums count many are =
    map-append (value_at (key ++ count ∷ sums)) (range_with_len 0 n) (range_with_len (n + 1) s)
    ∙ (λ i. first i ++ rest i)
  where
    first : projection (range_with_len 0 n) (key ++ count ∷ sums) ≡ key
    first = first_values (key ++ count ∷ sums) n (omega (arith, many, length-append key (count ∷ sums))) ∙ take_at key (count ∷ sums) n many

    rest : projection (range_with_len (n + 1) s) (key ++ count ∷ sums) ≡ sums
    rest =
        let start : n + 1 ≡ length (key ++ count ∷ []) = omega (arith, many, length-append key (count ∷ [])) in
        ap (λ a. projection (range_with_len a s) (key ++ count ∷ sums)) start
        ∙ ap (projection (range_with_len (length (key ++ count ∷ [])) s)) (sym (append_assoc key (count ∷ []) sums))
        ∙ behind (key ++ count ∷ []) sums s (omega (arith, are))
        ∙ take_all s sums (omega (arith, are))

-- without their counts, the rows of groups are those that add
pub sums_are : (groups width : ℕ) (keys sums columns : List ℕ) → groups ≤ width → keys ≡ range_with_len 0 groups → sums ≡ range_with_len groups (width - groups)
    → columns ≡ range_with_len 0 groups ++ range_with_len (groups + 1) (width - groups) → (rows : List Row) → map (projection columns) (grouped_rows keys sums rows) ≡ added_rows groups width rows
sums_are groups width keys sums columns within keys_are sums_are' columns_are rows =
    (λ i. map (projection (columns_are i)) (grouped_rows (keys_are i) (sums_are' i) rows))
    ∙ each (grouped_by (range_with_len 0 groups) rows)
    ∙ ap (λ n. map (added_row n (width - groups)) (grouped_by (range_with_len 0 n) rows)) same
  where
    same : groups ≡ min groups width
    same = omega (arith, within)

    one : (group : List Row) → projection (range_with_len 0 groups ++ range_with_len (groups + 1) (width - groups)) (group_row (range_with_len 0 groups) (range_with_len groups (width - groups)) group) ≡ added_row groups (width - groups) group
    one group =
        without_count groups (width - groups) (projection (range_with_len 0 groups) (first_row group)) (map (λ place. Int (sum_at place group)) (range_with_len groups (width - groups))) (Int (pos (length group)))
        (length-map (range_with_len 0 groups) (value_at (first_row group)) ∙ length-range_with_len 0 groups)
        (length-map (range_with_len groups (width - groups)) (λ place. Int (sum_at place group)) ∙ length-range_with_len groups (width - groups))

    each : (lists : List (List Row)) → map (projection (range_with_len 0 groups ++ range_with_len (groups + 1) (width - groups))) (map (group_row (range_with_len 0 groups) (range_with_len groups (width - groups))) lists)
        ≡ map (added_row groups (width - groups)) lists
    each [] = refl
    each (group ∷ lists) = λ i. one group i ∷ each lists i

-- ---- the layers of what is added

at_none : (rows : List Fragment) (last t : ℕ) → All (λ (period : Period). period.end ≤ last) (map (λ (row : Fragment). row.period) rows) → last ≤ t → at rows t ≡ []
at_none [] last t ends past = refl
at_none (row ∷ rows) last t ends past =
    by (holds row.period t) refl (at_none rows last t (All-tail (λ (period : Period). period.end ≤ last) row.period (map (λ (f : Fragment). f.period) rows) ends) past)
  where
    by : (b : Bool) → holds row.period t ≡ b → at rows t ≡ []
        → map (λ (f : Fragment). f.values) (cond b (row ∷ filter (λ (f : Fragment). holds f.period t) rows) (filter (λ (f : Fragment). holds f.period t) rows)) ≡ []
    by true is rest =
        let late = held_from row.period t is in
        absurd (omega (arith, late.1, past, All-head (λ (period : Period). period.end ≤ last) row.period (map (λ (f : Fragment). f.period) rows) ends))
    by false is rest = rest

outside_span : (span : Period) (t : ℕ) → span.start ≡ 0 → holds span t ≡ false → span.end ≤ t
outside_span span t start is = elim (cases_lt t span.end) [
  | inl less ↦
      let begun : span.start ≤ t = omega (arith, start) in
      absurd (grind (arith, nat_tests))
  | inr past ↦ past
]

-- the count of columns of groups is at most that of the columns
least_groups : (groups width : ℕ) (rows : List Row) → added_rows (min groups width) width rows ≡ added_rows groups width rows
least_groups groups width rows =
    let first : min (min groups width) width ≡ min groups width = omega arith in
    let rest : width - min groups width ≡ width - groups = omega arith in
    λ i. map (added_row (first i) (rest i)) (grouped_by (range_with_len 0 (first i)) rows)

-- the rows have what is added inside the span, and there is nothing outside it
pub added_layers : (groups least width : ℕ) (span : Period) (rows sums layers : List Fragment) → least ≡ min groups width → span.start ≡ 0
    → All (λ (period : Period). period.end ≤ span.end) (map (λ (row : Fragment). row.period) rows)
    → HasInside span sums (λ t v. occurrences (added_rows least width (at rows t)) v) → IsEmptyOutside span sums → IsLayers (copies sums) layers → IsLayers (combined (Add groups) width rows) layers
added_layers groups least width span rows sums layers is start ends inside outside are = record {
  ordered = are.ordered;
  coalesced = are.coalesced;
  counted = λ v t. are.counted v t ∙ by v t (holds span t) refl;
}
  where
    by : (v : List Value) (t : ℕ) (b : Bool) → holds span t ≡ b → copies sums v t ≡ combined (Add groups) width rows v t
    by v t true is_in = inside t v is_in ∙ (λ i. occurrences (added_rows (is i) width (at rows t)) v) ∙ ap (λ l. occurrences l v) (least_groups groups width (at rows t))
    by v t false is_out =
        ap (λ l. occurrences l v) (outside t is_out)
        ∙ sym (ap (λ l. occurrences (added_rows groups width l) v) (at_none rows span.end t ends (outside_span span t start is_out)))

-- ---- what is added for a key

module _ (groups width : ℕ) where
  abbrev pub keys : List ℕ
  keys = range_with_len 0 (min groups width)

  abbrev pub sums : List Row → Row
  sums rows = map (λ place. Int (sum_at place rows)) (range_with_len (min groups width) (width - groups))

  abbrev pub key_in : Row → Row
  key_in v = take (length keys) v

  -- the row that a group of this key makes
  abbrev pub sums_shown : List Row → Row → ℕ
  sums_shown group v = shown group (key_in v ++ sums group) v

  pub added_occurrences : (rows : List Row) (v : Row) → occurrences (added_rows groups width rows) v ≡ sums_shown (of_key keys rows (key_in v)) v
  added_occurrences rows v = made_of_groups keys sums rows v

  same_sums_of : (a b : List Row) → SameCounts a b → (places : List ℕ) → map (λ place. Int (sum_at place a)) places ≡ map (λ place. Int (sum_at place b)) places
  same_sums_of a b same [] = refl
  same_sums_of a b same (place ∷ places) = λ i. Int (same_sum_at place a b same i) ∷ same_sums_of a b same places i

  pub same_shown : (a b : List Row) (v : Row) → SameCounts a b → sums_shown a v ≡ sums_shown b v
  same_shown a b v same = λ i. cond (same_row (key_in v ++ same_sums_of a b same (range_with_len (min groups width) (width - groups)) i) v) (at_most_one (same_lengths a b same i)) 0

  -- lists in which each row stands as often make the same rows
  pub same_added : (a b : List Row) → SameCounts a b → (v : Row) → occurrences (added_rows groups width a) v ≡ occurrences (added_rows groups width b) v
  same_added a b same v =
      added_occurrences a v
      ∙ same_shown (of_key keys a (key_in v)) (of_key keys b (key_in v)) v (same_filtered (λ row. same_row (projection keys row) (key_in v)) a b same)
      ∙ sym (added_occurrences b v)

  none_shown : (v : Row) → sums_shown [] v ≡ 0
  none_shown v = by (same_row (key_in v ++ sums []) v)
    where
      by : (b : Bool) → let none : ℕ = 0 in cond b none none ≡ none
      by true = refl
      by false = refl

  -- ---- rows of one key, and rows of others

  none_of_key : (rows : List Row) (key : Row) → All (λ (row : Row). projection keys row ≢ key) rows → of_key keys rows key ≡ []
  none_of_key [] key none = refl
  none_of_key (row ∷ rows) key none =
      by (same_row (projection keys row) key) refl (none_of_key rows key (All-tail (λ (row : Row). projection keys row ≢ key) row rows none))
    where
      by : (b : Bool) → same_row (projection keys row) key ≡ b → of_key keys rows key ≡ [] → cond b (row ∷ of_key keys rows key) (of_key keys rows key) ≡ []
      by true is rest = absurd (All-head (λ (row : Row). projection keys row ≢ key) row rows none (same_from_eq (projection keys row) key is))
      by false is rest = rest

  -- rows of one key, and rows of others, make what each makes
  pub added_apart : (rows a b : List Row) (key : Row) → SameCounts rows (a ++ b) → All (λ (row : Row). projection keys row ≡ key) a → All (λ (row : Row). projection keys row ≢ key) b
      → (v : Row) → occurrences (added_rows groups width a) v + occurrences (added_rows groups width b) v ≡ occurrences (added_rows groups width rows) v
  added_apart rows a b key same alike apart v = by (same_row (key_in v) key) refl
    where
      whole : of_key keys (a ++ b) (key_in v) ≡ of_key keys a (key_in v) ++ of_key keys b (key_in v)
      whole = key-append keys a b (key_in v)

      together : occurrences (added_rows groups width rows) v ≡ sums_shown (of_key keys (a ++ b) (key_in v)) v
      together = same_added rows (a ++ b) same v ∙ added_occurrences (a ++ b) v

      by : (c : Bool) → same_row (key_in v) key ≡ c → occurrences (added_rows groups width a) v + occurrences (added_rows groups width b) v ≡ occurrences (added_rows groups width rows) v
      by true is =
          let one : key_in v ≡ key = same_from_eq (key_in v) key is in
          let none : of_key keys b (key_in v) ≡ [] = ap (of_key keys b) one ∙ none_of_key b key apart in
          let left : sums_shown (of_key keys (a ++ b) (key_in v)) v ≡ sums_shown (of_key keys a (key_in v)) v =
          ap (λ l. sums_shown l v) (whole ∙ ap (λ l. of_key keys a (key_in v) ++ l) none ∙ append-nil (of_key keys a (key_in v))) in
          let right : occurrences (added_rows groups width b) v ≡ 0 = added_occurrences b v ∙ ap (λ l. sums_shown l v) none ∙ none_shown v in
          omega (arith, right, together, left, added_occurrences a v)
      by false differs =
          let other : All (λ (row : Row). projection keys row ≢ key_in v) a = λ k d less same. false≢true (sym differs ∙ eq_from_same (key_in v) key (sym same ∙ alike k d less)) in
          let none : of_key keys a (key_in v) ≡ [] = none_of_key a (key_in v) other in
          let left : sums_shown (of_key keys (a ++ b) (key_in v)) v ≡ sums_shown (of_key keys b (key_in v)) v =
          ap (λ l. sums_shown l v) (whole ∙ ap (λ l. l ++ of_key keys b (key_in v)) none) in
          let right : occurrences (added_rows groups width a) v ≡ 0 = added_occurrences a v ∙ ap (λ l. sums_shown l v) none ∙ none_shown v in
          omega (arith, right, together, left, added_occurrences b v)

  -- ---- a row that is made has the key of one of the rows

  first_with : (rows : List Row) (key : Row) → 0 < length (of_key keys rows key) → (u : Row) × (0 < occurrences rows u) × (projection keys u ≡ key)
  first_with [] key some = absurd (omega (arith, some))
  first_with (row ∷ rows) key some = by (same_row (projection keys row) key) refl (first_with rows key) some
    where
      by : (b : Bool) → same_row (projection keys row) key ≡ b → (0 < length (of_key keys rows key) → (u : Row) × (0 < occurrences rows u) × (projection keys u ≡ key))
          → 0 < length (cond b (row ∷ of_key keys rows key) (of_key keys rows key)) → (u : Row) × (0 < occurrences (row ∷ rows) u) × (projection keys u ≡ key)
      by true is rest there = (row, omega (arith, sum_by-cons (is_it row) row rows, ap one_if (eq_from_same row row refl)), same_from_eq (projection keys row) key is)
      by false is rest there =
          let (u, stands, has) = rest there in
          (u, omega (arith, stands, sum_by-cons (is_it u) row rows), has)

  -- and its own values are its key and the sums
  pub record HasKey (rows : List Row) (v : Row) : Type 0 where
    pub row : Row
    pub stands : 0 < occurrences rows row
    pub key : projection keys row ≡ key_in v
    pub group : List Row
    pub is : key_in v ++ sums group ≡ v

  pub has_key : (rows : List Row) (v : Row) → 0 < occurrences (added_rows groups width rows) v → HasKey rows v
  has_key rows v some = by (same_row (key_in v ++ sums group) v) refl (omega (arith, some, added_occurrences rows v))
    where
      group : List Row
      group = of_key keys rows (key_in v)

      positive : (n : ℕ) → 0 < at_most_one n → 0 < n
      positive zero few = few
      positive (suc n) few = omega arith

      by : (b : Bool) → same_row (key_in v ++ sums group) v ≡ b → 0 < cond b (at_most_one (length group)) 0 → HasKey rows v
      by true is there =
          let (u, stands, has) = first_with rows (key_in v) (positive (length group) there) in
          record { row = u; stands = stands; key = has; group = group; is = same_from_eq (key_in v ++ sums group) v is }
      by false is there = absurd (omega (arith, there))

  -- so its first values are those of this row
  pub same_first : (rows : List Row) (v : Row) (has : HasKey rows v) → length has.row ≡ width → take groups has.row ≡ take groups v
  same_first rows v has wide = elim (cases_lt width groups) [
    | inl more ↦
        let all : min groups width ≡ width = omega (arith, more) in
        let no_sums : width - groups ≡ 0 = omega (arith, more) in
        let whole : key_in v ≡ v = sym (append-nil (key_in v)) ∙ ap (λ l. key_in v ++ l) (sym (ap (λ n. map (λ place. Int (sum_at place has.group)) (range_with_len (min groups width) n)) no_sums)) ∙ has.is in
        ap (take groups) (sym (take_all (min groups width) has.row (omega (arith, all, wide))) ∙ sym (first_values has.row (min groups width) (omega (arith, all, wide))) ∙ has.key ∙ whole)
    | inr fewer ↦
        let some : min groups width ≡ groups = omega (arith, fewer) in
        ap (λ n. take n has.row) (sym some)
        ∙ sym (first_values has.row (min groups width) (omega (arith, some, fewer, wide)))
        ∙ has.key
        ∙ ap (λ n. take n v) (length-range_with_len 0 (min groups width) ∙ some)
  ]
