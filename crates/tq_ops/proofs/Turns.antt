-- Runs of sorted keys are the groups of their rows.
use Rattle.std.proofs.Common.{◌≡◌, ◌≢◌, ℕ, ◌+◌, ◌<◌, ◌≤◌, Bool, true, false, cond, sum_by, ◌&&◌, List, ◌++◌, length, take, drop, get_or, map, refl, sym, ap, ◌∙◌, subst, arith, length-drop}
use Rattle.std.specs.Prelude.{All}
use Rattle.std.specs.Ordering.{eq_by_cmp}
use Rattle.std.specs.List.{take-map}
use Rattle.std.proofs.lemmas.List.{drop-map, get_or-drop, get_or-map, length-map}
use Rattle.std.proofs.lemmas.List.Elements.{All-drop, All-map, All-take}
use Rattle.std.proofs.lemmas.List.Sorted.{sum_by-IsPermutation}
use Rattle.tq_base.specs.declared.value.Value.{Value}
use Rattle.tq_base.specs.declared.period.Period.{Period}
use Rattle.tq_base.specs.declared.fragment.Fragment.{Fragment}
use Rattle.tq_base.specs.declared.sort_input.SortKey.{SortKey}
use Rattle.tq_base.specs.declared.sort_input.RunStart.TheVariants.{Unknown}
use Rattle.tq_base.specs.declared.sort_input.Side.{Side}
use Rattle.tq_base.specs.declared.sort_input.Side.TheVariants.{Left, Right}
use Rattle.tq_base.specs.Keys.{held, held_on, is_overlap, is_same_side, key_row, key_values, overlapping, rows_on, Held, Rises, SortInputState}
use Rattle.tq_base.specs.ValueOrder.{values_cmp}
use Rattle.tq_base.specs.Periods.{holds}
use Rattle.tq_base.specs.Copies.{tally, copies-sum_by}
use Rattle.tq_base.specs.Fragments.{copies}
use Rattle.tq_ops.specs.Differences.{side_copies, AddsDifference, AreKeysOfBoth, AreOfValues}
use Rattle.tq_ops.proofs.Counting.{one_if, sum_by-same, sum_by-zero}
use Rattle.tq_ops.proofs.Cutting.{holds_not_both}
use Rattle.tq_ops.proofs.Grouping.{adds_group, group_ends, item_at, AreSorted, Grouping}
use Rattle.tq_ops.proofs.Products.{sum_by-overlapping, sum_by-side}

abbrev no_key : SortKey
no_key = record { prefix = 0; start = 0; row = 0; side = Left; run_start = Unknown }

module _ (s : SortInputState) (keys : List SortKey) (whole : All (λ k. key_values s k ≡ (key_row s k).values) keys) where
  -- the row of a key
  row_of : (i : ℕ) (d : Held) → i < length keys → get_or (map (held s) keys) i d ≡ held s (get_or keys i no_key)
  row_of i d lt = get_or-map (held s) keys i no_key d lt

  pub sorted : Rises s keys → AreSorted (map (held s) keys)
  sorted rising i j d before below above =
      let short : j < length keys = omega (arith, below, length-map keys (held s)) in
      let a = get_or keys i no_key in
      let b = get_or keys j no_key in
      rising i j no_key before short
      (ap (λ u. values_cmp u (key_values s b)) (whole i no_key (omega (arith, before, short))) ∙ ap (values_cmp (key_row s a).values) (whole j no_key short)
      ∙ sym (ap (λ (r : Held). values_cmp r.row.values (key_row s b).values) (row_of i d (omega (arith, before, short)))) ∙ sym (ap (λ (r : Held). values_cmp (get_or (map (held s) keys) i d).row.values r.row.values) (row_of j d short)) ∙ above)

  -- what a run means for the rows from a position on
  module _ (start len : ℕ) (below : start < length keys) (within : len ≤ length (drop start keys))
      (alike : (d : SortKey) → All (λ k. key_values s k ≡ key_values s (get_or (drop start keys) 0 d)) (take len (drop start keys)))
      (ends : (d : SortKey) → len < length (drop start keys) → key_values s (get_or (drop start keys) len d) ≢ key_values s (get_or (drop start keys) 0 d)) where
    some_key : 0 < length (drop start keys)
    some_key = omega (arith, below, length-drop start keys)

    -- the row at a position after the start
    from_start : (i : ℕ) (d : Held) → i < length (drop start keys) → get_or (drop start (map (held s) keys)) i d ≡ held s (get_or (drop start keys) i no_key)
    from_start i d lt = ap (λ l. get_or l i d) (drop-map (held s) start keys) ∙ get_or-map (held s) (drop start keys) i no_key d lt

    whole_from : All (λ k. key_values s k ≡ (key_row s k).values) (drop start keys)
    whole_from = All-drop (λ k. key_values s k ≡ (key_row s k).values) start keys whole

    pub within_rows : len ≤ length (drop start (map (held s) keys))
    within_rows = subst (λ n. len ≤ n) (sym (ap length (drop-map (held s) start keys) ∙ length-map (drop start keys) (held s))) within

    pub group_is : take len (drop start (map (held s) keys)) ≡ map (held s) (take len (drop start keys))
    group_is = ap (take len) (drop-map (held s) start keys) ∙ take-map (held s) len (drop start keys)

    pub alike_rows : (d : Held) → AreOfValues (get_or (drop start (map (held s) keys)) 0 d).row.values (take len (drop start (map (held s) keys)))
    alike_rows d =
        let first : (get_or (drop start (map (held s) keys)) 0 d).row.values ≡ key_values s (get_or (drop start keys) 0 no_key) =
        ap (λ (r : Held). r.row.values) (from_start 0 d some_key) ∙ sym (whole_from 0 no_key some_key) in
        subst (AreOfValues (get_or (drop start (map (held s) keys)) 0 d).row.values) (sym group_is)
        (All-map (λ (r : Held). r.row.values ≡ (get_or (drop start (map (held s) keys)) 0 d).row.values) (held s) (take len (drop start keys))
        (λ k e lt. sym (All-take (λ k. key_values s k ≡ (key_row s k).values) len (drop start keys) whole_from k e lt) ∙ alike no_key k e lt ∙ sym first))

    pub ends_rows : (d : Held) → len < length (drop start (map (held s) keys)) → (get_or (drop start (map (held s) keys)) len d).row.values ≢ (get_or (drop start (map (held s) keys)) 0 d).row.values
    ends_rows d more same =
        let lt : len < length (drop start keys) = subst (λ n. len < n) (ap length (drop-map (held s) start keys) ∙ length-map (drop start keys) (held s)) more in
        ends no_key lt
        (whole_from len no_key lt ∙ sym (ap (λ (r : Held). r.row.values) (from_start len d lt)) ∙ same ∙ ap (λ (r : Held). r.row.values) (from_start 0 d some_key) ∙ sym (whole_from 0 no_key some_key))

    -- the group of the run is added to the difference
    pub adds_run : (window : Period) (out new : List Fragment) → Rises s keys
        → ((v : List Value) → AreOfValues v (take len (drop start (map (held s) keys))) → AddsDifference window (take len (drop start (map (held s) keys))) v out new)
        → Grouping window (map (held s) keys) start out → Grouping window (map (held s) keys) (start + len) new
    adds_run window out new rising adds w =
        let rows = map (held s) keys in
        let inside : start < length rows = omega (arith, below, length-map keys (held s)) in
        let (x, is) = item_at rows start inside in
        let first : get_or (drop start rows) 0 x ≡ x = get_or-drop start rows 0 x ∙ ap (λ i. get_or rows i x) (omega arith) ∙ sym is in
        let alike_x : AreOfValues x.row.values (take len (drop start rows)) = subst (λ (y : Held). AreOfValues y.row.values (take len (drop start rows))) first (alike_rows x) in
        adds_group window rows start len out new x (sorted rising) inside is (omega (arith, within_rows, length-drop start rows)) alike_x
        (group_ends rows start len within_rows alike_rows ends_rows inside) (adds x.row.values alike_x) w

-- ---- counts of the rows of a side

both : (h e : Bool) → one_if ((h && true) && e) ≡ cond h (one_if e) 0
both true e = refl
both false e = refl

neither : (h e : Bool) → one_if ((h && false) && e) ≡ 0
neither true e = refl
neither false e = refl

module _ (s : SortInputState) (window : Period) (keys : List SortKey) (are : AreKeysOfBoth s window keys) (t : ℕ) (v : List Value) where
  abbrev counted_as : Side → Held → ℕ
  counted_as side r = one_if ((is_same_side side r.side && (holds r.row.period t && holds window t)) && eq_by_cmp values_cmp r.row.values v)

  apart_side : (a b c : Bool) → one_if ((a && b) && c) ≡ cond a (one_if (b && c)) 0
  apart_side true b c = refl
  apart_side false b c = refl

  none : (f : Fragment) → is_overlap f.period window ≡ false → one_if ((holds f.period t && holds window t) && eq_by_cmp values_cmp f.values v) ≡ 0
  none f apart = ap (λ b. one_if (b && eq_by_cmp values_cmp f.values v)) (holds_not_both f.period window t apart)

  inside : (b : Bool) (fs : List Fragment) → sum_by (λ (f : Fragment). one_if ((holds f.period t && b) && eq_by_cmp values_cmp f.values v)) fs ≡ cond b (sum_by (tally v t) fs) 0
  inside true fs = sum_by-same (λ (f : Fragment). one_if ((holds f.period t && true) && eq_by_cmp values_cmp f.values v)) (tally v t) (λ f. both (holds f.period t) (eq_by_cmp values_cmp f.values v)) fs
  inside false fs = sum_by-same (λ (f : Fragment). one_if ((holds f.period t && false) && eq_by_cmp values_cmp f.values v)) (λ (f : Fragment). 0) (λ f. neither (holds f.period t) (eq_by_cmp values_cmp f.values v)) fs ∙ sum_by-zero fs

  abbrev own : Fragment → ℕ
  own f = one_if ((holds f.period t && holds window t) && eq_by_cmp values_cmp f.values v)

  pub side_counts : (side : Side) (rows : List Fragment) → rows ≡ rows_on s side → side_copies window side (map (held s) keys) v t ≡ cond (holds window t) (copies rows v t) 0
  side_counts side rows is =
      sum_by-IsPermutation (counted_as side) (held_on Left (overlapping window s.left) ++ held_on Right (overlapping window s.right)) (map (held s) keys) are.rows
      ∙ sum_by-same (counted_as side) (λ (r : Held). cond (is_same_side side r.side) (own r.row) 0)
      (λ r. apart_side (is_same_side side r.side) (holds r.row.period t && holds window t) (eq_by_cmp values_cmp r.row.values v)) (held_on Left (overlapping window s.left) ++ held_on Right (overlapping window s.right))
      ∙ parted side
      ∙ sum_by-overlapping window own none (rows_on s side) ∙ ap (sum_by own) (sym is) ∙ inside (holds window t) rows
      ∙ ap (λ n. cond (holds window t) n 0) (sym (copies-sum_by rows v t))
    where
      parted : (side : Side) → sum_by (λ (r : Held). cond (is_same_side side r.side) (own r.row) 0) (held_on Left (overlapping window s.left) ++ held_on Right (overlapping window s.right)) ≡ sum_by own (overlapping window (rows_on s side))
      parted Left = sum_by-side Left own (overlapping window s.left) (overlapping window s.right) (overlapping window s.left) refl
      parted Right = sum_by-side Right own (overlapping window s.left) (overlapping window s.right) (overlapping window s.right) refl
