-- Groups of rows of one key in a sorted list, and what the rows of one add.
use Rattle.std.proofs.Common.{◌≡◌, ◌≢◌, ℕ, ◌+◌, ◌-◌, ◌<◌, ◌≤◌, ℤ, pos, ◌+ℤ◌, inl, inr, Bool, true, false, ◌&&◌, cond, List, [], ◌∷◌, ◌++◌, length, take, drop, map, get_or, refl, sym, subst, ap, ◌∙◌, arith, length-drop, length-take}
use Rattle.std.specs.Prelude.{All}
use Rattle.std.proofs.Math.Seq.{take-add}
use Rattle.std.specs.Ordering.{ordering_reverse}
use Rattle.std.specs.declared.cmp.Ordering.{Ordering}
use Rattle.std.specs.declared.cmp.Ordering.TheVariants.{Less, Equal, Greater}
use Rattle.std.proofs.lemmas.Bool.{cases_lt, false≢true}
use Rattle.std.proofs.lemmas.Int.{ints}
use Rattle.std.proofs.lemmas.List.{get_or-drop, get_or-take, get_or_default, length-map, take_at}
use Rattle.std.proofs.lemmas.List.Elements.{All-head, All-tail, All-weaker}
use Rattle.tq_base.specs.declared.value.Value.{Value}
use Rattle.tq_base.specs.Contents.{Int}
use Rattle.tq_base.specs.declared.period.Period.{Period}
use Rattle.tq_base.specs.declared.fragment.Fragment.{Fragment}
use Rattle.tq_base.specs.ValueOrder.{values_cmp, values_same, values_total, same_from_eq, eq_from_same}
use Rattle.tq_base.specs.Periods.{holds}
use Rattle.tq_base.specs.Fragments.{copies}
use Rattle.tq_condition.specs.Ordinary.{projection}
use Rattle.tq_base.specs.RowValues.{value_at}
use Rattle.tq_agg.specs.declared.summands.Summand.{Summand}
use Rattle.tq_agg.specs.Grouping.{same_row}
use Rattle.tq_agg.specs.GroupKeys.{key_of, AreOfKey}
use Rattle.tq_agg.specs.Totals.{added, has_rows, shown_copies, total_held, totals_held, weight_of}
use Rattle.tq_agg.proofs.Adding.{added-append}
use Rattle.tq_agg.proofs.Instants.{one_if}
use Rattle.tq_agg.proofs.Maps.{map_same}

-- no group goes on over the place
pub record IsBoundary (keys : List ℕ) (rows : List Fragment) (start : ℕ) : Type 0 where
  pub differs : (d : Fragment) → 0 < start → start < length rows → key_of keys (get_or rows start d) ≢ key_of keys (get_or rows (start - 1) d)

-- no row's key is above that of a later one
pub record RiseByKey (keys : List ℕ) (rows : List Fragment) : Type 0 where
  pub rises : (i j : ℕ) (d : Fragment) → i < j → j < length rows → values_cmp (key_of keys (get_or rows i d)) (key_of keys (get_or rows j d)) ≢ Greater

-- neither is above the other
neither_above : (u v : List Value) → values_cmp u v ≢ Greater → values_cmp v u ≢ Greater → u ≡ v
neither_above u v not_above not_below = split (values_cmp u v) refl
  where
    split : (r : Ordering) → values_cmp u v ≡ r → u ≡ v
    split Less is = absurd (not_below (values_total.antisymm v u ∙ ap ordering_reverse is))
    split Equal is = values_same u v is
    split Greater is = absurd (not_above is)

-- rows before a boundary have other keys than the row at it
apart_before : (keys : List ℕ) (rows : List Fragment) (start : ℕ) → RiseByKey keys rows → IsBoundary keys rows start → start < length rows → (d : Fragment)
    → All (λ r. key_of keys r ≢ key_of keys (get_or rows start d)) (take start rows)
apart_before keys rows start sorted boundary below d k e lt same =
    let before : k < start = omega (arith, length-take start rows) in
    let here : get_or (take start rows) k e ≡ get_or rows k e = get_or-take start rows k e before in
    let a = get_or rows k d in
    let b = get_or rows (start - 1) d in
    let c = get_or rows start d in
    let equal : key_of keys a ≡ key_of keys c = ap (key_of keys) (get_or_default rows k d e (omega arith)) ∙ sym (ap (key_of keys) here) ∙ same in
    let not_above : values_cmp (key_of keys b) (key_of keys c) ≢ Greater = sorted.rises (start - 1) start d (omega (arith, before)) below in
    boundary.differs d (omega (arith, before)) below
    (elim (cases_lt k (start - 1)) [
      | inl far ↦ neither_above (key_of keys c) (key_of keys b) (λ above. sorted.rises k (start - 1) d far (omega (arith, before, below)) (ap (λ u. values_cmp u (key_of keys b)) equal ∙ above)) not_above
      | inr near ↦ sym equal ∙ ap (λ i. key_of keys (get_or rows i d)) (let last : k ≡ start - 1 = omega (arith, before, near) in last)
    ])

-- what is known of the next group of rows of one key, whose first is x
pub record IsRun (keys : List ℕ) (rows : List Fragment) (start len : ℕ) (x : Fragment) : Type 0 where
  pub below : start < length rows
  pub more : 0 < len
  pub within : start + len ≤ length rows
  pub first : x ≡ get_or rows start x
  pub alike : AreOfKey keys (key_of keys x) (take len (drop start rows))
  pub ends : (d : Fragment) → start + len < length rows → key_of keys (get_or rows (start + len) d) ≢ key_of keys x

-- the place after a run
run_ends : (keys : List ℕ) (rows : List Fragment) (start len : ℕ) (x : Fragment) → IsRun keys rows start len x → IsBoundary keys rows (start + len)
run_ends keys rows start len x run = record {
  differs = λ d positive inside same.
      let more : 0 < len = run.more in
      let within : start + len ≤ length rows = run.within in
      let last : get_or (take len (drop start rows)) (len - 1) d ≡ get_or rows (start + len - 1) d =
      get_or-take len (drop start rows) (len - 1) d (omega arith) ∙ get_or-drop start rows (len - 1) d ∙ ap (λ i. get_or rows i d) (omega arith) in
      run.ends d inside (same ∙ sym (ap (key_of keys) last) ∙ run.alike (len - 1) d (omega (arith, length-take len (drop start rows), length-drop start rows)));
}

-- ---- totals of one key

not_equal : (u v : List Value) → u ≢ v → same_row u v ≡ false
not_equal u v differ = split (same_row u v) refl
  where
    split : (b : Bool) → same_row u v ≡ b → b ≡ false
    split true is = absurd (differ (same_from_eq u v is))
    split false is = refl

-- what a row of the key adds; another row adds nothing
abbrev pub of_key : List ℕ → List Value → Summand → List Value → ℤ
of_key keys key s row = cond (same_row (projection keys row) key) (weight_of s row) (pos 0)

module _ (keys : List ℕ) (key : List Value) (window : Period) (t : ℕ) where
  abbrev held_weight : Summand → Fragment → ℤ
  held_weight s r = cond (holds r.period t && holds window t) (of_key keys key s r.values) (pos 0)

  -- what the rows of the key valid at the instant, inside the window, add
  abbrev pub keyed_total : Summand → List Fragment → ℤ
  keyed_total s rows = added (held_weight s) rows

  abbrev pub keyed_totals : List Summand → List Fragment → List ℤ
  keyed_totals summands rows = map (λ s. keyed_total s rows) summands

  alike_total : (s : Summand) (rows : List Fragment) → AreOfKey keys key rows → keyed_total s rows ≡ total_held s window rows t
  alike_total s [] alike = refl
  alike_total s (r ∷ rows) alike =
      let first = eq_from_same (key_of keys r) key (All-head (λ r. key_of keys r ≡ key) r rows alike) in
      let one = ap (λ b. cond (holds r.period t && holds window t) (cond b (weight_of s r.values) (pos 0)) (pos 0)) first in
      omega (arith, ints, one, alike_total s rows (All-tail (λ r. key_of keys r ≡ key) r rows alike))

  apart_total : (s : Summand) (rows : List Fragment) → All (λ r. key_of keys r ≢ key) rows → keyed_total s rows ≡ pos 0
  apart_total s [] apart = refl
  apart_total s (r ∷ rows) apart =
      let first = not_equal (key_of keys r) key (All-head (λ r. key_of keys r ≢ key) r rows apart) in
      let one = ap (λ b. cond (holds r.period t && holds window t) (cond b (weight_of s r.values) (pos 0)) (pos 0)) first in
      omega (arith, ints, one, nothing (holds r.period t && holds window t), apart_total s rows (All-tail (λ r. key_of keys r ≢ key) r rows apart))
    where
      nothing : (b : Bool) → cond b (pos 0) (pos 0) ≡ pos 0
      nothing true = refl
      nothing false = refl

  append_total : (s : Summand) (rows others : List Fragment) → keyed_total s (rows ++ others) ≡ keyed_total s rows +ℤ keyed_total s others
  append_total s rows others = added-append (held_weight s) rows others

  -- after rows of other keys come rows of the key
  pub totals_begin : (summands : List Summand) (rows others : List Fragment) → All (λ r. key_of keys r ≢ key) rows → AreOfKey keys key others → keyed_totals summands (rows ++ others) ≡ totals_held summands window others t
  totals_begin summands rows others apart alike =
      map_same (λ s. keyed_total s (rows ++ others)) (λ s. total_held s window others t) summands
      (λ k d lt. omega (arith, ints, append_total (get_or summands k d) rows others, apart_total (get_or summands k d) rows apart, alike_total (get_or summands k d) others alike))

  -- rows of another key come last
  pub totals_stay : (summands : List Summand) (rows others : List Fragment) → All (λ r. key_of keys r ≢ key) others → keyed_totals summands (rows ++ others) ≡ keyed_totals summands rows
  totals_stay summands rows others apart =
      map_same (λ s. keyed_total s (rows ++ others)) (λ s. keyed_total s rows) summands
      (λ k d lt. omega (arith, ints, append_total (get_or summands k d) rows others, apart_total (get_or summands k d) others apart))

  -- no row has the key
  pub totals_none : (summands : List Summand) (rows : List Fragment) → All (λ r. key_of keys r ≢ key) rows → keyed_totals summands rows ≡ map (λ s. pos 0) summands
  totals_none summands rows apart =
      map_same (λ s. keyed_total s rows) (λ s. pos 0) summands (λ k d lt. apart_total (get_or summands k d) rows apart)

-- in any case nothing
pub nothing : (b : Bool) → let none : ℕ = 0 in cond b none none ≡ none
nothing true = refl
nothing false = refl

pub none_shown : (key : List Value) (summands : List Summand) (v : List Value) → shown_copies key (map (λ s. pos 0) summands) v ≡ 0
none_shown key [] v = refl
none_shown key (s ∷ summands) v = refl

-- rows of one key are no rows of another
pub other_shown : (key : List Value) (n : ℕ) (totals : List ℤ) (v : List Value) → length key ≡ n → key ≢ take n v → shown_copies key totals v ≡ 0
other_shown key n totals v long differ =
    ap (λ b. cond (has_rows totals) (one_if b) 0) (not_equal (key ++ map Int totals) v (λ same. differ (sym (take_at key (map Int totals) n long) ∙ ap (take n) same))) ∙ nothing (has_rows totals)

-- ---- the pass

-- the rows before the place are counted, and no group goes on over it
pub record Grouping (keys : List ℕ) (summands : List Summand) (window : Period) (rows : List Fragment) (start : ℕ) (out : List Fragment) : Type 0 where
  pub counted : (t : ℕ) (v : List Value) → copies out v t
      ≡ cond (holds window t) (shown_copies (take (length keys) v) (keyed_totals keys (take (length keys) v) window t summands (take start rows)) v) 0
  pub boundary : IsBoundary keys rows start
  pub within : start ≤ length rows

pub adds_group : (keys : List ℕ) (summands : List Summand) (window : Period) (rows : List Fragment) (start len : ℕ) (out new : List Fragment) (x : Fragment) → RiseByKey keys rows → IsRun keys rows start len x
    → ((t : ℕ) (v : List Value) → copies new v t ≡ copies out v t + cond (holds window t) (shown_copies (key_of keys x) (totals_held summands window (take len (drop start rows)) t) v) 0)
    → Grouping keys summands window rows start out → Grouping keys summands window rows (start + len) new
adds_group keys summands window rows start len out new x sorted run adds w = record {
  counted = λ t v. split t v (same_row (key_of keys x) (take (length keys) v)) refl;
  boundary = run_ends keys rows start len x run;
  within = run.within;
}
  where
    apart_done : All (λ r. key_of keys r ≢ key_of keys x) (take start rows)
    apart_done = subst (λ y. All (λ r. key_of keys r ≢ key_of keys y) (take start rows)) (sym run.first) (apart_before keys rows start sorted w.boundary run.below x)

    split : (t : ℕ) (v : List Value) (b : Bool) → same_row (key_of keys x) (take (length keys) v) ≡ b
        → copies new v t ≡ cond (holds window t) (shown_copies (take (length keys) v) (keyed_totals keys (take (length keys) v) window t summands (take (start + len) rows)) v) 0
    split t v true equal =
        let same : key_of keys x ≡ take (length keys) v = same_from_eq (key_of keys x) (take (length keys) v) equal in
        let apart = subst (λ k. All (λ r. key_of keys r ≢ k) (take start rows)) same apart_done in
        let alike' = subst (λ k. AreOfKey keys k (take len (drop start rows))) same run.alike in
        let before = ap (λ l. cond (holds window t) (shown_copies (take (length keys) v) l v) 0) (totals_none keys (take (length keys) v) window t summands (take start rows) apart) in
        let none = ap (λ m. cond (holds window t) m 0) (none_shown (take (length keys) v) summands v) in
        let after = ap (λ l. cond (holds window t) (shown_copies (take (length keys) v) (keyed_totals keys (take (length keys) v) window t summands l) v) 0) (take-add start len rows) in
        let there = ap (λ l. cond (holds window t) (shown_copies (take (length keys) v) l v) 0) (totals_begin keys (take (length keys) v) window t summands (take start rows) (take len (drop start rows)) apart alike') in
        let of_v = ap (λ key. cond (holds window t) (shown_copies key (totals_held summands window (take len (drop start rows)) t) v) 0) same in
        omega (arith, adds t v, w.counted t v, before, none, nothing (holds window t), after, there, of_v)
    split t v false differ =
        let differs : key_of keys x ≢ take (length keys) v = λ same. false≢true (sym differ ∙ eq_from_same (key_of keys x) (take (length keys) v) same) in
        let apart = All-weaker (λ r. key_of keys r ≡ key_of keys x) (λ r. key_of keys r ≢ take (length keys) v) (λ r of_x same. differs (sym of_x ∙ same)) (take len (drop start rows)) run.alike in
        let after = ap (λ l. cond (holds window t) (shown_copies (take (length keys) v) (keyed_totals keys (take (length keys) v) window t summands l) v) 0) (take-add start len rows) in
        let stay = ap (λ l. cond (holds window t) (shown_copies (take (length keys) v) l v) 0) (totals_stay keys (take (length keys) v) window t summands (take start rows) (take len (drop start rows)) apart) in
        let other = ap (λ m. cond (holds window t) m 0) (other_shown (key_of keys x) (length keys) (totals_held summands window (take len (drop start rows)) t) v (length-map keys (value_at x.values)) differs) in
        omega (arith, adds t v, w.counted t v, after, stay, other, nothing (holds window t))
