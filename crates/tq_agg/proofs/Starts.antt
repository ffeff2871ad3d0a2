-- The invariant of a sweep over starts and ends: it holds before the first bound, and each step preserves it.
use Rattle.std.proofs.Common.{◌≡◌, ℕ, ℤ, ◌+◌, ◌-◌, ◌<◌, ◌≤◌, inl, inr, Bool, ◌&&◌, cond, nat_le, nat_lt, List, [], ◌∷◌, length, take, drop, get_or, refl, sym, subst, ap, ◌∙◌, arith, length-drop, length-take}
use Rattle.std.specs.Prelude.{◌⊎◌, All}
use Rattle.std.proofs.Math.Seq.{take-add}
use Rattle.std.proofs.lemmas.Bool.{cases_lt}
use Rattle.std.proofs.lemmas.Bool.Decides.{nat_tests}
use Rattle.std.proofs.lemmas.List.{take-append-drop, get_or-drop}
use Rattle.std.proofs.lemmas.List.Sums.{sum_by-append}
use Rattle.std.proofs.lemmas.List.Elements.{All-nil, All-head, All-tail, All-append, All-weaker}
use Rattle.std.proofs.lemmas.List.Sorted.{IsNonDecreasingBy-from_sort}
use Rattle.tq_base.specs.declared.value.Value.{Value}
use Rattle.tq_base.specs.declared.period.Period.{Period}
use Rattle.tq_base.specs.declared.fragment.Fragment.{Fragment}
use Rattle.tq_base.specs.Periods.{holds}
use Rattle.tq_base.specs.Fragments.{copies}
use Rattle.tq_base.specs.Sweep.{upto, upto-cons, upto_none, all_after, Rises}
use Rattle.tq_agg.specs.Endpoints.{AreEndpoints, AreInOrder, AreUpTo}
use Rattle.tq_agg.specs.Totals.{result_copies}

-- the rows up to a bound, and those of the totals from there to a later one
pub extended : (from since to t x y : ℕ) → from ≤ since → since ≤ to → (since ≤ t → t < to → x ≡ y)
    → cond (nat_le from t && nat_lt t since) x 0 + cond (nat_le since t && nat_lt t to) y 0 ≡ cond (nat_le from t && nat_lt t to) x 0
extended from since to t x y low high same = elim (cases_lt t since) [
  | inl before ↦ grind (arith, nat_tests)
  | inr past ↦ elim (cases_lt t to) [
    | inl inside ↦ let is = same past inside in grind (arith, nat_tests)
    | inr late ↦ grind (arith, nat_tests)
  ]
]

-- ---- one list of bounds in order, passed up to a place

upto_all : (bounds : List ℕ) (t : ℕ) → All (λ b. b ≤ t) bounds → upto bounds t ≡ length bounds
upto_all [] t by = refl
upto_all (b ∷ bounds) t by =
    let first : b ≤ t = All-head (λ b. b ≤ t) b bounds by in
    let rest = upto_all bounds t (All-tail (λ b. b ≤ t) b bounds by) in
    let sum = upto-cons b bounds t in
    grind (arith, nat_tests)

-- the bounds before the place come by the last, the others not before it
pub record Reached (bounds : List ℕ) (last place : ℕ) : Type 0 where
  pub within : place ≤ length bounds
  pub by : All (λ b. b ≤ last) (take place bounds)
  pub ahead : All (λ b. last ≤ b) (drop place bounds)

-- this is the number of bounds up to an instant before all others
reached_upto : (bounds : List ℕ) (last place : ℕ) → Reached bounds last place → (t : ℕ) → last ≤ t → All (λ b. t < b) (drop place bounds) → upto bounds t ≡ place
reached_upto bounds last place r t past later =
    let whole = ap (λ l. upto l t) (take-append-drop place bounds) in
    let parts = sum_by-append (λ b. cond (nat_le b t) 1 0) (take place bounds) (drop place bounds) in
    let front = upto_all (take place bounds) t (All-weaker (λ b. b ≤ last) (λ b. b ≤ t) (λ b le. omega (arith, le, past)) (take place bounds) r.by) in
    omega (arith, whole, parts, front, upto_none (drop place bounds) t later, length-take place bounds, r.within)

pub sorted_rise : (window : Period) (bounds : List ℕ) → AreEndpoints window bounds → AreInOrder window bounds
sorted_rise window bounds in_order = (λ i j d lt below. IsNonDecreasingBy-from_sort (λ (b : ℕ). b) bounds in_order.0 i j d (omega (arith, lt)) below, in_order.1)

module _ (window : Period) (bounds : List ℕ) (in_order : AreInOrder window bounds) where
  rest_rises : (place : ℕ) → Rises (drop place bounds)
  rest_rises place i j d lt below =
      let there : place + j < length bounds = omega (arith, length-drop place bounds, below) in
      let order = in_order.0 (place + i) (place + j) d (omega (arith, lt)) there in
      omega (arith, order, get_or-drop place bounds i d, get_or-drop place bounds j d)

  -- all left are later if the first of them is
  later : (place t : ℕ) → ((d : ℕ) → 0 < length (drop place bounds) → t < get_or (drop place bounds) 0 d) → All (λ b. t < b) (drop place bounds)
  later place t first =
      all_after bounds place t (rest_rises place)
      (λ below. let is = first 0 (omega (arith, length-drop place bounds, below)) in omega (arith, is, get_or-drop place bounds 0 0, ap (λ i. get_or bounds i 0) (there place)))
    where
      there : (place : ℕ) → place + 0 ≡ place
      there place = omega arith

  module _ (last place at len : ℕ) (r : Reached bounds last place) (past : last ≤ at) (within : len ≤ length (drop place bounds))
      (by : All (λ b. b ≤ at) (take len (drop place bounds))) (then : (d : ℕ) → len < length (drop place bounds) → at < get_or (drop place bounds) len d) where
    then_later : All (λ b. at < b) (drop (place + len) bounds)
    then_later =
        later (place + len) at
        (λ d below. let is = then d (omega (arith, length-drop place bounds, length-drop (place + len) bounds, below)) in
        omega (arith, is, get_or-drop place bounds len d, get_or-drop (place + len) bounds 0 d, ap (λ i. get_or bounds i d) there))
      where
        there : place + len + 0 ≡ place + len
        there = omega arith

    reaches : Reached bounds at (place + len)
    reaches = record {
      within = omega (arith, length-drop place bounds, within, r.within);
      by =
          subst (All (λ b. b ≤ at)) (sym (take-add place len bounds))
          (All-append (λ b. b ≤ at) (take place bounds) (take len (drop place bounds)) (All-weaker (λ b. b ≤ last) (λ b. b ≤ at) (λ b le. omega (arith, le, past)) (take place bounds) r.by) by);
      ahead = All-weaker (λ b. at < b) (λ b. at ≤ b) (λ b lt. omega (arith, lt)) (drop (place + len) bounds) then_later;
    }

-- the copies of a row that the totals have after that many starts and ends
abbrev pub totals_shown : Bool → List Value → (ℕ → ℕ → List ℤ) → ℕ → ℕ → List Value → ℕ
totals_shown shows_zero key totals begun ended v = result_copies shows_zero key (totals begun ended) v

-- the bound is the first of a list, and not after the first of the other
abbrev pub IsAtFront : ℕ → List ℕ → List ℕ → Type 0
IsAtFront at starts ends =
    ((d : ℕ) → 0 < length starts → at ≤ get_or starts 0 d)
    × ((d : ℕ) → 0 < length ends → at ≤ get_or ends 0 d)
    × (((d : ℕ) → (0 < length starts) × (get_or starts 0 d ≤ at)) ⊎ ((d : ℕ) → (0 < length ends) × (get_or ends 0 d ≤ at)))

-- ---- both lists

-- between two bounds of a sweep, up to `last`: the result rows before `since` are in the list, and those from there on are the
-- same until the next bound
pub record Counting (shown : ℕ → ℕ → List Value → ℕ) (starts ends : List ℕ) (window : Period) (old : List Fragment) (begun ended since : ℕ) (out : List Fragment) : Type 0 where
  pub last : ℕ
  pub counted : (t : ℕ) (v : List Value) → copies out v t ≡ copies old v t + cond (nat_le window.start t && nat_lt t since) (shown (upto starts t) (upto ends t) v) 0
  pub settled : (t : ℕ) (v : List Value) → since ≤ t → All (λ b. t < b) (drop begun starts) → All (λ b. t < b) (drop ended ends) → shown (upto starts t) (upto ends t) v ≡ shown begun ended v
  pub starts_reached : Reached starts last begun
  pub ends_reached : Reached ends last ended
  pub from : window.start ≤ since
  pub behind : since ≤ last
  pub until : since ≤ window.end

module _ (shown : ℕ → ℕ → List Value → ℕ) (starts ends : List ℕ) (window : Period) (old : List Fragment) (starts_in_order : AreInOrder window starts) (ends_in_order : AreInOrder window ends) where
  -- no bound is passed yet
  nothing_reached : (bounds : List ℕ) → AreInOrder window bounds → Reached bounds window.start 0
  nothing_reached bounds in_order = record {
    within = omega arith;
    by = All-nil (λ b. b ≤ window.start);
    ahead = All-weaker (λ (b : ℕ). (window.start ≤ b) × (b ≤ window.end)) (λ b. window.start ≤ b) (λ b is. is.0) bounds in_order.1;
  }

  pub begins : Counting shown starts ends window old 0 0 window.start old
  begins =
      let ordered : window.start < window.end = window.ordered in
      record {
        last = window.start;
        counted = λ t v. nothing (shown (upto starts t) (upto ends t) v) t (copies old v t);
        settled = λ t v past starts_later ends_later.
            ap (λ n. shown n (upto ends t) v) (upto_none starts t starts_later) ∙ ap (λ n. shown 0 n v) (upto_none ends t ends_later);
        starts_reached = nothing_reached starts starts_in_order;
        ends_reached = nothing_reached ends ends_in_order;
        from = omega arith;
        behind = omega arith;
        until = omega (arith, ordered);
      }
    where
      nothing : (x t n : ℕ) → n ≡ n + cond (nat_le window.start t && nat_lt t window.start) x 0
      nothing x t n = grind (arith, nat_tests)

  module _ (begun ended since at : ℕ) (out : List Fragment) (w : Counting shown starts ends window old begun ended since out) (front : IsAtFront at (drop begun starts) (drop ended ends)) where
    -- the bound at the front is one that is left
    from_last : (bounds : List ℕ) (place : ℕ) → Reached bounds w.last place → ((d : ℕ) → (0 < length (drop place bounds)) × (get_or (drop place bounds) 0 d ≤ at)) → w.last ≤ at
    from_last bounds place r there = let is = there 0 in let ahead = r.ahead 0 0 is.0 in omega (arith, is.1, ahead)

    goes_on : w.last ≤ at
    goes_on = elim front.2 [ inl there ↦ from_last starts begun w.starts_reached there | inr there ↦ from_last ends ended w.ends_reached there ]

    by_end : (bounds : List ℕ) (place : ℕ) → AreInOrder window bounds → ((d : ℕ) → 0 < length (drop place bounds) → at ≤ get_or (drop place bounds) 0 d) → 0 < length (drop place bounds) → at ≤ window.end
    by_end bounds place in_order low some =
        let inside = in_order.1 place 0 (omega (arith, length-drop place bounds, some)) in
        omega (arith, low 0 some, inside.1, get_or-drop place bounds 0 0, ap (λ i. get_or bounds i 0) there)
      where
        there : place + 0 ≡ place
        there = omega arith

    in_window : at ≤ window.end
    in_window = elim front.2 [ inl there ↦ by_end starts begun starts_in_order front.0 (there 0).0 | inr there ↦ by_end ends ended ends_in_order front.1 (there 0).0 ]

    -- up to it nothing changes
    before : (t : ℕ) (v : List Value) → since ≤ t → t < at → shown (upto starts t) (upto ends t) v ≡ shown begun ended v
    before t v past lt =
        w.settled t v past
        (later window starts starts_in_order begun t (λ d some. let low = front.0 d some in omega (arith, low, lt)))
        (later window ends ends_in_order ended t (λ d some. let low = front.1 d some in omega (arith, low, lt)))

    module _ (m n : ℕ) (starts_to : AreUpTo at (drop begun starts) m) (ends_to : AreUpTo at (drop ended ends) n) where
      starts_on : Reached starts at (begun + m)
      starts_on = reaches window starts starts_in_order w.last begun at m w.starts_reached goes_on starts_to.0 starts_to.1 starts_to.2

      ends_on : Reached ends at (ended + n)
      ends_on = reaches window ends ends_in_order w.last ended at n w.ends_reached goes_on ends_to.0 ends_to.1 ends_to.2

      -- from it on that many have begun, and that many have ended
      after : (t : ℕ) (v : List Value) → at ≤ t → All (λ b. t < b) (drop (begun + m) starts) → All (λ b. t < b) (drop (ended + n) ends) → shown (upto starts t) (upto ends t) v ≡ shown (begun + m) (ended + n) v
      after t v past starts_later ends_later =
          ap (λ i. shown i (upto ends t) v) (reached_upto starts at (begun + m) starts_on t past starts_later)
          ∙ ap (λ i. shown (begun + m) i v) (reached_upto ends at (ended + n) ends_on t past ends_later)

      -- the same is shown after them
      pub passes : ((v : List Value) → shown (begun + m) (ended + n) v ≡ shown begun ended v) → Counting shown starts ends window old (begun + m) (ended + n) since out
      passes same = record {
        last = at;
        counted = w.counted;
        settled = λ t v past starts_later ends_later. elim (cases_lt t at) [
          | inl lt ↦ before t v past lt ∙ sym (same v)
          | inr late ↦ after t v late starts_later ends_later
        ];
        starts_reached = starts_on;
        ends_reached = ends_on;
        from = w.from;
        behind = omega (arith, w.behind, goes_on);
        until = w.until;
      }

      -- something else is shown after them, and the rows before were added
      pub turns : (new : List Fragment) → ((t : ℕ) (v : List Value) → copies new v t ≡ copies out v t + cond (nat_le since t && nat_lt t at) (shown begun ended v) 0)
          → Counting shown starts ends window old (begun + m) (ended + n) at new
      turns new more = record {
        last = at;
        counted = λ t v.
            let step = extended window.start since at t (shown (upto starts t) (upto ends t) v) (shown begun ended v) w.from (omega (arith, w.behind, goes_on))
            (λ past lt. before t v past lt) in
            omega (arith, more t v, w.counted t v, step);
        settled = λ t v past starts_later ends_later. after t v past starts_later ends_later;
        starts_reached = starts_on;
        ends_reached = ends_on;
        from = omega (arith, w.from, w.behind, goes_on);
        behind = omega arith;
        until = in_window;
      }

      -- one of the lists is a bound shorter
      pub fewer : (length starts - (begun + m)) + (length ends - (ended + n)) < (length starts - begun) + (length ends - ended)
      fewer = elim front.2 [
        | inl there ↦ let some = moves starts begun m there starts_to.2 in omega (arith, length-drop begun starts, length-drop ended ends, starts_to.0, ends_to.0, some, (there 0).0)
        | inr there ↦ let some = moves ends ended n there ends_to.2 in omega (arith, length-drop begun starts, length-drop ended ends, starts_to.0, ends_to.0, some, (there 0).0)
      ]
        where
          moves : (bounds : List ℕ) (place len : ℕ) → ((d : ℕ) → (0 < length (drop place bounds)) × (get_or (drop place bounds) 0 d ≤ at)) → ((d : ℕ) → len < length (drop place bounds) → at < get_or (drop place bounds) len d) → 0 < len
          moves bounds place len there then = elim (cases_lt 0 len) [
            | inl some ↦ some
            | inr none ↦
                let zero' : len ≡ 0 = omega (arith, none) in
                let is = there 0 in
                absurd (omega (arith, is.1, then 0 (omega (arith, is.0, zero')), ap (λ i. get_or (drop place bounds) i 0) zero'))
          ]

  -- after all bounds, when the last rows were added
  pub ends_with : (begun ended since : ℕ) (out new : List Fragment) → Counting shown starts ends window old begun ended since out → drop begun starts ≡ [] → drop ended ends ≡ []
      → ((t : ℕ) (v : List Value) → copies new v t ≡ copies out v t + cond (nat_le since t && nat_lt t window.end) (shown begun ended v) 0)
      → (t : ℕ) (v : List Value) → copies new v t ≡ copies old v t + cond (holds window t) (shown (upto starts t) (upto ends t) v) 0
  ends_with begun ended since out new w no_starts no_ends more t v =
      let step = extended window.start since window.end t (shown (upto starts t) (upto ends t) v) (shown begun ended v) w.from w.until
      (λ past lt. w.settled t v past (subst (All (λ b. t < b)) (sym no_starts) (All-nil (λ b. t < b))) (subst (All (λ b. t < b)) (sym no_ends) (All-nil (λ b. t < b)))) in
      omega (arith, more t v, w.counted t v, step)
