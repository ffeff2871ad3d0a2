-- The next bounds of a list in order, and how many of them come by an instant.
use Rattle.std.proofs.Common.{◌≡◌, ℕ, ◌+◌, ◌<◌, ◌≤◌, inl, inr, true, List, [], ◌∷◌, length, take, drop, get_or, refl, sym, subst, ap, ◌∙◌, arith, length-drop}
use Rattle.std.specs.Prelude.{All, None, Option, Some, min, slice_get}
use Rattle.std.specs.Ordering.{is_gt, nat_cmp}
use Rattle.std.proofs.lemmas.Bool.{cases_lt}
use Rattle.std.proofs.lemmas.Bool.Decides.{nat_tests}
use Rattle.std.proofs.lemmas.List.{get_or-drop, take_more}
use Rattle.std.proofs.lemmas.List.Elements.{All-push}
use Rattle.std.proofs.lemmas.Option.{get_or_from_slice_get, none-some, same_Some, slice_get-get_or, slice_get_within}
use Rattle.tq_agg.specs.Endpoints.{earlier, AreUpTo}
use Rattle.tq_agg.proofs.Starts.{IsAtFront}

pub lt_from_gt : (a b : ℕ) → is_gt (nat_cmp a b) ≡ true → b < a
lt_from_gt a b is = grind (arith, nat_tests)

module _ (bounds : List ℕ) (place len : ℕ) where
  pub bound_there : (b : ℕ) → Some b ≡ slice_get bounds (place + len) → (len < length (drop place bounds)) × ((d : ℕ) → get_or (drop place bounds) len d ≡ b)
  bound_there b is = (
    omega (arith, length-drop place bounds, slice_get_within bounds (place + len) b (sym is)),
    λ d. get_or-drop place bounds len d ∙ get_or_from_slice_get bounds (place + len) b d (sym is),
  )

  none_there : None ≡ slice_get bounds (place + len) → length (drop place bounds) ≤ len
  none_there is = elim (cases_lt (place + len) (length bounds)) [
    | inl lt ↦ absurd (none-some (get_or bounds (place + len) 0) (is ∙ slice_get-get_or bounds (place + len) 0 lt))
    | inr past ↦ omega (arith, past, length-drop place bounds)
  ]

  module _ (at : ℕ) (by : All (λ b. b ≤ at) (take len (drop place bounds))) where
    -- one more comes by the instant
    pub one_more : (b : ℕ) → Some b ≡ slice_get bounds (place + len) → b ≤ at → All (λ b. b ≤ at) (take (len + 1) (drop place bounds))
    one_more b is le =
        let there = bound_there b is in
        subst (All (λ b. b ≤ at)) (sym (take_more (drop place bounds) len 0 there.0))
        (All-push (λ b. b ≤ at) (take len (drop place bounds)) (get_or (drop place bounds) len 0) by (omega (arith, le, there.1 0)))

    -- the next one does not
    pub up_to_later : (b : ℕ) → Some b ≡ slice_get bounds (place + len) → at < b → AreUpTo at (drop place bounds) len
    up_to_later b is lt =
        let there = bound_there b is in
        (omega (arith, there.0), by, λ d more. omega (arith, lt, there.1 d))

    -- there is no next one
    pub up_to_last : None ≡ slice_get bounds (place + len) → len ≤ length (drop place bounds) → AreUpTo at (drop place bounds) len
    up_to_last is within = (within, by, λ d some. absurd (omega (arith, some, none_there is)))

-- ---- at the front

module _ (bounds : List ℕ) (place : ℕ) where
  here : slice_get bounds place ≡ slice_get bounds (place + 0)
  here = ap (slice_get bounds) (let same : place ≡ place + 0 = omega arith in same)

  first_there : (b : ℕ) → Some b ≡ slice_get bounds place → (0 < length (drop place bounds)) × ((d : ℕ) → get_or (drop place bounds) 0 d ≡ b)
  first_there b is = bound_there bounds place 0 b (is ∙ here)

  no_first : None ≡ slice_get bounds place → length (drop place bounds) ≤ 0
  no_first is = none_there bounds place 0 (is ∙ here)

no_items : (xs : List ℕ) → length xs ≤ 0 → xs ≡ []
no_items [] le = refl
no_items (x ∷ xs) le = absurd (omega (arith, le))

module _ (starts ends : List ℕ) (begun ended : ℕ) where
  -- the earlier of the next start and the next end
  pub at_front : (at : ℕ) (start end : Option ℕ) → start ≡ slice_get starts begun → end ≡ slice_get ends ended → Some at ≡ earlier start end → IsAtFront at (drop begun starts) (drop ended ends)
  at_front at None None is_start is_end is = cc
  at_front at None (Some e) is_start is_end is =
      let same : at ≡ e = same_Some at e is in
      let there = first_there ends ended e is_end in (
        λ d some. absurd (omega (arith, some, no_first starts begun is_start)),
        λ d some. omega (arith, same, there.1 d),
        inr (λ d. (there.0, omega (arith, same, there.1 d))),
      )
  at_front at (Some s) None is_start is_end is =
      let same : at ≡ s = same_Some at s is in
      let there = first_there starts begun s is_start in (
        λ d some. omega (arith, same, there.1 d),
        λ d some. absurd (omega (arith, some, no_first ends ended is_end)),
        inl (λ d. (there.0, omega (arith, same, there.1 d))),
      )
  at_front at (Some s) (Some e) is_start is_end is =
      let same : at ≡ min s e = same_Some at (min s e) is in
      let start = first_there starts begun s is_start in
      let end = first_there ends ended e is_end in (
        λ d some. omega (arith, same, start.1 d),
        λ d some. omega (arith, same, end.1 d),
        elim (cases_lt e s) [
          | inl before ↦ inr (λ d. (end.0, omega (arith, same, before, end.1 d)))
          | inr after ↦ inl (λ d. (start.0, omega (arith, same, after, start.1 d)))
        ],
      )

  -- there are none
  pub none_left : (start end : Option ℕ) → start ≡ slice_get starts begun → end ≡ slice_get ends ended → None ≡ earlier start end → (drop begun starts ≡ []) × (drop ended ends ≡ [])
  none_left None None is_start is_end is = (no_items (drop begun starts) (no_first starts begun is_start), no_items (drop ended ends) (no_first ends ended is_end))
  none_left None (Some e) is_start is_end is = cc
  none_left (Some s) None is_start is_end is = cc
  none_left (Some s) (Some e) is_start is_end is = cc
