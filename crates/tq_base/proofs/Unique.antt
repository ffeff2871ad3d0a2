-- Two ordered, coalesced tables with the same copies at each instant are equal.
use Rattle.std.proofs.Common.{◌≡◌, ℕ, suc, ◌+◌, ◌<◌, ◌≤◌, ◌≢◌, Bool, true, false, List, [], ◌∷◌, get_or, sym, refl, ap, ◌∙◌, subst, arith}
use Rattle.std.specs.Prelude.{All, IsSorted}
use Rattle.std.specs.Coded.{le_prop}
use Rattle.std.specs.Ordering.{eq_by_cmp, is_lt, ordering_reverse, ordering_then, nat_cmp}
use Rattle.std.specs.declared.cmp.Ordering.{Ordering}
use Rattle.std.specs.declared.cmp.Ordering.TheVariants.{Less, Equal, Greater}
use Rattle.std.specs.Cmp.{nat_cmp_is}
use Rattle.std.proofs.lemmas.Cmp.{tied_itself}
use Rattle.std.proofs.lemmas.Bool.{cases_lt}
use Rattle.std.proofs.lemmas.Bool.Decides.{nat_tests}
use Rattle.std.proofs.Common.{inl, inr, ◌⊎◌}
use Rattle.std.proofs.lemmas.List.Elements.{All-head, All-tail, All-weaker}
use Rattle.std.proofs.lemmas.List.Sums.{sum_by-cons}
use Rattle.std.proofs.lemmas.List.Sorted.{sorted_far, ranks_by}
use Rattle.tq_base.specs.declared.value.Value.{Value}
use Rattle.tq_base.specs.declared.period.Period.{Period}
use Rattle.tq_base.specs.declared.fragment.Fragment.{Fragment}
use Rattle.tq_base.specs.ValueOrder.{values_cmp, values_total, values_same, same_from_eq, eq_from_same}
use Rattle.tq_base.specs.Periods.{holds}
use Rattle.tq_base.specs.Fragments.{fragment_cmp, fragment_total, copies}
use Rattle.tq_base.specs.Copies.{tally, copies-sum_by}
use Rattle.tq_base.specs.Layers.{TakesIn, IsCoalesced, IsLayers}

-- ---- equal rows

period_at : (q : Period) (a : ℕ) → q.start ≡ a → (o : a < q.end) → record { start = a; end = q.end; ordered = o } ≡ q
period_at q a e =
    subst (λ (x : ℕ). (o : x < q.end) → let p : Period = record { start = x; end = q.end; ordered = o } in p ≡ q) e
    (λ o. ap (λ (w : q.start < q.end). let p : Period = record { start = q.start; end = q.end; ordered = w } in p) (le_prop o q.ordered))

pub period_same : (p q : Period) → p.start ≡ q.start → p.end ≡ q.end → p ≡ q
period_same p q s e =
    subst (λ (x : ℕ). (o : p.start < x) → let r : Period = record { start = p.start; end = x; ordered = o } in r ≡ q) (sym e) (period_at q p.start (sym s)) p.ordered

pub fragment_same : (f g : Fragment) → f.values ≡ g.values → f.period ≡ g.period → f ≡ g
fragment_same f g v p = λ i. record { values = v i; period = p i }

-- ---- copies, row by row

pub copies-cons : (f : Fragment) (fs : List Fragment) (v : List Value) (t : ℕ) → copies (f ∷ fs) v t ≡ tally v t f + copies fs v t
copies-cons f fs v t =
    copies-sum_by (f ∷ fs) v t ∙ sum_by-cons (tally v t) f fs ∙ ap (λ n. tally v t f + n) (sym (copies-sum_by fs v t))

copies-nil : (v : List Value) (t : ℕ) → copies [] v t ≡ 0
copies-nil v t = refl

-- there are no copies if no row with the values is valid at the instant
copies_none : (fs : List Fragment) (v : List Value) (t : ℕ) → All (λ f. tally v t f ≡ 0) fs → copies fs v t ≡ 0
copies_none [] v t h = refl
copies_none (f ∷ fs) v t h =
    omega (arith, copies-cons f fs v t, copies_none fs v t (All-tail (λ f. tally v t f ≡ 0) f fs h), All-head (λ f. tally v t f ≡ 0) f fs h)

copies_le : (fs : List Fragment) (v : List Value) (s t : ℕ) → All (λ f. tally v s f ≤ tally v t f) fs → copies fs v s ≤ copies fs v t
copies_le [] v s t h = omega arith
copies_le (f ∷ fs) v s t h =
    omega (arith, copies-cons f fs v s, copies-cons f fs v t, copies_le fs v s t (All-tail (λ f. tally v s f ≤ tally v t f) f fs h), All-head (λ f. tally v s f ≤ tally v t f) f fs h)

-- the tally of a row is 1 if it has the values and holds the instant
pub tally_one : (v : List Value) (t : ℕ) (f : Fragment) (n : ℕ) → n ≡ tally v t f → f.values ≡ v → f.period.start ≤ t → t < f.period.end → n ≡ 1
tally_one v t f n is same from to =
    let e = eq_from_same f.values v same in
    grind (arith, nat_tests)

pub held_from : (p : Period) (t : ℕ) → holds p t ≡ true → (p.start ≤ t) × (t < p.end)
held_from p t e = (grind (arith, nat_tests), grind (arith, nat_tests))

tally_cases : (v : List Value) (t : ℕ) (f : Fragment) (h b : Bool) → holds f.period t ≡ h → eq_by_cmp values_cmp f.values v ≡ b → (let none : ℕ = 0 in (tally v t f ≡ none) ⊎ ((f.values ≡ v) × (f.period.start ≤ t) × (t < f.period.end)))
tally_cases v t f true true hold same =
    let held = held_from f.period t hold in
    inr (same_from_eq f.values v same, held.0, held.1)
tally_cases v t f true false hold same = inl (rw (hold, same) refl)
tally_cases v t f false b hold same = inl (rw hold refl)

-- a row counts nothing, or it has the values and holds the instant
pub tally_is : (v : List Value) (t : ℕ) (f : Fragment) → (let none : ℕ = 0 in (tally v t f ≡ none) ⊎ ((f.values ≡ v) × (f.period.start ≤ t) × (t < f.period.end)))
tally_is v t f = tally_cases v t f (holds f.period t) (eq_by_cmp values_cmp f.values v) refl refl

-- ---- the order

-- h does not come before f in an ordered table
pub record After (f h : Fragment) : Type 0 where
  pub values_up : values_cmp f.values h.values ≢ Greater
  pub start_up : f.values ≡ h.values → f.period.start ≤ h.period.start
  pub end_up : f.values ≡ h.values → f.period.start ≡ h.period.start → f.period.end ≤ h.period.end

after_from : (f h : Fragment) → is_lt (fragment_cmp h f) ≡ false → After f h
after_from f h up = record {
  values_up = λ above.
      let back : values_cmp h.values f.values ≡ Less = values_total.antisymm h.values f.values ∙ ap ordering_reverse above in
      let less : is_lt (fragment_cmp h f) ≡ true = ap (λ r. is_lt (ordering_then (ordering_then r (nat_cmp h.period.start f.period.start)) (nat_cmp h.period.end f.period.end))) back in
      cc;
  start_up = λ same. starts (tie same) (cases_lt h.period.start f.period.start);
  end_up = λ same at. ends (tie same) at (cases_lt h.period.end f.period.end);
}
  where
    tie : f.values ≡ h.values → values_cmp h.values f.values ≡ Equal
    tie same = subst (λ u. values_cmp u f.values ≡ Equal) same (tied_itself values_total f.values)

    starts : values_cmp h.values f.values ≡ Equal → (h.period.start < f.period.start) ⊎ (f.period.start ≤ h.period.start) → f.period.start ≤ h.period.start
    starts tied (inl before) =
        let less : is_lt (fragment_cmp h f) ≡ true = ap (λ r. is_lt (ordering_then (ordering_then r (nat_cmp h.period.start f.period.start)) (nat_cmp h.period.end f.period.end))) tied ∙ ap (λ r. is_lt (ordering_then r (nat_cmp h.period.end f.period.end))) (sym (nat_cmp_is h.period.start f.period.start Less before)) in
        cc
    starts tied (inr le) = le

    ends : values_cmp h.values f.values ≡ Equal → f.period.start ≡ h.period.start → (h.period.end < f.period.end) ⊎ (f.period.end ≤ h.period.end) → f.period.end ≤ h.period.end
    ends tied at (inl before) =
        let less : is_lt (fragment_cmp h f) ≡ true = ap (λ r. is_lt (ordering_then (ordering_then r (nat_cmp h.period.start f.period.start)) (nat_cmp h.period.end f.period.end))) tied ∙ ap (λ r. is_lt (ordering_then r (nat_cmp h.period.end f.period.end))) (sym (nat_cmp_is h.period.start f.period.start Equal (sym at))) ∙ ap is_lt (sym (nat_cmp_is h.period.end f.period.end Less before)) in
        cc
    ends tied at (inr le) = le

pub head_after : (f : Fragment) (a : List Fragment) → IsSorted fragment_cmp (f ∷ a) → All (λ h. After f h) (f ∷ a)
head_after f a sorted k d lt =
    after_from f (get_or (f ∷ a) k d) (sorted_far (λ x y. is_lt (fragment_cmp x y)) (ranks_by fragment_total (λ x. x)) (f ∷ a) sorted 0 k d (omega arith) lt)

pub sorted_tail : (f : Fragment) (a : List Fragment) → IsSorted fragment_cmp (f ∷ a) → IsSorted fragment_cmp a
sorted_tail f a sorted k d low high =
    let next : suc k + 1 ≡ suc (k + 1) = omega arith in
    subst (λ j. is_lt (fragment_cmp (get_or (f ∷ a) j d) (get_or a k d)) ≡ false) next (sorted (suc k) d (omega arith) (omega arith))

pub coalesced_tail : (f : Fragment) (a : List Fragment) → IsCoalesced (f ∷ a) → IsCoalesced a
coalesced_tail f a coalesced k d lt =
    All-tail (λ g. (get_or a k d).values ≡ g.values → TakesIn (get_or a k d).period g.period) f a (coalesced (suc k) d (omega arith))

-- ---- the first rows of two such tables with the same copies

one_at_start : (f : Fragment) (a : List Fragment) → 0 < copies (f ∷ a) f.values f.period.start
one_at_start f a =
    let ordered : f.period.start < f.period.end = f.period.ordered in
    omega (arith, copies-cons f a f.values f.period.start, tally_one f.values f.period.start f _ refl refl (omega arith) ordered)

module _ (f g : Fragment) (a b : List Fragment) (alike : (v : List Value) (t : ℕ) → copies (f ∷ a) v t ≡ copies (g ∷ b) v t) (g_first : All (λ h. After g h) (g ∷ b)) where
  -- the first values of one table are not below those of the other
  not_below : values_cmp f.values g.values ≢ Less
  not_below below =
      let v = f.values in
      let t = f.period.start in
      let none = copies_none (g ∷ b) v t (All-weaker (λ h. After g h) (λ h. tally v t h ≡ 0) (λ h after. elim (tally_is v t h) [
        | inl zero_is ↦ zero_is
        | inr held ↦ absurd (after.values_up (subst (λ u. values_cmp g.values u ≡ Greater) (sym held.0) (values_total.antisymm g.values v ∙ ap ordering_reverse below)))
      ]) (g ∷ b) g_first) in
      absurd (omega (arith, none, one_at_start f a, alike v t))

  module _ (same : f.values ≡ g.values) where
    -- its first row does not begin earlier
    not_sooner : g.period.start ≤ f.period.start
    not_sooner = elim (cases_lt f.period.start g.period.start) [
      | inr le ↦ le
      | inl sooner ↦
          let v = f.values in
          let t = f.period.start in
          let none = copies_none (g ∷ b) v t (All-weaker (λ h. After g h) (λ h. tally v t h ≡ 0) (λ h after. elim (tally_is v t h) [
            | inl zero_is ↦ zero_is
            | inr held ↦ absurd (omega (arith, after.start_up (sym same ∙ sym held.0), held.1))
          ]) (g ∷ b) g_first) in
          absurd (omega (arith, none, one_at_start f a, alike v t))
    ]

    -- and does not end earlier
    not_shorter : f.period.start ≡ g.period.start → All (λ h. After f h) (f ∷ a) → IsCoalesced (f ∷ a) → g.period.end ≤ f.period.end
    not_shorter at f_first coalesced = elim (cases_lt f.period.end g.period.end) [
      | inr le ↦ le
      | inl shorter ↦
          let v = f.values in
          let s = f.period.start in
          let e = f.period.end in
          let ordered : s < e = f.period.ordered in
          let takes = All-tail (λ h. f.values ≡ h.values → TakesIn f.period h.period) f a (coalesced 0 f (omega arith)) in
          let f_loses : copies a v e ≤ copies a v s = copies_le a v e s (λ k d lt.
          let h = get_or a k d in
          let after = All-tail (λ h. After f h) f a f_first k d lt in
          elim (tally_is v e h) as (λ _. tally v e h ≤ tally v s h) [
            | inl zero_is ↦ omega (arith, zero_is)
            | inr held ↦
                let up = after.start_up (sym held.0) in
                let inside = takes k d lt (sym held.0) in
                let starts_there : h.period.start ≤ s = elim (cases_lt s h.period.start) [ inl later ↦ absurd (omega (arith, inside later held.1, held.2)) | inr le ↦ le ] in
                omega (arith, tally_one v e h _ refl held.0 held.1 held.2, tally_one v s h _ refl held.0 starts_there (omega (arith, held.2)))
          ]) in
          let g_keeps : copies (g ∷ b) v s ≤ copies (g ∷ b) v e = copies_le (g ∷ b) v s e (All-weaker (λ h. After g h) (λ h. tally v s h ≤ tally v e h) (λ h after.
          elim (tally_is v s h) as (λ _. tally v s h ≤ tally v e h) [
            | inl zero_is ↦ omega (arith, zero_is)
            | inr held ↦
                let alike_values = sym same ∙ sym held.0 in
                let up = after.start_up alike_values in
                let longer = after.end_up alike_values (omega (arith, held.1)) in
                omega (arith, tally_one v s h _ refl held.0 held.1 held.2, tally_one v e h _ refl held.0 (omega (arith, held.1)) (omega arith))
          ]) (g ∷ b) g_first) in
          let f_ends = elim (tally_is v e f) as (λ _. tally v e f ≡ 0) [ inl zero_is ↦ zero_is | inr held ↦ absurd (omega (arith, held.2)) ] in
          absurd (omega (arith, f_loses, g_keeps, f_ends, tally_one v s f _ refl refl (omega arith) ordered, copies-cons f a v s, copies-cons f a v e, alike v s, alike v e))
    ]

pub first_same : (f g : Fragment) (a b : List Fragment) → ((v : List Value) (t : ℕ) → copies (f ∷ a) v t ≡ copies (g ∷ b) v t) → IsSorted fragment_cmp (f ∷ a) → IsSorted fragment_cmp (g ∷ b) → IsCoalesced (f ∷ a) → IsCoalesced (g ∷ b) → f ≡ g
first_same f g a b alike f_sorted g_sorted f_coalesced g_coalesced = split (values_cmp f.values g.values) refl
  where
    f_first : All (λ h. After f h) (f ∷ a)
    f_first = head_after f a f_sorted

    g_first : All (λ h. After g h) (g ∷ b)
    g_first = head_after g b g_sorted

    back : (v : List Value) (t : ℕ) → copies (g ∷ b) v t ≡ copies (f ∷ a) v t
    back v t = sym (alike v t)

    split : (r : Ordering) → values_cmp f.values g.values ≡ r → f ≡ g
    split Less e = absurd (not_below f g a b alike g_first e)
    split Greater e = absurd (not_below g f b a back f_first (values_total.antisymm g.values f.values ∙ ap ordering_reverse e))
    split Equal e =
        let same = values_same f.values g.values e in
        let le = not_sooner f g a b alike g_first same in
        let ge = not_sooner g f b a back f_first (sym same) in
        let at : f.period.start ≡ g.period.start = omega arith in
        let short = not_shorter f g a b alike g_first same at f_first f_coalesced in
        let long = not_shorter g f b a back f_first (sym same) (sym at) g_first g_coalesced in
        fragment_same f g same (period_same f.period g.period at (omega arith))

pub tables_same : (a b : List Fragment) → ((v : List Value) (t : ℕ) → copies a v t ≡ copies b v t) → IsSorted fragment_cmp a → IsSorted fragment_cmp b → IsCoalesced a → IsCoalesced b → a ≡ b
tables_same [] [] alike a_sorted b_sorted a_coalesced b_coalesced = refl
tables_same [] (g ∷ b) alike a_sorted b_sorted a_coalesced b_coalesced =
    absurd (omega (arith, one_at_start g b, alike g.values g.period.start, copies-nil g.values g.period.start))
tables_same (f ∷ a) [] alike a_sorted b_sorted a_coalesced b_coalesced =
    absurd (omega (arith, one_at_start f a, alike f.values f.period.start, copies-nil f.values f.period.start))
tables_same (f ∷ a) (g ∷ b) alike a_sorted b_sorted a_coalesced b_coalesced =
    let first = first_same f g a b alike a_sorted b_sorted a_coalesced b_coalesced in
    let rest = tables_same a b (λ v t. omega (arith, alike v t, copies-cons f a v t, copies-cons g b v t, ap (tally v t) first)) (sorted_tail f a a_sorted) (sorted_tail g b b_sorted) (coalesced_tail f a a_coalesced) (coalesced_tail g b b_coalesced) in
    cc

pub layers_same : (m : List Value → ℕ → ℕ) (a b : List Fragment) → IsLayers m a → IsLayers m b → a ≡ b
layers_same m a b is_a is_b =
    tables_same a b (λ v t. is_a.counted v t ∙ sym (is_b.counted v t)) is_a.ordered is_b.ordered is_a.coalesced is_b.coalesced
