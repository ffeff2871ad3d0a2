-- The sweep over changes: its invariant between two of them, and that each keeps it.
use Rattle.std.proofs.Common.{◌≡◌, ℕ, ◌+◌, ◌-◌, ◌<◌, ◌≤◌, inl, inr, Bool, true, false, not, ◌&&◌, nat_le, List, [], ◌∷◌, ◌++◌, length, count_by, refl, ap, ◌∙◌, arith, length-append}
use Rattle.std.specs.Prelude.{All, AllPairs}
use Rattle.std.proofs.lemmas.Bool.{cases_lt}
use Rattle.std.proofs.lemmas.Bool.Decides.{nat_tests}
use Rattle.std.proofs.lemmas.List.Elements.{All-nil, All-cons, All-head, All-tail, All-push, All-weaker}
use Rattle.std.proofs.lemmas.List.Sums.{sum_by-cons, sum_by_push}
use Rattle.tq_base.specs.declared.period.Period.{Period}
use Rattle.tq_base.specs.Periods.{holds}
use Rattle.tq_base.specs.Layering.{held}
use Rattle.tq_base.specs.Sweep.{upto, upto-push, upto-cons, held-push, held_none, pairs_head, pairs_tail, all_front}
use Rattle.tq_ops.specs.declared.difference.Change.{Change}
use Rattle.tq_ops.specs.Differences.{rises_upto, falls_upto, IsEven}
use Rattle.tq_ops.proofs.Counting.{one_if}

abbrev rises_in : List Change → ℕ
rises_in changes = count_by (λ c. c.rises) changes

abbrev falls_in : List Change → ℕ
falls_in changes = count_by (λ c. not c.rises) changes

-- the changes done and to come, the open starts, the number of falls that wait for a rise, and the periods so far
pub record Sweeping (done rest : List Change) (opened : List ℕ) (owed : ℕ) (made : List Period) : Type 0 where
  pub settled : (t : ℕ) → All (λ c. t < c.at) rest → held made t + upto opened t ≡ rises_upto done t - falls_upto done t
  pub balanced : length opened + count_by (λ c. not c.rises) done ≡ count_by (λ c. c.rises) done + owed
  pub either : 0 < owed → length opened ≡ 0
  pub in_order : AllPairs (λ c d. c.at ≤ d.at) rest
  pub opened_before : All (λ c. All (λ s. s ≤ c.at) opened) rest
  pub made_before : All (λ c. All (λ p. p.end ≤ c.at) made) rest
  pub done_before : All (λ c. All (λ d. d.at ≤ c.at) done) rest

-- ---- counts

upto_all : (xs : List ℕ) (t : ℕ) → All (λ x. x ≤ t) xs → upto xs t ≡ length xs
upto_all [] t low = refl
upto_all (x ∷ xs) t low =
    let first : x ≤ t = All-head (λ x. x ≤ t) x xs low in
    let rest = upto_all xs t (All-tail (λ x. x ≤ t) x xs low) in
    let sum = upto-cons x xs t in
    grind (arith, nat_tests)

one_low : (b : Bool) (a t : ℕ) → a ≤ t → one_if (b && nat_le a t) ≡ one_if b
one_low true a t low = grind (arith, nat_tests)
one_low false a t low = refl

one_high : (b : Bool) (a t : ℕ) → t < a → one_if (b && nat_le a t) ≡ 0
one_high true a t high = grind (arith, nat_tests)
one_high false a t high = refl

rises_all : (cs : List Change) (t : ℕ) → All (λ c. c.at ≤ t) cs → rises_upto cs t ≡ rises_in cs
rises_all [] t low = refl
rises_all (c ∷ cs) t low =
    omega (arith, rises_all cs t (All-tail (λ c. c.at ≤ t) c cs low), one_low c.rises c.at t (All-head (λ c. c.at ≤ t) c cs low), sum_by-cons (λ c. one_if (c.rises && nat_le c.at t)) c cs, sum_by-cons (λ c. one_if c.rises) c cs)

falls_all : (cs : List Change) (t : ℕ) → All (λ c. c.at ≤ t) cs → falls_upto cs t ≡ falls_in cs
falls_all [] t low = refl
falls_all (c ∷ cs) t low =
    omega (arith, falls_all cs t (All-tail (λ c. c.at ≤ t) c cs low), one_low (not c.rises) c.at t (All-head (λ c. c.at ≤ t) c cs low), sum_by-cons (λ c. one_if (not c.rises && nat_le c.at t)) c cs, sum_by-cons (λ c. one_if (not c.rises)) c cs)

-- when all is before the instant
late : (done : List Change) (opened : List ℕ) (owed : ℕ) (made : List Period) (t : ℕ) → All (λ c. c.at ≤ t) done → All (λ s. s ≤ t) opened → All (λ p. p.end ≤ t) made
    → length opened + falls_in done ≡ rises_in done + owed → (0 < owed → length opened ≡ 0)
    → held made t + upto opened t ≡ rises_upto done t - falls_upto done t
late done opened owed made t past low over balanced either = elim (cases_lt 0 owed) [
  | inl more ↦
      omega (arith, held_none made t over, upto_all opened t low, rises_all done t past, falls_all done t past, balanced, either more)
  | inr none ↦
      omega (arith, held_none made t over, upto_all opened t low, rises_all done t past, falls_all done t past, balanced)
]

-- a period holds an instant if it has begun and not ended
pub held_one : (p : Period) (t : ℕ) → one_if (holds p t) + one_if (nat_le p.end t) ≡ one_if (nat_le p.start t)
held_one p t = let ordered : p.start < p.end = p.ordered in grind (arith, nat_tests)

-- ---- one change

-- what each kind of change must keep
record Turn (c : Change) (done : List Change) (opened opened' : List ℕ) (owed' : ℕ) (made made' : List Period) : Type 0 where
  early : (t : ℕ) → t < c.at → held made' t + upto opened' t ≡ held made t + upto opened t
  balanced : length opened' + falls_in (done ++ c ∷ []) ≡ rises_in (done ++ c ∷ []) + owed'
  either : 0 < owed' → length opened' ≡ 0
  low : All (λ s. s ≤ c.at) opened'
  over : All (λ p. p.end ≤ c.at) made'

turns : (c : Change) (done rest : List Change) (opened opened' : List ℕ) (owed owed' : ℕ) (made made' : List Period) → Sweeping done (c ∷ rest) opened owed made → Turn c done opened opened' owed' made made' → Sweeping (done ++ c ∷ []) rest opened' owed' made'
turns c done rest opened opened' owed owed' made made' w turn = record {
  settled = λ t after. elim (cases_lt t c.at) [
    | inl before ↦
        omega (arith, w.settled t (All-cons (λ c. t < c.at) c rest before after), turn.early t before, sum_by_push (λ c. one_if (c.rises && nat_le c.at t)) done c, sum_by_push (λ c. one_if (not c.rises && nat_le c.at t)) done c, one_high c.rises c.at t before, one_high (not c.rises) c.at t before)
    | inr past ↦
        late (done ++ c ∷ []) opened' owed' made' t
        (All-push (λ d. d.at ≤ t) done c (All-weaker (λ d. d.at ≤ c.at) (λ d. d.at ≤ t) (λ d le. omega arith) done behind) past)
        (All-weaker (λ s. s ≤ c.at) (λ s. s ≤ t) (λ s le. omega arith) opened' turn.low)
        (All-weaker (λ p. p.end ≤ c.at) (λ p. p.end ≤ t) (λ p le. omega arith) made' turn.over)
        turn.balanced turn.either
  ];
  balanced = turn.balanced;
  either = turn.either;
  in_order = pairs_tail (λ c d. c.at ≤ d.at) c rest w.in_order;
  opened_before = All-weaker (λ d. c.at ≤ d.at) (λ d. All (λ s. s ≤ d.at) opened') (λ d le. All-weaker (λ s. s ≤ c.at) (λ s. s ≤ d.at) (λ s low. omega arith) opened' turn.low) rest next;
  made_before = All-weaker (λ d. c.at ≤ d.at) (λ d. All (λ p. p.end ≤ d.at) made') (λ d le. All-weaker (λ p. p.end ≤ c.at) (λ p. p.end ≤ d.at) (λ p low. omega arith) made' turn.over) rest next;
  done_before = All-weaker (λ d. c.at ≤ d.at) (λ d. All (λ e. e.at ≤ d.at) (done ++ c ∷ []))
      (λ d le. All-push (λ e. e.at ≤ d.at) done c (All-weaker (λ e. e.at ≤ c.at) (λ e. e.at ≤ d.at) (λ e low. omega arith) done behind) le) rest next;
}
  where
    behind : All (λ d. d.at ≤ c.at) done
    behind = All-head (λ c. All (λ d. d.at ≤ c.at) done) c rest w.done_before

    next : All (λ d. c.at ≤ d.at) rest
    next = pairs_head (λ c d. c.at ≤ d.at) c rest w.in_order

module _ (c : Change) (done rest : List Change) (opened : List ℕ) (owed : ℕ) (made : List Period) (w : Sweeping done (c ∷ rest) opened owed made) where
  low_now : All (λ s. s ≤ c.at) opened
  low_now = All-head (λ c. All (λ s. s ≤ c.at) opened) c rest w.opened_before

  over_now : All (λ p. p.end ≤ c.at) made
  over_now = All-head (λ c. All (λ p. p.end ≤ c.at) made) c rest w.made_before

  rises_more : c.rises ≡ true → (rises_in (done ++ c ∷ []) ≡ rises_in done + 1) × (falls_in (done ++ c ∷ []) ≡ falls_in done)
  rises_more is = (
    sum_by_push (λ c. one_if c.rises) done c ∙ ap (λ b. rises_in done + one_if b) is,
    sum_by_push (λ c. one_if (not c.rises)) done c ∙ ap (λ b. falls_in done + one_if (not b)) is ∙ omega arith,
  )

  falls_more : c.rises ≡ false → (rises_in (done ++ c ∷ []) ≡ rises_in done) × (falls_in (done ++ c ∷ []) ≡ falls_in done + 1)
  falls_more is = (
    sum_by_push (λ c. one_if c.rises) done c ∙ ap (λ b. rises_in done + one_if b) is ∙ omega arith,
    sum_by_push (λ c. one_if (not c.rises)) done c ∙ ap (λ b. falls_in done + one_if (not b)) is,
  )

  -- a rise for which a fall waits
  pub pays : c.rises ≡ true → 0 < owed → Sweeping (done ++ c ∷ []) rest opened (owed - 1) made
  pays is some = turns c done rest opened opened owed (owed - 1) made made w (record {
    early = λ t before. refl;
    balanced = omega (arith, w.balanced, (rises_more is).0, (rises_more is).1);
    either = λ more. w.either some;
    low = low_now;
    over = over_now;
  })

  -- a rise for which none waits
  pub opens : c.rises ≡ true → owed ≡ 0 → Sweeping (done ++ c ∷ []) rest (opened ++ c.at ∷ []) owed made
  opens is none = turns c done rest opened (opened ++ c.at ∷ []) owed owed made made w (record {
    early = λ t before. omega (arith, upto-push opened c.at t, one_high true c.at t before);
    balanced = omega (arith, w.balanced, (rises_more is).0, (rises_more is).1, length-append opened (c.at ∷ []));
    either = λ more. absurd (omega arith);
    low = All-push (λ s. s ≤ c.at) opened c.at low_now (omega arith);
    over = over_now;
  })

  -- a fall when no start is open
  pub waits : c.rises ≡ false → length opened ≡ 0 → Sweeping (done ++ c ∷ []) rest opened (owed + 1) made
  waits is none = turns c done rest opened opened owed (owed + 1) made made w (record {
    early = λ t before. refl;
    balanced = omega (arith, w.balanced, (falls_more is).0, (falls_more is).1);
    either = λ more. none;
    low = low_now;
    over = over_now;
  })

  module _ (s : ℕ) (opened' : List ℕ) (popped : opened ≡ opened' ++ s ∷ []) where
    shorter : length opened ≡ length opened' + 1
    shorter = ap length popped ∙ length-append opened' (s ∷ [])

    low_then : All (λ r. r ≤ c.at) (opened' ++ s ∷ [])
    low_then = rw popped at low_now

    -- a fall that ends a period
    pub closes : (p : Period) → c.rises ≡ false → p.start ≡ s → p.end ≡ c.at → Sweeping (done ++ c ∷ []) rest opened' owed (made ++ p ∷ [])
    closes p is from to = turns c done rest opened opened' owed owed made (made ++ p ∷ []) w (record {
      early = λ t before. omega (arith, ap (λ l. upto l t) popped, upto-push opened' s t, held-push made p t, held_one p t, ap (λ x. one_if (nat_le x t)) from, ap (λ x. one_if (nat_le x t)) to, one_high true c.at t before);
      balanced = omega (arith, w.balanced, (falls_more is).0, (falls_more is).1, shorter);
      either = λ more. absurd (omega (arith, w.either more, shorter));
      low = all_front (λ r. r ≤ c.at) opened' s low_then;
      over = All-push (λ p. p.end ≤ c.at) made p over_now (omega arith);
    })

    -- a fall at the bound at which the start was opened
    pub drops : c.rises ≡ false → c.at ≤ s → Sweeping (done ++ c ∷ []) rest opened' owed made
    drops is empty = turns c done rest opened opened' owed owed made made w (record {
      early = λ t before. omega (arith, ap (λ l. upto l t) popped, upto-push opened' s t, one_high true s t (omega arith));
      balanced = omega (arith, w.balanced, (falls_more is).0, (falls_more is).1, shorter);
      either = λ more. absurd (omega (arith, w.either more, shorter));
      low = all_front (λ r. r ≤ c.at) opened' s low_then;
      over = over_now;
    })

-- ---- the ends

pub begins : (changes : List Change) → AllPairs (λ c d. c.at ≤ d.at) changes → Sweeping [] changes [] 0 []
begins changes in_order = record {
  settled = λ t after. refl;
  balanced = refl;
  either = λ more. absurd (omega arith);
  in_order = in_order;
  opened_before = λ k d lt. All-nil (λ s. s ≤ _);
  made_before = λ k d lt. All-nil (λ p. p.end ≤ _);
  done_before = λ k d lt. All-nil (λ e. e.at ≤ _);
}

pub ends : (changes : List Change) (opened : List ℕ) (owed : ℕ) (made : List Period) → IsEven changes → Sweeping changes [] opened owed made → (t : ℕ) → held made t ≡ rises_upto changes t - falls_upto changes t
ends changes [] owed made even w t = omega (arith, w.settled t (All-nil (λ c. t < c.at)))
ends changes (s ∷ opened) owed made even w t = absurd (omega (arith, w.balanced, w.either, even))
