-- The lives of a table's rows: event by event, as of the first n events, and the positions of their events.
use Rattle.std.proofs.Common.{◌≡◌, ◌≢◌, ℕ, zero, suc, ◌+◌, ◌<◌, ◌≤◌, ◌==◌, ◌&&◌, Bool, true, false, if◌then◌else◌, List, [], ◌∷◌, ◌++◌, Option, Some, None, length, take, slice_get, slice_set, nat_lt, refl, sym, ap, subst, ◌∙◌, arith, rules}
use Rattle.std.specs.Prelude.{IfSome}
use Rattle.std.proofs.lemmas.Bool.{eqb-true}
use Rattle.std.proofs.lemmas.Bool.Decides.{nat_tests}
use Rattle.tq_base.specs.declared.period.TheConstants.{FOREVER}
use Rattle.tq_base.specs.declared.value.Value.{Value}
use Rattle.tq_event.specs.declared.event.Event.{Event}
use Rattle.tq_event.specs.declared.event.Event.TheVariants.{Start, End}
use Rattle.tq_event.specs.History.{Row, end_of, rows_from}
use Rattle.tq_event.specs.Recorded.{table_of}
use Rattle.tq_event.specs.Versions.{Ending, Life, ending_of, row_lives_from}

pub eqb-same : (a : ℕ) → (a == a) ≡ true
eqb-same a = grind (arith, nat_tests)

pub eqb-other : (a b : ℕ) → a ≢ b → (a == b) ≡ false
eqb-other a b other = by (a == b) refl
  where
    by : (test : Bool) → (a == b) ≡ test → (a == b) ≡ false
    by true e = absurd (other (eqb-true a b e))
    by false e = e

-- ---- which event ends a row, after one more event

ending_start : (t r k u : ℕ) (v : List Value) (at : ℕ) (es : List Event) → ending_of t r k (es ++ Start u v at ∷ []) ≡ ending_of t r k es
ending_start t r k u v at [] = refl
ending_start t r k u v at (Start w x a ∷ es) = ending_start t r (k + 1) u v at es
ending_start t r k u v at (End w x a ∷ es) = ap (λ o. if w == t && x == r then Some (record { event = k; at = a }) else o) (ending_start t r (k + 1) u v at es)

ending_other : (t r k u s at : ℕ) (es : List Event) → (u == t && s == r) ≡ false → ending_of t r k (es ++ End u s at ∷ []) ≡ ending_of t r k es
ending_other t r k u s at [] other = ap (λ b. if b then Some (record { event = k; at = at }) else None) other
ending_other t r k u s at (Start w x a ∷ es) other = ending_other t r (k + 1) u s at es other
ending_other t r k u s at (End w x a ∷ es) other = ap (λ o. if w == t && x == r then Some (record { event = k; at = a }) else o) (ending_other t r (k + 1) u s at es other)

ending_kept : (t r k : ℕ) (e : Event) (es : List Event) → (table_of e == t) ≡ false → ending_of t r k (es ++ e ∷ []) ≡ ending_of t r k es
ending_kept t r k (Start u v at) es other = ending_start t r k u v at es
ending_kept t r k (End u s at) es other = ending_other t r k u s at es (ap (λ b. b && (s == r)) other)

ending_own : (t r k n at : ℕ) (es : List Event) → n ≡ k + length es → ending_of t r k es ≡ None → ending_of t r k (es ++ End t r at ∷ []) ≡ Some (record { event = n; at = at })
ending_own t r k n at [] is open_there =
    ap (λ b. if b && r == r then Some (record { event = k; at = at }) else None) (eqb-same t) ∙ ap (λ b. if b then Some (record { event = k; at = at }) else None) (eqb-same r)
    ∙ ap (λ m. Some (record { event = m; at = at })) (omega (arith, is))
ending_own t r k n at (Start w x a ∷ es) is open_there = ending_own t r (k + 1) n at es (omega (arith, is)) open_there
ending_own t r k n at (End w x a ∷ es) is open_there = by (w == t && x == r) open_there (ending_own t r (k + 1) n at es (omega (arith, is)))
  where
    by : (b : Bool) → (if b then Some (record { event = k; at = a }) else ending_of t r (k + 1) es) ≡ None → (ending_of t r (k + 1) es ≡ None → ending_of t r (k + 1) (es ++ End t r at ∷ []) ≡ Some (record { event = n; at = at }))
        → (if b then Some (record { event = k; at = a }) else ending_of t r (k + 1) (es ++ End t r at ∷ [])) ≡ Some (record { event = n; at = at })
    by true none later = absurd (cc)
    by false none later = later none

-- ---- the lives of a table's rows after one more event

-- the life that the event with this number ends
abbrev pub ended_at : ℕ → ℕ → Life → Life
ended_at n at l = record l { ending = Some (record { event = n; at = at }) }

module _ (t : ℕ) where
  abbrev life_at : ℕ → ℕ → List Value → ℕ → List Event → Life
  life_at next k v at es = record { values = v; start = k; from = at; ending = ending_of t next (k + 1) es }

  pub lives_other : (next k : ℕ) (es : List Event) (e : Event) → (table_of e == t) ≡ false → row_lives_from t next k (es ++ e ∷ []) ≡ row_lives_from t next k es
  lives_other next k [] (Start u v at) other = ap (λ b. if b then life_at next k v at [] ∷ [] else []) other
  lives_other next k [] (End u s at) other = refl
  lives_other next k (End w x a ∷ es) e other = lives_other next (k + 1) es e other
  lives_other next k (Start w x a ∷ es) e other = by (w == t) (lives_other next (k + 1) es e other) (lives_other (next + 1) (k + 1) es e other)
    where
      by : (b : Bool) → row_lives_from t next (k + 1) (es ++ e ∷ []) ≡ row_lives_from t next (k + 1) es → row_lives_from t (next + 1) (k + 1) (es ++ e ∷ []) ≡ row_lives_from t (next + 1) (k + 1) es
          → (if b then life_at next k x a (es ++ e ∷ []) ∷ row_lives_from t (next + 1) (k + 1) (es ++ e ∷ []) else row_lives_from t next (k + 1) (es ++ e ∷ []))
          ≡ (if b then life_at next k x a es ∷ row_lives_from t (next + 1) (k + 1) es else row_lives_from t next (k + 1) es)
      by true same later = ap (λ o. record { values = x; start = k; from = a; ending = o } ∷ row_lives_from t (next + 1) (k + 1) (es ++ e ∷ [])) (ending_kept t next (k + 1) e es other) ∙ ap (λ l. life_at next k x a es ∷ l) later
      by false same later = same

  pub lives_start : (next k n : ℕ) (es : List Event) (v : List Value) (at : ℕ) → n ≡ k + length es
      → row_lives_from t next k (es ++ Start t v at ∷ []) ≡ row_lives_from t next k es ++ record { values = v; start = n; from = at; ending = None } ∷ []
  lives_start next k n [] v at is =
      ap (λ b. if b then life_at next k v at [] ∷ [] else []) (eqb-same t) ∙ ap (λ m. record { values = v; start = m; from = at; ending = None } ∷ []) (omega (arith, is))
  lives_start next k n (End w x a ∷ es) v at is = lives_start next (k + 1) n es v at (omega (arith, is))
  lives_start next k n (Start w x a ∷ es) v at is = by (w == t) (lives_start next (k + 1) n es v at (omega (arith, is))) (lives_start (next + 1) (k + 1) n es v at (omega (arith, is)))
    where
      more : List Event
      more = es ++ Start t v at ∷ []

      new : List Life
      new = record { values = v; start = n; from = at; ending = None } ∷ []

      by : (b : Bool) → row_lives_from t next (k + 1) (es ++ Start t v at ∷ []) ≡ row_lives_from t next (k + 1) es ++ record { values = v; start = n; from = at; ending = None } ∷ []
          → row_lives_from t (next + 1) (k + 1) (es ++ Start t v at ∷ []) ≡ row_lives_from t (next + 1) (k + 1) es ++ record { values = v; start = n; from = at; ending = None } ∷ []
          → (if b then life_at next k x a (es ++ Start t v at ∷ []) ∷ row_lives_from t (next + 1) (k + 1) (es ++ Start t v at ∷ []) else row_lives_from t next (k + 1) (es ++ Start t v at ∷ []))
          ≡ (if b then life_at next k x a es ∷ row_lives_from t (next + 1) (k + 1) es else row_lives_from t next (k + 1) es) ++ record { values = v; start = n; from = at; ending = None } ∷ []
      by true same later = ap (λ o. record { values = x; start = k; from = a; ending = o } ∷ row_lives_from t (next + 1) (k + 1) (es ++ Start t v at ∷ [])) (ending_start t next (k + 1) t v at es) ∙ ap (λ l. life_at next k x a es ∷ l) later
      by false same later = same

  lives_below : (next k number at : ℕ) (es : List Event) → number < next → row_lives_from t next k (es ++ End t number at ∷ []) ≡ row_lives_from t next k es
  lives_below next k number at [] less = refl
  lives_below next k number at (End w x a ∷ es) less = lives_below next (k + 1) number at es less
  lives_below next k number at (Start w x a ∷ es) less = by (w == t) (lives_below next (k + 1) number at es less) (lives_below (next + 1) (k + 1) number at es (omega (arith, less)))
    where
      other : (t == t && number == next) ≡ false
      other = ap (λ b. b && (number == next)) (eqb-same t) ∙ eqb-other number next (λ same. omega (arith, same, less))

      by : (b : Bool) → row_lives_from t next (k + 1) (es ++ End t number at ∷ []) ≡ row_lives_from t next (k + 1) es → row_lives_from t (next + 1) (k + 1) (es ++ End t number at ∷ []) ≡ row_lives_from t (next + 1) (k + 1) es
          → (if b then life_at next k x a (es ++ End t number at ∷ []) ∷ row_lives_from t (next + 1) (k + 1) (es ++ End t number at ∷ []) else row_lives_from t next (k + 1) (es ++ End t number at ∷ []))
          ≡ (if b then life_at next k x a es ∷ row_lives_from t (next + 1) (k + 1) es else row_lives_from t next (k + 1) es)
      by true same later = ap (λ o. record { values = x; start = k; from = a; ending = o } ∷ row_lives_from t (next + 1) (k + 1) (es ++ End t number at ∷ [])) (ending_other t next (k + 1) t number at es other) ∙ ap (λ l. life_at next k x a es ∷ l) later
      by false same later = same

  pub lives_end : (next k n i number at : ℕ) (l : Life) (es : List Event) → n ≡ k + length es → number ≡ next + i → slice_get (row_lives_from t next k es) i ≡ Some l → l.ending ≡ None
      → row_lives_from t next k (es ++ End t number at ∷ []) ≡ slice_set (row_lives_from t next k es) i (ended_at n at l)
  lives_end next k n i number at l [] is numbered stands none = absurd (cc)
  lives_end next k n i number at l (End w x a ∷ es) is numbered stands none = lives_end next (k + 1) n i number at l es (omega (arith, is)) numbered stands none
  lives_end next k n zero number at l (Start w x a ∷ es) is numbered stands none =
      by (w == t) stands (λ here. lives_end next (k + 1) n zero number at l es (omega (arith, is)) numbered here none)
    where
      same_number : number ≡ next
      same_number = omega (arith, numbered)

      by : (b : Bool) → slice_get (if b then life_at next k x a es ∷ row_lives_from t (next + 1) (k + 1) es else row_lives_from t next (k + 1) es) zero ≡ Some l
          → (slice_get (row_lives_from t next (k + 1) es) zero ≡ Some l → row_lives_from t next (k + 1) (es ++ End t number at ∷ []) ≡ slice_set (row_lives_from t next (k + 1) es) zero (ended_at n at l))
          → (if b then life_at next k x a (es ++ End t number at ∷ []) ∷ row_lives_from t (next + 1) (k + 1) (es ++ End t number at ∷ []) else row_lives_from t next (k + 1) (es ++ End t number at ∷ []))
          ≡ slice_set (if b then life_at next k x a es ∷ row_lives_from t (next + 1) (k + 1) es else row_lives_from t next (k + 1) es) zero (ended_at n at l)
      by true here later =
          let life_is : life_at next k x a es ≡ l = cc in
          let none_there : ending_of t next (k + 1) es ≡ None = ap (λ (y : Life). y.ending) life_is ∙ none in
          ap (λ m. record { values = x; start = k; from = a; ending = ending_of t next (k + 1) (es ++ End t m at ∷ []) } ∷ row_lives_from t (next + 1) (k + 1) (es ++ End t number at ∷ [])) same_number
          ∙ ap (λ o. record { values = x; start = k; from = a; ending = o } ∷ row_lives_from t (next + 1) (k + 1) (es ++ End t number at ∷ [])) (ending_own t next (k + 1) n at es (omega (arith, is)) none_there)
          ∙ ap (λ y. ended_at n at y ∷ row_lives_from t (next + 1) (k + 1) (es ++ End t number at ∷ [])) life_is
          ∙ ap (λ ls. ended_at n at l ∷ ls) (lives_below (next + 1) (k + 1) number at es (omega (arith, numbered)))
      by false here later = later here
  lives_end next k n (suc i) number at l (Start w x a ∷ es) is numbered stands none =
      by (w == t) stands (λ here. lives_end next (k + 1) n (suc i) number at l es (omega (arith, is)) numbered here none) (λ here. lives_end (next + 1) (k + 1) n i number at l es (omega (arith, is)) (omega (arith, numbered)) here none)
    where
      other : (t == t && number == next) ≡ false
      other = ap (λ b. b && (number == next)) (eqb-same t) ∙ eqb-other number next (λ same. omega (arith, same, numbered))

      by : (b : Bool) → slice_get (if b then life_at next k x a es ∷ row_lives_from t (next + 1) (k + 1) es else row_lives_from t next (k + 1) es) (suc i) ≡ Some l
          → (slice_get (row_lives_from t next (k + 1) es) (suc i) ≡ Some l → row_lives_from t next (k + 1) (es ++ End t number at ∷ []) ≡ slice_set (row_lives_from t next (k + 1) es) (suc i) (ended_at n at l))
          → (slice_get (row_lives_from t (next + 1) (k + 1) es) i ≡ Some l → row_lives_from t (next + 1) (k + 1) (es ++ End t number at ∷ []) ≡ slice_set (row_lives_from t (next + 1) (k + 1) es) i (ended_at n at l))
          → (if b then life_at next k x a (es ++ End t number at ∷ []) ∷ row_lives_from t (next + 1) (k + 1) (es ++ End t number at ∷ []) else row_lives_from t next (k + 1) (es ++ End t number at ∷ []))
          ≡ slice_set (if b then life_at next k x a es ∷ row_lives_from t (next + 1) (k + 1) es else row_lives_from t next (k + 1) es) (suc i) (ended_at n at l)
      by true here same later =
          ap (λ o. record { values = x; start = k; from = a; ending = o } ∷ row_lives_from t (next + 1) (k + 1) (es ++ End t number at ∷ [])) (ending_other t next (k + 1) t number at es other)
          ∙ ap (λ ls. life_at next k x a es ∷ ls) (later here)
      by false here same later = same here

-- ---- rows as of the first n events

abbrev pub end_by : ℕ → Option Ending → ℕ
end_by n None = FOREVER
end_by n (Some e) = if nat_lt e.event n then e.at else FOREVER

abbrev pub as_of : ℕ → ℕ → Life → Row
as_of n number l = record { number = number; values = l.values; from = l.from; to = end_by n l.ending }

abbrev pub known_by : ℕ → ℕ → Option Life → Option Row
known_by n number None = None
known_by n number (Some l) = if nat_lt l.start n then Some (as_of n number l) else None

past : (a b : ℕ) → b ≤ a → nat_lt a b ≡ false
past a b le = search (rules, nat_tests, le)

before : (a b : ℕ) → a < b → nat_lt a b ≡ true
before a b less = search (rules, nat_tests, less)

ending_late : (t r k n : ℕ) (es : List Event) → n ≤ k → end_by n (ending_of t r k es) ≡ FOREVER
ending_late t r k n [] le = refl
ending_late t r k n (Start u v at ∷ es) le = ending_late t r (k + 1) n es (omega (arith, le))
ending_late t r k n (End u s at ∷ es) le = by (u == t && s == r) (ending_late t r (k + 1) n es (omega (arith, le)))
  where
    by : (b : Bool) → end_by n (ending_of t r (k + 1) es) ≡ FOREVER → end_by n (if b then Some (record { event = k; at = at }) else ending_of t r (k + 1) es) ≡ FOREVER
    by true later = ap (λ b. if b then at else FOREVER) (past k n le)
    by false later = later

end_known : (t r k m n : ℕ) (es : List Event) → n ≡ k + m → end_of t r (take m es) ≡ end_by n (ending_of t r k es)
end_known t r k zero n es is = sym (ending_late t r k n es (omega (arith, is)))
end_known t r k (suc m) n [] is = refl
end_known t r k (suc m) n (Start u v at ∷ es) is = end_known t r (k + 1) m n es (omega (arith, is))
end_known t r k (suc m) n (End u s at ∷ es) is = by (u == t && s == r) (end_known t r (k + 1) m n es (omega (arith, is)))
  where
    by : (b : Bool) → end_of t r (take m es) ≡ end_by n (ending_of t r (k + 1) es)
        → (if b then at else end_of t r (take m es)) ≡ end_by n (if b then Some (record { event = k; at = at }) else ending_of t r (k + 1) es)
    by true later = sym (ap (λ b. if b then at else FOREVER) (before k n (omega (arith, is))))
    by false later = later

none_known : (t next k n number i : ℕ) (es : List Event) → n ≤ k → known_by n number (slice_get (row_lives_from t next k es) i) ≡ None
none_known t next k n number i [] le = refl
none_known t next k n number i (End u s at ∷ es) le = none_known t next (k + 1) n number i es (omega (arith, le))
none_known t next k n number i (Start u v at ∷ es) le = by (u == t) i (none_known t next (k + 1) n number i es (omega (arith, le))) (λ j. none_known t (next + 1) (k + 1) n number j es (omega (arith, le)))
  where
    by : (b : Bool) (i : ℕ) → known_by n number (slice_get (row_lives_from t next (k + 1) es) i) ≡ None → ((j : ℕ) → known_by n number (slice_get (row_lives_from t (next + 1) (k + 1) es) j) ≡ None)
        → known_by n number (slice_get (if b then life_at t next k v at es ∷ row_lives_from t (next + 1) (k + 1) es else row_lives_from t next (k + 1) es) i) ≡ None
    by true zero same later = ap (λ b. if b then Some (as_of n number (life_at t next k v at es)) else None) (past k n le)
    by true (suc j) same later = later j
    by false j same later = same

pub rows_known : (t next k m n number i : ℕ) (es : List Event) → n ≡ k + m → number ≡ next + i → slice_get (rows_from t next (take m es)) i ≡ known_by n number (slice_get (row_lives_from t next k es) i)
rows_known t next k zero n number i es is numbered = sym (none_known t next k n number i es (omega (arith, is)))
rows_known t next k (suc m) n number i [] is numbered = refl
rows_known t next k (suc m) n number i (End u s at ∷ es) is numbered = rows_known t next (k + 1) m n number i es (omega (arith, is)) numbered
rows_known t next k (suc m) n number i (Start u v at ∷ es) is numbered =
    by (u == t) i numbered (rows_known t next (k + 1) m n number i es (omega (arith, is)) numbered) (λ j at_j. rows_known t (next + 1) (k + 1) m n number j es (omega (arith, is)) at_j)
  where
    row : Row
    row = record { number = next; values = v; from = at; to = end_of t next (take m es) }

    by : (b : Bool) (i : ℕ) → number ≡ next + i → slice_get (rows_from t next (take m es)) i ≡ known_by n number (slice_get (row_lives_from t next (k + 1) es) i)
        → ((j : ℕ) → number ≡ next + 1 + j → slice_get (rows_from t (next + 1) (take m es)) j ≡ known_by n number (slice_get (row_lives_from t (next + 1) (k + 1) es) j))
        → slice_get (if b then record { number = next; values = v; from = at; to = end_of t next (take m es) } ∷ rows_from t (next + 1) (take m es) else rows_from t next (take m es)) i
        ≡ known_by n number (slice_get (if b then life_at t next k v at es ∷ row_lives_from t (next + 1) (k + 1) es else row_lives_from t next (k + 1) es) i)
    by true zero numbered same later =
        let same_number : next ≡ number = omega (arith, numbered) in
        ap (λ x. Some (record { number = x; values = v; from = at; to = end_of t next (take m es) })) same_number
        ∙ ap (λ x. Some (record { number = number; values = v; from = at; to = x })) (end_known t next (k + 1) m n es (omega (arith, is)))
        ∙ sym (ap (λ b. if b then Some (as_of n number (life_at t next k v at es)) else None) (before k n (omega (arith, is))))
    by true (suc j) numbered same later = later j (omega (arith, numbered))
    by false j numbered same later = same

-- ---- the positions of the events of a life

-- the event is at its number, counted from the given one
pub record IsEventAt (es : List Event) (k number : ℕ) (e : Event) : Type 0 where
  pub place : ℕ
  pub number_is : number ≡ k + place
  pub event_is : slice_get es place ≡ Some e

-- the life agrees with the events that it names
pub record MatchesEvents (t row k : ℕ) (es : List Event) (l : Life) : Type 0 where
  pub start : IsEventAt es k l.start (Start t l.values l.from)
  pub ending : IfSome l.ending (λ e. IsEventAt es k e.event (End t row e.at))

later_at : (es : List Event) (k number : ℕ) (x e : Event) → IsEventAt es (k + 1) number e → IsEventAt (x ∷ es) k number e
later_at es k number x e s = record { place = suc s.place; number_is = let is = s.number_is in omega (arith, is); event_is = s.event_is }

abbrev EndMatches : ℕ → ℕ → ℕ → List Event → Option Ending → Type 0
EndMatches t row k es o = IfSome o (λ e. IsEventAt es k e.event (End t row e.at))

later_end : (t row k : ℕ) (es : List Event) (x : Event) (o : Option Ending) → EndMatches t row (k + 1) es o → EndMatches t row k (x ∷ es) o
later_end t row k es x None matches = matches
later_end t row k es x (Some e) matches = later_at es k e.event x (End t row e.at) matches

later_matches : (t row k : ℕ) (es : List Event) (x : Event) (l : Life) → MatchesEvents t row (k + 1) es l → MatchesEvents t row k (x ∷ es) l
later_matches t row k es x l matches = record { start = later_at es k l.start x (Start t l.values l.from) matches.start; ending = later_end t row k es x l.ending matches.ending }

pub and-true : (a b : Bool) → (a && b) ≡ true → (a ≡ true) × (b ≡ true)
and-true true true is = (refl, refl)
and-true true false is = absurd (cc)
and-true false b is = absurd (cc)

ending_matches : (t row k : ℕ) (es : List Event) → EndMatches t row k es (ending_of t row k es)
ending_matches t row k [] = tt
ending_matches t row k (Start u v at ∷ es) = later_end t row k es (Start u v at) (ending_of t row (k + 1) es) (ending_matches t row (k + 1) es)
ending_matches t row k (End u s at ∷ es) = by (u == t && s == row) refl (later_end t row k es (End u s at) (ending_of t row (k + 1) es) (ending_matches t row (k + 1) es))
  where
    by : (b : Bool) → (u == t && s == row) ≡ b → EndMatches t row k (End u s at ∷ es) (ending_of t row (k + 1) es)
        → EndMatches t row k (End u s at ∷ es) (if b then Some (record { event = k; at = at }) else ending_of t row (k + 1) es)
    by true is later =
        let both = and-true (u == t) (s == row) is in
        let same_table : u ≡ t = eqb-true u t both.0 in
        let same_row : s ≡ row = eqb-true s row both.1 in
        record { place = 0; number_is = omega arith; event_is = ap (λ x. Some (End x s at)) same_table ∙ ap (λ x. Some (End t x at)) same_row }
    by false is later = later

pub lives_match : (t next k row i : ℕ) (es : List Event) (l : Life) → row ≡ next + i → slice_get (row_lives_from t next k es) i ≡ Some l → MatchesEvents t row k es l
lives_match t next k row i [] l numbered stands = absurd (cc)
lives_match t next k row i (End u s at ∷ es) l numbered stands = later_matches t row k es (End u s at) l (lives_match t next (k + 1) row i es l numbered stands)
lives_match t next k row i (Start u v at ∷ es) l numbered stands =
    by (u == t) refl i numbered stands (λ here. lives_match t next (k + 1) row i es l numbered here) (λ j at_j here. lives_match t (next + 1) (k + 1) row j es l at_j here)
  where
    matches : u ≡ t → row ≡ next → MatchesEvents t row k (Start u v at ∷ es) (life_at t next k v at es)
    matches same_table same_row = record {
      start = record { place = 0; number_is = omega arith; event_is = ap (λ x. Some (Start x v at)) same_table };
      ending = later_end t row k es (Start u v at) (ending_of t next (k + 1) es) (subst (λ r. EndMatches t row (k + 1) es (ending_of t r (k + 1) es)) same_row (ending_matches t row (k + 1) es));
    }

    by : (b : Bool) → (u == t) ≡ b → (i : ℕ) → row ≡ next + i → slice_get (if b then life_at t next k v at es ∷ row_lives_from t (next + 1) (k + 1) es else row_lives_from t next (k + 1) es) i ≡ Some l
        → (slice_get (row_lives_from t next (k + 1) es) i ≡ Some l → MatchesEvents t row (k + 1) es l)
        → ((j : ℕ) → row ≡ next + 1 + j → slice_get (row_lives_from t (next + 1) (k + 1) es) j ≡ Some l → MatchesEvents t row (k + 1) es l)
        → MatchesEvents t row k (Start u v at ∷ es) l
    by true is zero numbered here same later =
        let life_is : life_at t next k v at es ≡ l = cc in
        subst (MatchesEvents t row k (Start u v at ∷ es)) life_is (matches (eqb-true u t is) (omega (arith, numbered)))
    by true is (suc j) numbered here same later = later_matches t row k es (Start u v at) l (later j (omega (arith, numbered)) here)
    by false is i numbered here same later = later_matches t row k es (Start u v at) l (same here)

-- ---- a later row starts later

pub starts_rise : (t next k i j : ℕ) (es : List Event) (l m : Life) → i < j → slice_get (row_lives_from t next k es) i ≡ Some l → slice_get (row_lives_from t next k es) j ≡ Some m → l.start < m.start
starts_rise t next k i j [] l m less here there = absurd (cc)
starts_rise t next k i j (End u s at ∷ es) l m less here there = starts_rise t next (k + 1) i j es l m less here there
starts_rise t next k i j (Start u v at ∷ es) l m less here there =
    by (u == t) i j less here there (λ x y. starts_rise t next (k + 1) i j es l m less x y) (λ a b lt x y. starts_rise t (next + 1) (k + 1) a b es l m lt x y)
  where
    by : (b : Bool) (i j : ℕ) → i < j
        → slice_get (if b then life_at t next k v at es ∷ row_lives_from t (next + 1) (k + 1) es else row_lives_from t next (k + 1) es) i ≡ Some l
        → slice_get (if b then life_at t next k v at es ∷ row_lives_from t (next + 1) (k + 1) es else row_lives_from t next (k + 1) es) j ≡ Some m
        → (slice_get (row_lives_from t next (k + 1) es) i ≡ Some l → slice_get (row_lives_from t next (k + 1) es) j ≡ Some m → l.start < m.start)
        → ((a b : ℕ) → a < b → slice_get (row_lives_from t (next + 1) (k + 1) es) a ≡ Some l → slice_get (row_lives_from t (next + 1) (k + 1) es) b ≡ Some m → l.start < m.start)
        → l.start < m.start
    by true i zero less here there same later = absurd (omega (arith, less))
    by true zero (suc j) less here there same later =
        let life_is : life_at t next k v at es ≡ l = cc in
        let begin : k ≡ l.start = ap (λ (y : Life). y.start) life_is in
        let matches = (lives_match t (next + 1) (k + 1) (next + 1 + j) j es m refl there).start in
        let number = matches.number_is in
        omega (arith, begin, number)
    by true (suc i) (suc j) less here there same later = later i j (omega (arith, less)) here there
    by false i j less here there same later = same here there
