-- The rows that can still end, event by event, and histories with one more event.
use Rattle.std.proofs.Common.{◌≡◌, ◌≢◌, ℕ, zero, suc, ◌+◌, ◌<◌, ◌≤◌, ◌==◌, ◌&&◌, Bool, true, false, if◌then◌else◌, List, [], ◌∷◌, ◌++◌, Option, Some, None, length, get_or, map, slice_get, slice_set, nat_lt, refl, sym, ap, subst, ◌∙◌, ◌⊎◌, inl, inr, arith}
use Rattle.std.specs.Prelude.{All, Contains, IsSomeAnd}
use Rattle.std.specs.Option.{option_map}
use Rattle.std.proofs.lemmas.Bool.{eqb-true}
use Rattle.std.proofs.lemmas.Bool.Decides.{nat_tests}
use Rattle.std.proofs.lemmas.Option.{get_or_from_slice_get, slice_get-get_or, slice_get-map, slice_get_within}
use Rattle.std.proofs.lemmas.List.Elements.{All-push, All-tail}
use Rattle.std.proofs.Math.Seq.{take-length}
use Rattle.tq_base.specs.declared.catalogue.Catalogue.{Catalogue}
use Rattle.tq_base.specs.declared.catalogue.Schema.{Schema}
use Rattle.tq_base.specs.Catalogues.{Fit}
use Rattle.tq_base.specs.declared.period.TheConstants.{FOREVER}
use Rattle.tq_base.specs.declared.value.Value.{Value}
use Rattle.tq_event.specs.declared.event.Event.{Event}
use Rattle.tq_event.specs.declared.event.Event.TheVariants.{Start, End}
use Rattle.tq_event.specs.History.{CanHappen, IsAdmissible, IsHistory, IsOpenBefore, Row, end_of, rows_from, time_of}
use Rattle.tq_event.specs.Recorded.{AreStarts, CanEnd, after_event, noted, open_start, open_starts, table_of}
use Rattle.tq_event.proofs.HistoryLemmas.{eqb-same}

eqb-other : (a b : ℕ) → a ≢ b → (a == b) ≡ false
eqb-other a b other = by (a == b) refl
  where
    by : (test : Bool) → (a == b) ≡ test → (a == b) ≡ false
    by true e = absurd (other (eqb-true a b e))
    by false e = e

-- ---- rows are numbered

abbrev row_at : ℕ → ℕ → List Value → ℕ → List Event → Row
row_at t next v at es = record { number = next; values = v; from = at; to = end_of t next es }

numbered : (t next : ℕ) (es : List Event) (k : ℕ) (d : Row) → k < length (rows_from t next es) → (get_or (rows_from t next es) k d).number ≡ next + k
numbered t next [] k d less = absurd (omega (arith, less))
numbered t next (End u r at ∷ es) k d less = numbered t next es k d less
numbered t next (Start u v at ∷ es) k d less = by (u == t) k less (numbered t next es) (numbered t (next + 1) es)
  where
    by : (b : Bool) (i : ℕ) → i < length (if b then row_at t next v at es ∷ rows_from t (next + 1) es else rows_from t next es)
        → ((j : ℕ) (e : Row) → j < length (rows_from t next es) → (get_or (rows_from t next es) j e).number ≡ next + j)
        → ((j : ℕ) (e : Row) → j < length (rows_from t (next + 1) es) → (get_or (rows_from t (next + 1) es) j e).number ≡ next + 1 + j)
        → (get_or (if b then row_at t next v at es ∷ rows_from t (next + 1) es else rows_from t next es) i d).number ≡ next + i
    by false i here same later = same i d here
    by true zero here same later = omega arith
    by true (suc i) here same later = omega (arith, later i d (omega (arith, here)))

-- ---- when rows end

end_start : (t r u : ℕ) (v : List Value) (at : ℕ) (es : List Event) → end_of t r (es ++ Start u v at ∷ []) ≡ end_of t r es
end_start t r u v at [] = refl
end_start t r u v at (Start w x a ∷ es) = end_start t r u v at es
end_start t r u v at (End w x a ∷ es) = ap (λ n. if w == t && x == r then a else n) (end_start t r u v at es)

end_other : (t r u s at : ℕ) (es : List Event) → (u == t && s == r) ≡ false → end_of t r (es ++ End u s at ∷ []) ≡ end_of t r es
end_other t r u s at [] other = ap (λ b. if b then at else FOREVER) other
end_other t r u s at (Start w x a ∷ es) other = end_other t r u s at es other
end_other t r u s at (End w x a ∷ es) other = ap (λ n. if w == t && x == r then a else n) (end_other t r u s at es other)

end_kept : (t r : ℕ) (e : Event) (es : List Event) → (table_of e == t) ≡ false → end_of t r (es ++ e ∷ []) ≡ end_of t r es
end_kept t r (Start u v at) es other = end_start t r u v at es
end_kept t r (End u s at) es other = end_other t r u s at es (ap (λ b. b && (s == r)) other)

end_own : (t r at : ℕ) (es : List Event) → All (λ e. time_of e < FOREVER) es → at < FOREVER → (end_of t r (es ++ End t r at ∷ []) == FOREVER) ≡ false
end_own t r at [] finite less =
    ap (λ b. (if b && r == r then at else FOREVER) == FOREVER) (eqb-same t) ∙ ap (λ b. (if b then at else FOREVER) == FOREVER) (eqb-same r) ∙ eqb-other at FOREVER (λ same. omega (arith, same, less))
end_own t r at (Start w x a ∷ es) finite less = end_own t r at es (All-tail (λ e. time_of e < FOREVER) (Start w x a) es finite) less
end_own t r at (End w x a ∷ es) finite less = by (w == t && x == r) (end_own t r at es (All-tail (λ e. time_of e < FOREVER) (End w x a) es finite) less)
  where
    by : (b : Bool) → (end_of t r (es ++ End t r at ∷ []) == FOREVER) ≡ false → ((if b then a else end_of t r (es ++ End t r at ∷ [])) == FOREVER) ≡ false
    by true later = eqb-other a FOREVER (λ same. let here : a < FOREVER = finite 0 (End w x a) (omega arith) in omega (arith, same, here))
    by false later = later

-- ---- the starts of a table's rows after one more event

module _ (t : ℕ) where
  abbrev head : ℕ → ℕ → List Event → Option ℕ
  head next at es = if end_of t next es == FOREVER then Some at else None

  starts_other : (next : ℕ) (es : List Event) (e : Event) → (table_of e == t) ≡ false → open_starts t next (es ++ e ∷ []) ≡ open_starts t next es
  starts_other next [] (Start u v at) other = ap (λ b. map open_start (if b then row_at t next v at [] ∷ [] else [])) other
  starts_other next [] (End u s at) other = refl
  starts_other next (End w x a ∷ es) e other = starts_other next es e other
  starts_other next (Start w x a ∷ es) e other = by (w == t) (starts_other next es e other) (starts_other (next + 1) es e other)
    where
      by : (b : Bool) → open_starts t next (es ++ e ∷ []) ≡ open_starts t next es → open_starts t (next + 1) (es ++ e ∷ []) ≡ open_starts t (next + 1) es
          → map open_start (if b then row_at t next x a (es ++ e ∷ []) ∷ rows_from t (next + 1) (es ++ e ∷ []) else rows_from t next (es ++ e ∷ []))
          ≡ map open_start (if b then row_at t next x a es ∷ rows_from t (next + 1) es else rows_from t next es)
      by true same later = ap (λ n. (if n == FOREVER then Some a else None) ∷ open_starts t (next + 1) (es ++ e ∷ [])) (end_kept t next e es other) ∙ ap (λ l. head next a es ∷ l) later
      by false same later = same

  starts_start : (next : ℕ) (es : List Event) (v : List Value) (at : ℕ) → open_starts t next (es ++ Start t v at ∷ []) ≡ open_starts t next es ++ Some at ∷ []
  starts_start next [] v at = ap (λ b. map open_start (if b then row_at t next v at [] ∷ [] else [])) (eqb-same t)
  starts_start next (End w x a ∷ es) v at = starts_start next es v at
  starts_start next (Start w x a ∷ es) v at = by (w == t) (starts_start next es v at) (starts_start (next + 1) es v at)
    where
      more : List Event
      more = es ++ Start t v at ∷ []

      by : (b : Bool) → open_starts t next (es ++ Start t v at ∷ []) ≡ open_starts t next es ++ Some at ∷ [] → open_starts t (next + 1) (es ++ Start t v at ∷ []) ≡ open_starts t (next + 1) es ++ Some at ∷ []
          → map open_start (if b then row_at t next x a (es ++ Start t v at ∷ []) ∷ rows_from t (next + 1) (es ++ Start t v at ∷ []) else rows_from t next (es ++ Start t v at ∷ []))
          ≡ map open_start (if b then row_at t next x a es ∷ rows_from t (next + 1) es else rows_from t next es) ++ Some at ∷ []
      by true same later = ap (λ n. (if n == FOREVER then Some a else None) ∷ open_starts t (next + 1) (es ++ Start t v at ∷ [])) (end_start t next t v at es) ∙ ap (λ l. head next a es ∷ l) later
      by false same later = same

  starts_below : (next number at : ℕ) (es : List Event) → number < next → open_starts t next (es ++ End t number at ∷ []) ≡ open_starts t next es
  starts_below next number at [] less = refl
  starts_below next number at (End w x a ∷ es) less = starts_below next number at es less
  starts_below next number at (Start w x a ∷ es) less = by (w == t) (starts_below next number at es less) (starts_below (next + 1) number at es (omega (arith, less)))
    where
      other : (t == t && number == next) ≡ false
      other = ap (λ b. b && (number == next)) (eqb-same t) ∙ eqb-other number next (λ same. omega (arith, same, less))

      by : (b : Bool) → open_starts t next (es ++ End t number at ∷ []) ≡ open_starts t next es → open_starts t (next + 1) (es ++ End t number at ∷ []) ≡ open_starts t (next + 1) es
          → map open_start (if b then row_at t next x a (es ++ End t number at ∷ []) ∷ rows_from t (next + 1) (es ++ End t number at ∷ []) else rows_from t next (es ++ End t number at ∷ []))
          ≡ map open_start (if b then row_at t next x a es ∷ rows_from t (next + 1) es else rows_from t next es)
      by true same later = ap (λ n. (if n == FOREVER then Some a else None) ∷ open_starts t (next + 1) (es ++ End t number at ∷ [])) (end_other t next t number at es other) ∙ ap (λ l. head next a es ∷ l) later
      by false same later = same

  starts_end : (next i number at : ℕ) (es : List Event) → All (λ e. time_of e < FOREVER) es → at < FOREVER → number ≡ next + i → open_starts t next (es ++ End t number at ∷ []) ≡ slice_set (open_starts t next es) i None
  starts_end next i number at [] finite less is = refl
  starts_end next i number at (End w x a ∷ es) finite less is = starts_end next i number at es (All-tail (λ e. time_of e < FOREVER) (End w x a) es finite) less is
  starts_end next zero number at (Start w x a ∷ es) finite less is = by (w == t) (starts_end next zero number at es later_finite less is)
    where
      later_finite : All (λ e. time_of e < FOREVER) es
      later_finite = All-tail (λ e. time_of e < FOREVER) (Start w x a) es finite

      same_number : number ≡ next
      same_number = omega (arith, is)

      by : (b : Bool) → open_starts t next (es ++ End t number at ∷ []) ≡ slice_set (open_starts t next es) zero None
          → map open_start (if b then row_at t next x a (es ++ End t number at ∷ []) ∷ rows_from t (next + 1) (es ++ End t number at ∷ []) else rows_from t next (es ++ End t number at ∷ []))
          ≡ slice_set (map open_start (if b then row_at t next x a es ∷ rows_from t (next + 1) es else rows_from t next es)) zero None
      by true same =
          ap (λ n. (if end_of t next (es ++ End t n at ∷ []) == FOREVER then Some a else None) ∷ open_starts t (next + 1) (es ++ End t number at ∷ [])) same_number
          ∙ ap (λ b. (if b then Some a else None) ∷ open_starts t (next + 1) (es ++ End t number at ∷ [])) (end_own t next at es later_finite less)
          ∙ ap (λ l. None ∷ l) (starts_below (next + 1) number at es (omega (arith, is)))
      by false same = same
  starts_end next (suc i) number at (Start w x a ∷ es) finite less is = by (w == t) (starts_end next (suc i) number at es later_finite less is) (starts_end (next + 1) i number at es later_finite less (omega (arith, is)))
    where
      later_finite : All (λ e. time_of e < FOREVER) es
      later_finite = All-tail (λ e. time_of e < FOREVER) (Start w x a) es finite

      other : (t == t && number == next) ≡ false
      other = ap (λ b. b && (number == next)) (eqb-same t) ∙ eqb-other number next (λ same. omega (arith, same, is))

      by : (b : Bool) → open_starts t next (es ++ End t number at ∷ []) ≡ slice_set (open_starts t next es) (suc i) None → open_starts t (next + 1) (es ++ End t number at ∷ []) ≡ slice_set (open_starts t (next + 1) es) i None
          → map open_start (if b then row_at t next x a (es ++ End t number at ∷ []) ∷ rows_from t (next + 1) (es ++ End t number at ∷ []) else rows_from t next (es ++ End t number at ∷ []))
          ≡ slice_set (map open_start (if b then row_at t next x a es ∷ rows_from t (next + 1) es else rows_from t next es)) (suc i) None
      by true same later = ap (λ n. (if n == FOREVER then Some a else None) ∷ open_starts t (next + 1) (es ++ End t number at ∷ [])) (end_other t next t number at es other) ∙ ap (λ l. head next a es ∷ l) later
      by false same later = same

-- the starts of the event's own table
starts_own : (es : List Event) (e : Event) → All (λ x. time_of x < FOREVER) es → time_of e < FOREVER → open_starts (table_of e) 0 (es ++ e ∷ []) ≡ after_event e (open_starts (table_of e) 0 es)
starts_own es (Start t v at) finite less = starts_start t 0 es v at
starts_own es (End t r at) finite less = starts_end t 0 r r at es finite less (omega arith)

-- ---- histories

split_push : {X : Type 0} → (xs : List X) (x : X) (before : List X) (y : X) (after : List X) → xs ++ x ∷ [] ≡ before ++ y ∷ after
    → ((before ≡ xs) × (y ≡ x)) ⊎ ((rest : List X) × (xs ≡ before ++ y ∷ rest))
split_push [] x [] y after is = inl (refl, cc)
split_push [] x (b ∷ []) y after is = absurd (cc)
split_push [] x (b ∷ c ∷ bs) y after is = absurd (cc)
split_push (a ∷ xs) x [] y after is = inr (xs, cc)
split_push (a ∷ xs) x (b ∷ bs) y after is =
    let heads : a ≡ b = cc in
    let tails : xs ++ x ∷ [] ≡ bs ++ y ∷ after = cc in
    elim (split_push xs x bs y after tails) [
      | inl w ↦ inl (let same : bs ≡ xs = w.0 in cc, w.1)
      | inr w ↦ inr (w.0, let same : xs ≡ bs ++ y ∷ w.0 = w.1 in cc)
    ]

pub history_push : (c : Catalogue) (es : List Event) (e : Event) → IsHistory c es → IsAdmissible c es e → IsHistory c (es ++ e ∷ [])
history_push c es e history fits before event after is =
    elim (split_push es e before event after is) [
      | inl w ↦ subst (λ x. IsAdmissible c before x) (sym w.1) (subst (λ l. IsAdmissible c l e) (sym w.0) fits)
      | inr w ↦ history before event w.0 w.1
    ]

-- ---- which ends are admissible

abbrev OpenBefore : ℕ → Option ℕ → Type 0
OpenBefore at start = IsSomeAnd start (λ from. from < at)

open_row_at : (es : List Event) (t r at : ℕ) → IsSomeAnd (slice_get (open_starts t 0 es) r) (OpenBefore at) → IsOpenBefore es t r at
open_row_at es t r at open_there = by_row (slice_get rows r) refl (subst (λ o. IsSomeAnd o (OpenBefore at)) (slice_get-map open_start rows r) open_there)
  where
    rows : List Row
    rows = rows_from t 0 es

    by_row : (o : Option Row) → slice_get rows r ≡ o → IsSomeAnd (option_map open_start o) (OpenBefore at) → IsOpenBefore es t r at
    by_row None is here = absurd here
    by_row (Some row) is here = by_end (row.to == FOREVER) refl here
      where
        within : r < length rows
        within = slice_get_within rows r row is

        same : get_or rows r row ≡ row
        same = get_or_from_slice_get rows r row row is

        by_end : (b : Bool) → (row.to == FOREVER) ≡ b → OpenBefore at (if b then Some row.from else None) → IsOpenBefore es t r at
        by_end true forever from =
            (row, subst (λ l. Contains (rows_from t 0 l) row) (sym (take-length es)) (r, within, same), sym (ap (λ (x : Row). x.number) same) ∙ numbered t 0 es r row within ∙ omega arith, eqb-true row.to FOREVER forever, from)
        by_end false ended from = absurd from

start_of_open_row : (es : List Event) (t r at : ℕ) → IsOpenBefore es t r at → IsSomeAnd (slice_get (open_starts t 0 es) r) (OpenBefore at)
start_of_open_row es t r at (row, contained, number, forever, from) =
    subst (λ o. IsSomeAnd o (OpenBefore at)) (sym (slice_get-map open_start rows r))
    (subst (λ o. IsSomeAnd (option_map open_start o) (OpenBefore at)) (sym found) (subst (λ b. OpenBefore at (if b then Some row.from else None)) (sym (ap (λ n. n == FOREVER) forever ∙ eqb-same FOREVER)) from))
  where
    rows : List Row
    rows = rows_from t 0 es

    here : Contains rows row
    here = subst (λ l. Contains (rows_from t 0 l) row) (take-length es) contained

    place : here.0 ≡ r
    place = omega (arith, numbered t 0 es here.0 row here.1, ap (λ (x : Row). x.number) here.2, number)

    found : slice_get rows r ≡ Some row
    found = ap (slice_get rows) (sym place) ∙ slice_get-get_or rows here.0 row here.1 ∙ ap (λ x. Some x) here.2

module _ (tables : ℕ) (es : List Event) (starts : List (List (Option ℕ))) (are : AreStarts tables es starts) where
  pub end_possible : (t r at : ℕ) → CanEnd starts t r at → (t < tables) × IsOpenBefore es t r at
  end_possible t r at can = by (nat_lt t tables) refl (subst (λ o. IsSomeAnd o (λ rows. IsSomeAnd (slice_get rows r) (OpenBefore at))) (are.each t) can)
    where
      by : (b : Bool) → nat_lt t tables ≡ b → IsSomeAnd (if b then Some (open_starts t 0 es) else None) (λ rows. IsSomeAnd (slice_get rows r) (OpenBefore at)) → (t < tables) × IsOpenBefore es t r at
      by true is here = (grind (arith, nat_tests), open_row_at es t r at here)
      by false is here = absurd here

  pub possible_end : (t r at : ℕ) → (t < tables) × IsOpenBefore es t r at → CanEnd starts t r at
  possible_end t r at (less, open_there) =
      let is : nat_lt t tables ≡ true = grind (arith, nat_tests) in
      subst (λ o. IsSomeAnd o (λ rows. IsSomeAnd (slice_get rows r) (OpenBefore at))) (sym (are.each t ∙ ap (λ b. if b then Some (open_starts t 0 es) else None) is)) (start_of_open_row es t r at open_there)

-- ---- the open rows after one more event

pub get_set_same : {X : Type 0} → (xs : List X) (i : ℕ) (v : X) → i < length xs → slice_get (slice_set xs i v) i ≡ Some v
get_set_same [] i v less = absurd (omega (arith, less))
get_set_same (x ∷ xs) zero v less = refl
get_set_same (x ∷ xs) (suc i) v less = get_set_same xs i v (omega (arith, less))

pub get_set_other : {X : Type 0} → (xs : List X) (i j : ℕ) (v : X) → j ≢ i → slice_get (slice_set xs i v) j ≡ slice_get xs j
get_set_other [] i j v other = refl
get_set_other (x ∷ xs) zero zero v other = absurd (other refl)
get_set_other (x ∷ xs) zero (suc j) v other = refl
get_set_other (x ∷ xs) (suc i) zero v other = refl
get_set_other (x ∷ xs) (suc i) (suc j) v other = get_set_other xs i j v (λ same. other (ap suc same))

pub set_past : {X : Type 0} → (xs : List X) (i : ℕ) (v : X) → length xs ≤ i → slice_set xs i v ≡ xs
set_past [] i v past = refl
set_past (x ∷ xs) zero v past = absurd (omega (arith, past))
set_past (x ∷ xs) (suc i) v past = ap (λ l. x ∷ l) (set_past xs i v (omega (arith, past)))

none_past : {X : Type 0} → (xs : List X) (i : ℕ) → slice_get xs i ≡ None → length xs ≤ i
none_past [] i is = omega arith
none_past (x ∷ xs) zero is = absurd (cc)
none_past (x ∷ xs) (suc i) is = omega (arith, none_past xs i is)

pub starts_after : (tables : ℕ) (es : List Event) (e : Event) (starts : List (List (Option ℕ))) → AreStarts tables es starts → time_of e < FOREVER → AreStarts tables (es ++ e ∷ []) (noted e starts)
starts_after tables es e starts are less = record {
  each = λ t. by_table t (table_of e == t) refl;
  finite = All-push (λ x. time_of x < FOREVER) es e are.finite less;
}
  where
    u : ℕ
    u = table_of e

    new : List (Option ℕ)
    new = after_event e (get_or starts u [])

    by_known : (b : Bool) → nat_lt u tables ≡ b → slice_get starts u ≡ (if b then Some (open_starts u 0 es) else None)
        → slice_get (slice_set starts u new) u ≡ (if b then Some (open_starts u 0 (es ++ e ∷ [])) else None)
    by_known true is here =
        get_set_same starts u new (slice_get_within starts u (open_starts u 0 es) here)
        ∙ ap (λ l. Some (after_event e l)) (get_or_from_slice_get starts u (open_starts u 0 es) [] here)
        ∙ ap (λ l. Some l) (sym (starts_own es e are.finite less))
    by_known false is here = ap (λ l. slice_get l u) (set_past starts u new (none_past starts u here)) ∙ here

    by_table : (t : ℕ) (b : Bool) → (table_of e == t) ≡ b → slice_get (slice_set starts u new) t ≡ (if nat_lt t tables then Some (open_starts t 0 (es ++ e ∷ [])) else None)
    by_table t true is =
        let same : u ≡ t = eqb-true u t is in
        subst (λ n. slice_get (slice_set starts u new) n ≡ (if nat_lt n tables then Some (open_starts n 0 (es ++ e ∷ [])) else None)) same
        (by_known (nat_lt u tables) refl (are.each u))
    by_table t false is =
        get_set_other starts u t new (λ same. let wrong : true ≡ false = sym (eqb-same u) ∙ ap (λ n. u == n) (sym same) ∙ is in cc)
        ∙ are.each t
        ∙ ap (λ l. if nat_lt t tables then Some l else None) (sym (starts_other t 0 es e is))

pub table_within : (c : Catalogue) (es : List Event) (e : Event) (starts : List (List (Option ℕ))) → AreStarts (length c.tables) es starts → IsAdmissible c es e → table_of e < length starts
table_within c es e starts are fits = slice_get_within starts (table_of e) (open_starts (table_of e) 0 es) (are.each (table_of e) ∙ ap (λ b. if b then Some (open_starts (table_of e) 0 es) else None) (known e fits.1))
  where
    known : (x : Event) → CanHappen c es x → nat_lt (table_of x) (length c.tables) ≡ true
    known (Start t v at) can = by (slice_get c.tables t) refl can
      where
        by : (o : Option Schema) → slice_get c.tables t ≡ o → IsSomeAnd o (λ (s : Schema). Fit s.columns v) → nat_lt t (length c.tables) ≡ true
        by None is can = absurd can
        by (Some s) is can = let less : t < length c.tables = slice_get_within c.tables t s is in grind (arith, nat_tests)
    known (End t r at) can = let less : t < length c.tables = can.0 in grind (arith, nat_tests)
