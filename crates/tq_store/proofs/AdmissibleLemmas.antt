-- The indexes decide which events are admissible.
use Rattle.std.proofs.Common.{◌≡◌, ℕ, ℤ, zero, suc, ◌-◌, ◌<◌, ◌≤◌, Bool, true, false, if◌then◌else◌, List, [], ◌∷◌, ◌++◌, Option, Some, None, length, slice_get, nat_lt, refl, sym, ap, subst, ◌∙◌, ◌⊎◌, inl, inr, arith, rules}
use Rattle.std.specs.Prelude.{IfSome, IsSomeAnd, FitsSigned}
use Rattle.std.specs.Int.{w64}
use Rattle.std.specs.List.Sorted.{IsNonDecreasingBy}
use Rattle.std.proofs.lemmas.Bool.Decides.{nat_tests}
use Rattle.std.specs.Option.{option_map}
use Rattle.std.proofs.lemmas.Option.{get_or_from_slice_get, slice_get-get_or, slice_get-map, slice_get_within}
use Rattle.std.proofs.lemmas.List.Sorted.{IsNonDecreasingBy-push}
use Rattle.tq_base.specs.declared.catalogue.Catalogue.{Catalogue}
use Rattle.tq_base.specs.declared.catalogue.Column.{Column}
use Rattle.tq_base.specs.declared.catalogue.Kind.{Kind}
use Rattle.tq_base.specs.declared.catalogue.Kind.TheVariants as kind
use Rattle.tq_base.specs.declared.catalogue.Schema.{Schema}
use Rattle.tq_base.specs.Catalogues.{Fit, IsOfKind}
use Rattle.tq_base.specs.Contents.{Int, Text}
use Rattle.tq_base.specs.declared.period.TheConstants.{FOREVER}
use Rattle.tq_base.specs.declared.value.Value.{Value}
use Rattle.tq_event.specs.declared.event.Event.{Event}
use Rattle.tq_event.specs.declared.event.Event.TheVariants.{Start, End}
use Rattle.tq_event.specs.History.{CanHappen, IsAdmissible, IsHistory, IsNotBefore, IsOpenBefore, Row, rows_of, time_of}
use Rattle.tq_event.specs.Recorded.{table_of}
use Rattle.tq_event.specs.Versions.{Ending, Life, row_lives}
use Rattle.tq_store.specs.declared.index.Index.{Index}
use Rattle.tq_base.specs.KeyRanges.{key_of}
use Rattle.tq_store.specs.Index.{AreIndexes, AreRowLives, CanEnd, CanTake, FitsIndexes, IsIndexOf, IsOpenAt, columns_of, widths_of}
use Rattle.tq_store.proofs.LifeLemmas.{as_of, end_by, known_by, rows_known}
use Rattle.tq_store.proofs.IndexLemmas.{end_stands, start_stands}

-- ---- keys

kind_key : (k : Kind) (n : ℤ) → IsOfKind k (Int n) → FitsSigned w64 n
kind_key kind.Int n fits = fits
kind_key kind.Text n fits = absurd fits

-- values that fit a table have a key of 64 signed bits
pub fit_key : (columns : List Column) (v : List Value) → Fit columns v → FitsSigned w64 (key_of v)
fit_key [] [] fits = search rules
fit_key [] (x ∷ v) fits = absurd fits
fit_key (c ∷ columns) [] fits = absurd fits
fit_key (c ∷ columns) (Int n ∷ v) fits = kind_key c.kind n fits.0
fit_key (c ∷ columns) (Text t ∷ v) fits = search rules

-- ---- widths

-- values that fit a table are as many as its columns
pub fit_length : (columns : List Column) (values : List Value) → Fit columns values → length values ≡ length columns
fit_length [] [] fits = refl
fit_length [] (v ∷ values) fits = absurd fits
fit_length (c ∷ columns) [] fits = absurd fits
fit_length (c ∷ columns) (v ∷ values) fits = ap suc (fit_length columns values fits.1)

-- ---- open rows

less_is : (a b : ℕ) → a < b → nat_lt a b ≡ true
less_is a b less = search (rules, nat_tests, less)

pub open_before : (es : List Event) (t r at : ℕ) → IsOpenAt es t r at → IsOpenBefore es t r at
open_before es t r at open_there = by (slice_get (row_lives es t) r) refl open_there
  where
    n : ℕ
    n = length es

    by : (o : Option Life) → slice_get (row_lives es t) r ≡ o → IsSomeAnd o (λ (l : Life). (l.ending ≡ None) × (l.from < at)) → IsOpenBefore es t r at
    by None is here = absurd here
    by (Some l) is here =
        let started : l.start < length es = slice_get_within es l.start (Start t l.values l.from) (start_stands es t r l is) in
        let row_is : slice_get (rows_of es (length es) t) r ≡ Some (as_of (length es) r l) =
        rows_known t 0 0 (length es) (length es) r r es (omega arith) (omega arith) ∙ ap (known_by (length es) r) is ∙ ap (λ b. if b then Some (as_of (length es) r l) else None) (less_is l.start (length es) started) in
        (as_of (length es) r l, (r, slice_get_within (rows_of es (length es) t) r (as_of (length es) r l) row_is, get_or_from_slice_get (rows_of es (length es) t) r (as_of (length es) r l) (as_of (length es) r l) row_is), refl, ap (end_by (length es)) here.0, here.1)

pub open_at : (es : List Event) (t r at : ℕ) → AreRowLives es t → IsOpenBefore es t r at → IsOpenAt es t r at
open_at es t r at rows_good (row, there, number, forever, less) = by (slice_get (row_lives es t) i) refl known
  where
    n : ℕ
    n = length es

    i : ℕ
    i = there.0

    known : known_by n i (slice_get (row_lives es t) i) ≡ Some row
    known = sym (rows_known t 0 0 n n i i es (omega arith) (omega arith)) ∙ slice_get-get_or (rows_of es n t) i row there.1 ∙ ap (λ x. Some x) there.2

    by : (o : Option Life) → slice_get (row_lives es t) i ≡ o → known_by n i o ≡ Some row → IsOpenAt es t r at
    by None is here = absurd (cc)
    by (Some l) is here = by_start (nat_lt l.start n) refl here
      where
        by_ending : (o : Option Ending) → l.ending ≡ o → as_of n i l ≡ row → IsOpenAt es t r at
        by_ending None none same =
            let at_r : i ≡ r = ap (λ (x : Row). x.number) same ∙ number in
            let from : l.from < at = subst (λ (x : Row). x.from < at) (sym same) less in
            subst (λ k. IsOpenAt es t k at) at_r (subst (λ o. IsSomeAnd o (λ (l : Life). (l.ending ≡ None) × (l.from < at))) (sym is) (none, from))
        by_ending (Some e) some same =
            let ended : e.event < n = slice_get_within es e.event (End t i e.at) (end_stands es t i l e is some) in
            let to : end_by n l.ending ≡ FOREVER = ap (λ (x : Row). x.to) same ∙ forever in
            let at_end : e.at ≡ FOREVER = sym (ap (λ b. if b then e.at else FOREVER) (less_is e.event n ended)) ∙ sym (ap (end_by n) some) ∙ to in
            let good = rows_good i l is in
            let finite = subst (λ o. IfSome o (λ (x : Ending). x.at < FOREVER)) some good.ends in
            absurd (omega (arith, finite, at_end))

        by_start : (b : Bool) → nat_lt l.start n ≡ b → (if b then Some (as_of n i l) else None) ≡ Some row → IsOpenAt es t r at
        by_start false started known_there = absurd (cc)
        by_start true started known_there = let same : as_of n i l ≡ row = cc in by_ending l.ending refl same

-- ---- ends

none_past : {X : Type 0} → (xs : List X) (i : ℕ) → slice_get xs i ≡ None → length xs ≤ i
none_past [] i is = omega arith
none_past (x ∷ xs) zero is = absurd (cc)
none_past (x ∷ xs) (suc i) is = omega (arith, none_past xs i is)

at_index : (es : List Event) (indexes : List Index) (t : ℕ) (P : Type 0) → AreIndexes es indexes → t < length indexes → ((index : Index) → IsIndexOf es t index → P) → P
at_index es indexes t P are less found = by (slice_get indexes t) refl
  where
    by : (o : Option Index) → slice_get indexes t ≡ o → P
    by None is = absurd (let past = none_past indexes t is in omega (arith, less, past))
    by (Some index) is = found index (are.each t index is)

pub end_possible : (c : Catalogue) (es : List Event) (indexes : List Index) (t r at : ℕ) → length indexes ≡ length c.tables → CanEnd (length indexes) es t r at → (t < length c.tables) × IsOpenBefore es t r at
end_possible c es indexes t r at tables can = (let less = can.0 in omega (arith, less, tables), open_before es t r at can.1)

pub possible_end : (c : Catalogue) (es : List Event) (indexes : List Index) (t r at : ℕ) → length indexes ≡ length c.tables → AreIndexes es indexes → (t < length c.tables) × IsOpenBefore es t r at → CanEnd (length indexes) es t r at
possible_end c es indexes t r at tables are (less, open_there) =
    let within : t < length indexes = omega (arith, less, tables) in
    (within, at_index es indexes t (IsOpenAt es t r at) are within (λ index is. open_at es t r at is.tree.rows open_there))

-- ---- what holds of an admissible event

pub known_table : (c : Catalogue) (es : List Event) (e : Event) → CanHappen c es e → table_of e < length c.tables
known_table c es (Start t v at) can = by (slice_get c.tables t) refl can
  where
    by : (o : Option Schema) → slice_get c.tables t ≡ o → IsSomeAnd o (λ (s : Schema). Fit s.columns v) → t < length c.tables
    by None is can = absurd can
    by (Some s) is can = slice_get_within c.tables t s is
known_table c es (End t r at) can = can.0

pub can_take : (c : Catalogue) (es : List Event) (indexes : List Index) (e : Event) → length indexes ≡ length c.tables → AreIndexes es indexes → IsAdmissible c es e → time_of e < FOREVER → CanTake es e
can_take c es indexes (Start t v at) tables are fits finite = (by (slice_get c.tables t) fits.1, finite)
  where
    by : (o : Option Schema) → IsSomeAnd o (λ (s : Schema). Fit s.columns v) → FitsSigned w64 (key_of v)
    by None can = absurd can
    by (Some s) can = fit_key s.columns v can
can_take c es indexes (End t r at) tables are fits finite = ((possible_end c es indexes t r at tables are fits.1).1, finite)

-- a row that starts has as many values as the other rows of its table
pub fits_indexes : (c : Catalogue) (es : List Event) (indexes : List Index) (e : Event) → widths_of indexes ≡ columns_of c.tables → IsAdmissible c es e → FitsIndexes indexes e
fits_indexes c es indexes (Start t v at) widths fits = by (slice_get c.tables t) refl fits.1
  where
    by : (o : Option Schema) → slice_get c.tables t ≡ o → IsSomeAnd o (λ (s : Schema). Fit s.columns v) → FitsIndexes indexes (Start t v at)
    by None is can = absurd can
    by (Some s) is can =
        fit_length s.columns v can
        ∙ sym (get_or_from_slice_get (widths_of indexes) t (length s.columns) 0
        (ap (λ ws. slice_get ws t) widths ∙ slice_get-map (λ (x : Schema). length x.columns) c.tables t ∙ ap (option_map (λ (x : Schema). length x.columns)) is))
fits_indexes c es indexes (End t r at) widths fits = tt

-- ---- histories

split_push : {X : Type 0} → (xs : List X) (x : X) (before : List X) (y : X) (after : List X) → xs ++ x ∷ [] ≡ before ++ y ∷ after
    → ((before ≡ xs) × (y ≡ x)) ⊎ ((rest : List X) × (xs ≡ before ++ y ∷ rest))
split_push [] x [] y after is = inl (refl, cc)
split_push [] x (b ∷ []) y after is = absurd (cc)
split_push [] x (b ∷ c ∷ bs) y after is = absurd (cc)
split_push (a ∷ xs) x [] y after is = inr (xs, cc)
split_push (a ∷ xs) x (b ∷ bs) y after is =
    let heads : a ≡ b = cc in
    let tails : xs ++ x ∷ [] ≡ bs ++ y ∷ after = cc in
    elim (split_push xs x bs y after tails) [
      | inl w ↦ inl (let same : bs ≡ xs = w.0 in cc, w.1)
      | inr w ↦ inr (w.0, let same : xs ≡ bs ++ y ∷ w.0 = w.1 in cc)
    ]

pub history_push : (c : Catalogue) (es : List Event) (e : Event) → IsHistory c es → IsAdmissible c es e → IsHistory c (es ++ e ∷ [])
history_push c es e history fits before event after is =
    elim (split_push es e before event after is) [
      | inl w ↦ subst (λ x. IsAdmissible c before x) (sym w.1) (subst (λ l. IsAdmissible c l e) (sym w.0) fits)
      | inr w ↦ history before event w.0 w.1
    ]

pub ordered_push : (es : List Event) (e : Event) → IsNonDecreasingBy time_of es → IsNotBefore es (time_of e) → IsNonDecreasingBy time_of (es ++ e ∷ [])
ordered_push es e ordered later = IsNonDecreasingBy-push time_of es e ordered
    (λ d some. subst (λ o. IfSome o (λ last. time_of last ≤ time_of e)) (slice_get-get_or es (length es - 1) d (omega (arith, some))) later)
