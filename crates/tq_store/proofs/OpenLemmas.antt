-- The first open row with given values, by a pass over the events.
use Rattle.std.proofs.Common.{◌≡◌, ℕ, ◌+◌, ◌==◌, ◌&&◌, Bool, true, false, cond, if◌then◌else◌, List, ◌∷◌, Option, Some, length, nat_lt, refl, ap, ◌∙◌, arith}
use Rattle.std.specs.Prelude.{position}
use Rattle.std.specs.List.{position_from}
use Rattle.std.specs.Ordering.{eq_by_cmp}
use Rattle.std.proofs.lemmas.Iterator.Adapters.{position_from-zero}
use Rattle.std.proofs.lemmas.List.{take_all}
use Rattle.tq_base.specs.declared.period.TheConstants.{FOREVER}
use Rattle.tq_base.specs.declared.value.Value.{Value}
use Rattle.tq_base.specs.ValueOrder.{values_cmp}
use Rattle.tq_event.specs.declared.event.Event.{Event}
use Rattle.tq_event.specs.declared.event.Event.TheVariants.{Start, End}
use Rattle.tq_event.specs.History.{end_of, rows_from}
use Rattle.tq_event.specs.Opening.{is_open_like, open_row}
use Rattle.tq_store.specs.Stored.{starts_like, starts_of}

and_swap : (a b : Bool) → (a && b) ≡ (b && a)
and_swap true true = refl
and_swap true false = refl
and_swap false true = refl
and_swap false false = refl

-- the first row from the next number on, by these events
abbrev pub first_from : ℕ → ℕ → List Value → ℕ → List Event → Option ℕ
first_from t row values at es = position_from (is_open_like values at) row (rows_from t row es)

module _ (t : ℕ) (values : List Value) (at row : ℕ) where
  begun : (u : ℕ) (v : List Value) (a : ℕ) (es : List Event) → (u == t) ≡ true
      → first_from t row values at (Start u v a ∷ es) ≡ cond (starts_like values at (Start u v a) && end_of t row es == FOREVER) (Some row) (first_from t (row + 1) values at es)
  begun u v a es so =
      ap (λ b. position_from (is_open_like values at) row (if b then record { number = row; values = v; from = a; to = end_of t row es } ∷ rows_from t (row + 1) es else rows_from t row es)) so
      ∙ ap (λ b. cond b (Some row) (first_from t (row + 1) values at es)) (and_swap (end_of t row es == FOREVER) (nat_lt a at && eq_by_cmp values_cmp v values))

  pub taken : (e : Event) (es : List Event) → starts_of t e ≡ true → (starts_like values at e && end_of t row es == FOREVER) ≡ true → first_from t row values at (e ∷ es) ≡ Some row
  taken (Start u v a) es so opens = begun u v a es so ∙ ap (λ b. cond b (Some row) (first_from t (row + 1) values at es)) opens
  taken (End u r a) es so opens = absurd (cc)

pub walked : (es : List Event) (t : ℕ) (values : List Value) (at : ℕ) → open_row es t values at ≡ first_from t 0 values at es
walked es t values at =
    ap (λ l. position (is_open_like values at) (rows_from t 0 l)) (take_all (length es) es (omega arith))
    ∙ position_from-zero (is_open_like values at) (rows_from t 0 es)
