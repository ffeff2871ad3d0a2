-- Rows of 64-bit numbers stay such rows from the events to the groups of a query.
use Rattle.std.proofs.Common.{ℕ, ℤ, pos, ◌+◌, ◌*◌, ◌+ℤ◌, ◌≤ℤ◌, neg_ℤ, ◌==◌, Bool, true, false, if◌then◌else◌, List, [], ◌∷◌, ◌++◌, map, take, suc, zero, rules, arith}
use Rattle.std.specs.Prelude.{All, FitsSigned, filter}
use Rattle.std.specs.Int.{w64}
use Rattle.std.specs.List.{list_any}
use Rattle.std.proofs.lemmas.Int.{ints}
use Rattle.std.proofs.lemmas.List.Elements.{All-nil, All-cons, All-head, All-tail, All-append, All-filter, All-map, All-take, All-weaker}
use Rattle.tq_base.specs.declared.value.Value.{Value}
use Rattle.tq_event.specs.declared.event.Event.{Event}
use Rattle.tq_event.specs.declared.event.Event.TheVariants.{Start, End}
use Rattle.tq_event.specs.History.{Row as AnyRow, end_of, rows_from, rows_of, valid_at}
use Rattle.tq_base.specs.RowValues.{number_of, value_at}
use Rattle.tq_condition.specs.Ordinary.{product, product_of, projection}
use Rattle.tq_agg.specs.Grouping.{Row, each_once, same_row}
use Rattle.tq_exec.specs.Answers.{as_of, lists_at}
use Rattle.tq_exec.specs.Ordinary.{alone_or_together, groups}
use Rattle.tq_plan.specs.ValidPlans.{is_aggregate}
use Rattle.tq_plan.specs.declared.plans.Output.{Output}
use Rattle.tq_exec.specs.OutputPlaces.{AreNumbers, HasNumbers}

abbrev IsNarrowValue : Value → Type 0
IsNarrowValue value = FitsSigned w64 (number_of value)

-- a missing place counts as 0
pub narrow_at : (row : Row) (place : ℕ) → AreNumbers row → FitsSigned w64 (number_of (value_at row place))
narrow_at [] place narrow = search rules
narrow_at (value ∷ row) zero narrow = All-head IsNarrowValue value row narrow
narrow_at (value ∷ row) (suc place) narrow = narrow_at row place (All-tail IsNarrowValue value row narrow)

-- ---- from the sources' rows to the groups

joined_narrow : (left : Row) (right : List Row) → AreNumbers left → All AreNumbers right → All AreNumbers (map (λ r. left ++ r) right)
joined_narrow left right one all = All-map AreNumbers (λ r. left ++ r) right (All-weaker AreNumbers (λ r. AreNumbers (left ++ r)) (λ r narrow. All-append IsNarrowValue left r one narrow) right all)

product_narrow : (left right : List Row) → All AreNumbers left → All AreNumbers right → All AreNumbers (product left right)
product_narrow [] right lefts rights = All-nil AreNumbers
product_narrow (row ∷ left) right lefts rights =
    All-append AreNumbers (map (λ r. row ++ r) right) (product left right)
    (joined_narrow row right (All-head AreNumbers row left lefts) rights)
    (product_narrow left right (All-tail AreNumbers row left lefts) rights)

pub product_of_narrow : (lists : List (List Row)) → All (All AreNumbers) lists → All AreNumbers (product_of lists)
product_of_narrow [] all = All-cons AreNumbers [] [] (All-nil IsNarrowValue) (All-nil AreNumbers)
product_of_narrow (rows ∷ []) all = All-head (All AreNumbers) rows [] all
product_of_narrow (rows ∷ next ∷ lists) all =
    product_narrow rows (product_of (next ∷ lists)) (All-head (All AreNumbers) rows (next ∷ lists) all)
    (product_of_narrow (next ∷ lists) (All-tail (All AreNumbers) rows (next ∷ lists) all))

alone_narrow : (rows : List Row) → All AreNumbers rows → All (All AreNumbers) (map (λ row. row ∷ []) rows)
alone_narrow rows all = All-map (All AreNumbers) (λ row. row ∷ []) rows (All-weaker AreNumbers (λ row. All AreNumbers (row ∷ [])) (λ row narrow. All-cons AreNumbers row [] narrow (All-nil AreNumbers)) rows all)

gathered_narrow : (counted : Bool) (rows : List Row) → All AreNumbers rows → All (All AreNumbers) (alone_or_together counted rows)
gathered_narrow true rows all = All-cons (All AreNumbers) rows [] all (All-nil (All AreNumbers))
gathered_narrow false rows all = alone_narrow rows all

keyed_narrow : (places : List ℕ) (rows keys : List Row) → All AreNumbers rows → All (All AreNumbers) (map (λ key. filter (λ row. same_row (projection places row) key) rows) keys)
keyed_narrow places rows [] all = All-nil (All AreNumbers)
keyed_narrow places rows (key ∷ keys) all =
    All-cons (All AreNumbers) (filter (λ row. same_row (projection places row) key) rows) _
    (All-filter (λ row. same_row (projection places row) key) AreNumbers rows all)
    (keyed_narrow places rows keys all)

pub groups_narrow : (places : List ℕ) (outputs : List Output) (rows : List Row) → All AreNumbers rows → All (All AreNumbers) (groups places outputs rows)
groups_narrow [] outputs rows all = gathered_narrow (list_any is_aggregate outputs) rows all
groups_narrow (first ∷ more) outputs rows all = keyed_narrow (first ∷ more) rows (each_once (map (projection (first ∷ more)) rows)) all

-- ---- from the events to the sources' rows

started_narrow : (table next : ℕ) (events : List Event) → All HasNumbers events → All (λ (row : AnyRow). AreNumbers row.values) (rows_from table next events)
started_narrow table next [] all = All-nil _
started_narrow table next (Start t values at ∷ events) all =
    by_table (t == table) (started_narrow table (next + 1) events (All-tail HasNumbers (Start t values at) events all))
    (started_narrow table next events (All-tail HasNumbers (Start t values at) events all))
  where
    row : AnyRow
    row = record { number = next; values = values; from = at; to = end_of table next events }

    by_table : (b : Bool) → All (λ (row : AnyRow). AreNumbers row.values) (rows_from table (next + 1) events) → All (λ (row : AnyRow). AreNumbers row.values) (rows_from table next events)
        → All (λ (row : AnyRow). AreNumbers row.values) (if b then row ∷ rows_from table (next + 1) events else rows_from table next events)
    by_table true numbered others = All-cons (λ (row : AnyRow). AreNumbers row.values) row (rows_from table (next + 1) events) (All-head HasNumbers (Start t values at) events all) numbered
    by_table false numbered others = others
started_narrow table next (End t r at ∷ events) all = started_narrow table next events (All-tail HasNumbers (End t r at) events all)

pub lists_narrow : (history : List Event) (n t : ℕ) (tables : List ℕ) → All HasNumbers history → All (All AreNumbers) (lists_at (as_of history n) t tables)
lists_narrow history n t [] all = All-nil (All AreNumbers)
lists_narrow history n t (table ∷ tables) all =
    All-cons (All AreNumbers) (valid_at history n table t) (lists_at (as_of history n) t tables)
    (All-map AreNumbers (λ (row : AnyRow). row.values) _ (All-filter _ (λ (row : AnyRow). AreNumbers row.values) (rows_of history n table)
    (started_narrow table 0 (take n history) (All-take HasNumbers n history all))))
    (lists_narrow history n t tables all)

-- ---- sums

-- the number may be the sum of `n` numbers of 64 bits
pub record IsSumOf (n : ℕ) (sum : ℤ) : Type 0 where
  pub low : neg_ℤ (pos (9223372036854775808 * n)) ≤ℤ sum
  pub high : sum ≤ℤ pos (9223372036854775808 * n)

pub sum_more : (n : ℕ) (sum number : ℤ) → IsSumOf n sum → FitsSigned w64 number → IsSumOf (n + 1) (sum +ℤ number)
sum_more n sum number so_far fits = record { low = omega (arith, ints, so_far.low, fits); high = omega (arith, ints, so_far.high, fits) }
