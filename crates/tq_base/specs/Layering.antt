-- Layers of the periods of one list of values: what `coalesce` makes of each group of rows with equal values.
use Rattle.std.specs.Prelude.{◌≡◌, ℕ, List, All, IsSorted, count_by, ◌++◌, map}
use Rattle.std.specs.Cmp.{IsTotalOrder, nat_cmp_total, on_total, then_total}
use Rattle.std.specs.Ordering.{nat_cmp, on, then_cmp}
use Rattle.std.specs.declared.cmp.Ordering.{Ordering}
use Rattle.tq_base.specs.declared.value.Value.{Value}
use Rattle.tq_base.specs.declared.period.Period.{Period}
use Rattle.tq_base.specs.declared.fragment.Fragment.{Fragment}
use Rattle.tq_base.specs.Periods.{holds}
use Rattle.tq_base.specs.Layers.{TakesIn}

-- how many of the periods hold the instant
abbrev pub held : List Period → ℕ → ℕ
held periods t = count_by (λ p. holds p t) periods

-- each period contains each other period that overlaps or meets it and begins later
abbrev pub IsNested : List Period → Type 0
IsNested periods = All (λ p. All (λ q. TakesIn p q) periods) periods

-- nested periods that hold each instant as often as the given periods do
pub record IsLayering (periods layering : List Period) : Type 0 where
  pub nested : IsNested layering
  pub held_alike : (t : ℕ) → held layering t ≡ held periods t

-- by the start, then by the end
abbrev pub period_cmp : Period → Period → Ordering
period_cmp = then_cmp (on (λ p. p.start) nat_cmp) (on (λ p. p.end) nat_cmp)

pub period_total : IsTotalOrder period_cmp
period_total = then_total (on_total (λ p. p.start) nat_cmp_total) (on_total (λ p. p.end) nat_cmp_total)

-- one row with the values for each period
abbrev pub rows_of : List Value → List Period → List Fragment
rows_of v periods = map (λ p. record { values = v; period = p }) periods

-- new is old, followed by one row with the values for each period of a layering of the group's periods, in order
pub record AddsLayers (v : List Value) (group old new : List Fragment) : Type 0 where
  pub layering : List Period
  pub is_layering : IsLayering (map (λ f. f.period) group) layering
  pub in_order : IsSorted period_cmp layering
  pub added : new ≡ old ++ rows_of v layering
