-- Fragments: their order, which values are valid at an instant, and with how many copies.
use Rattle.std.specs.Prelude.{ℕ, List, map, filter, count_by}
use Rattle.std.specs.Cmp.{IsTotalOrder, nat_cmp_total, on_total, then_total}
use Rattle.std.specs.Ordering.{nat_cmp, on, then_cmp, eq_by_cmp}
use Rattle.std.specs.declared.cmp.Ordering.{Ordering}
use Rattle.tq_base.specs.declared.value.Value.{Value}
use Rattle.tq_base.specs.declared.fragment.Fragment.{Fragment}
use Rattle.tq_base.specs.declared.period.Period.{Period}
use Rattle.tq_base.specs.Periods.{holds}
use Rattle.tq_base.specs.ValueOrder.{values_cmp, values_total}

-- by the values, then by the start, then by the end
abbrev pub fragment_cmp : Fragment → Fragment → Ordering
fragment_cmp =
    then_cmp
    (then_cmp (on (λ f. f.values) values_cmp) (on (λ f. f.period.start) nat_cmp))
    (on (λ f. f.period.end) nat_cmp)

pub fragment_total : IsTotalOrder fragment_cmp
fragment_total =
    then_total
    (then_total (on_total (λ f. f.values) values_total) (on_total (λ f. f.period.start) nat_cmp_total))
    (on_total (λ f. f.period.end) nat_cmp_total)

-- the fragment with these values and this period
abbrev pub fragment_of : (List Value × Period) → Fragment
fragment_of row = record { values = row.0; period = row.1 }

-- the snapshot: the values of each fragment whose period holds the instant
abbrev pub at : List Fragment → ℕ → List (List Value)
at fragments t = map (λ f. f.values) (filter (λ f. holds f.period t) fragments)

-- how often the values occur in a list
abbrev pub occurrences : List (List Value) → List Value → ℕ
occurrences lists v = count_by (λ u. eq_by_cmp values_cmp u v) lists

-- how many copies of the values are valid at the instant
abbrev pub copies : List Fragment → List Value → ℕ → ℕ
copies fragments v t = occurrences (at fragments t) v
