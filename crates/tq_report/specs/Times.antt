-- Rows in the order of time. This project's own.
use Rattle.std.specs.Prelude.{ℕ, List, slice_index_or}
use Rattle.std.specs.Cmp.{IsTotalOrder, nat_cmp_total, on_total, then_total}
use Rattle.std.specs.Ordering.{nat_cmp, on, then_cmp}
use Rattle.std.specs.declared.cmp.Ordering.{Ordering}
use Rattle.tq_base.specs.Keys.{no_row}
use Rattle.tq_base.specs.ValueOrder.{values_cmp, values_total}
use Rattle.tq_base.specs.declared.fragment.Fragment.{Fragment}
use Rattle.tq_base.specs.declared.relation.RowPeriod.{RowPeriod}

-- by the start, then by the end, then by the values
abbrev pub time_cmp : Fragment → Fragment → Ordering
time_cmp =
    then_cmp
    (then_cmp (on (λ f. f.period.start) nat_cmp) (on (λ f. f.period.end) nat_cmp))
    (on (λ f. f.values) values_cmp)

pub time_total : IsTotalOrder time_cmp
time_total =
    then_total
    (then_total (on_total (λ f. f.period.start) nat_cmp_total) (on_total (λ f. f.period.end) nat_cmp_total))
    (on_total (λ f. f.values) values_total)

-- the number and the period of a row
abbrev pub row_key : List Fragment → ℕ → RowPeriod
row_key rows row = record { row = row; period = (slice_index_or rows row no_row).period }
