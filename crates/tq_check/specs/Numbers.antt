-- Numbers of the periods of a table's rows. This project's own.
use Rattle.std.specs.Prelude.{ℕ, ◌==◌, Bool, max, min, if◌then◌else◌, List}
use Rattle.std.specs.List.{count_by, fold}
use Rattle.tq_base.specs.declared.period.Period.{Period}
use Rattle.tq_base.specs.declared.period.TheConstants.{FOREVER}

-- whether a period has no end
abbrev pub is_open : Period → Bool
is_open period = period.end == FOREVER

-- how many periods have no end
abbrev pub open_periods : List Period → ℕ
open_periods periods = count_by is_open periods

-- the least start; the number of `forever` if there are no periods
abbrev pub first_start : List Period → ℕ
first_start periods = fold (λ first (period : Period). min first period.start) FOREVER periods

-- the last instant at which the period changes something: its end, or its start if it has no end
abbrev pub last_bound : Period → ℕ
last_bound period = if is_open period then period.start else period.end

-- the greatest of these instants; 0 if there are no periods
abbrev pub last_change : List Period → ℕ
last_change periods = fold (λ last (period : Period). max last (last_bound period)) 0 periods
