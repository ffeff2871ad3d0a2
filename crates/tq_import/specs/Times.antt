-- The periods of exported files. This project's own.
use Rattle.std.specs.Prelude.{ℕ, ◌+◌, ◌-◌, Bool, if◌then◌else◌, nat_lt, List, Option, Some, None}
use Rattle.std.specs.List.{list_any}
use Rattle.std.specs.Option.{option_and_then}
use Rattle.std.specs.Str.{bytes_eq}
use Rattle.tq_base.specs.Numbers.{instant_of}
use Rattle.tq_base.specs.declared.dates.TheConstants.{LAST_DAY}
use Rattle.tq_base.specs.declared.form.Form.{Form}
use Rattle.tq_base.specs.declared.form.Form.TheVariants.{Dates, Numbers}
use Rattle.tq_base.specs.declared.period.TheConstants.{FOREVER}
use Rattle.tq_import.specs.declared.plan.TimeFormat.{TimeFormat}
use Rattle.tq_import.specs.declared.plan.TimeUnit.{TimeUnit}
use Rattle.tq_import.specs.declared.plan.TimeUnit.TheVariants.{Day, Second}
use Rattle.tq_import.specs.Clock.{second_in}
use Rattle.tq_import.specs.Dates.{day_in, without_midnight}

-- days are written as dates, and seconds as numbers
abbrev pub unit_form : TimeUnit → Form
unit_form Day = Dates
unit_form Second = Numbers

abbrev pub form_in : Option (List ℕ) → TimeUnit → Form
form_in None unit = Numbers
form_in (Some format) unit = unit_form unit

-- how the instants of the table file are written
abbrev pub form_of : TimeFormat → Form
form_of times = form_in times.dates times.unit

-- the last instant that can be written
abbrev pub last_instant : Form → ℕ
last_instant Numbers = FOREVER - 1
last_instant Dates = LAST_DAY

-- the instant of a date in the format: its day, if it has no time but midnight, or a second
abbrev pub dated_in : TimeUnit → List ℕ → List ℕ → Option ℕ
dated_in Day format field = day_in format (without_midnight field)
dated_in Second format field = second_in format field

abbrev pub written_in : Option (List ℕ) → TimeUnit → List ℕ → Option ℕ
written_in None unit field = instant_of Numbers field
written_in (Some format) unit field = dated_in unit format field

-- the instant of a field: digits, or a date in the format
abbrev pub instant_in : TimeFormat → List ℕ → Option ℕ
instant_in times field = written_in times.dates times.unit field

-- whether the field is a spelling of an open end
abbrev pub is_open : List (List ℕ) → List ℕ → Bool
is_open spellings field = list_any (λ spelling. bytes_eq spelling field) spellings

-- the end of a period whose last instant is given: the next instant, if it can be written
abbrev pub after_last : Form → ℕ → Option ℕ
after_last form last = if nat_lt last (last_instant form) then Some (last + 1) else None

-- the end that is written as an instant: this one, or the next one if ends are included
abbrev pub end_of : TimeFormat → ℕ → Option ℕ
end_of times end = if times.inclusive then after_last (form_of times) end else Some end

-- the bound of a field: `forever` for a spelling of an open end, else the end that its instant writes
abbrev pub bound_in : TimeFormat → List ℕ → Option ℕ
bound_in times field = if is_open times.open field then Some FOREVER else option_and_then (end_of times) (instant_in times field)
