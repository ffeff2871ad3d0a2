-- First days of months, quarters, years and longer units. A date's text is that of ISO 8601. This project's own.
use Rattle.std.specs.Prelude.{ℕ, ◌+◌, ◌-◌, nat_eq, nat_le, Bool, true, ◌||◌, if◌then◌else◌, List, [], ◌∷◌, codes, length, min}
use Rattle.std.specs.List.{ends_with, filter, range_with_len}
use Rattle.tq_base.specs.Numbers.{instant_text}
use Rattle.tq_base.specs.declared.dates.TheConstants.{LAST_DAY}
use Rattle.tq_base.specs.declared.form.Form.TheVariants.{Dates}
use Rattle.tq_draw.specs.declared.calendar.Unit.{Unit}
use Rattle.tq_draw.specs.declared.calendar.Unit.TheVariants.{Day, Month, Quarter, Year, Decade, Century, Millennium}

-- the date ends in these characters
abbrev pub ends : List ℕ → List ℕ → Bool
ends date suffix = ends_with nat_eq date suffix

-- whether a period of the unit begins at the date: of a month on the first day, of a quarter on 1 January, April, July and
-- October, of a year on 1 January, and of 10, 100 or 1,000 years on 1 January of a year that is a multiple
abbrev pub is_first_date : Unit → List ℕ → Bool
is_first_date Day date = true
is_first_date Month date = ends date (codes "-01")
is_first_date Quarter date =
    ends date (codes "-01-01") || (ends date (codes "-04-01") || (ends date (codes "-07-01") || ends date (codes "-10-01")))
is_first_date Year date = ends date (codes "-01-01")
is_first_date Decade date = ends date (codes "0-01-01")
is_first_date Century date = ends date (codes "00-01-01")
is_first_date Millennium date = ends date (codes "000-01-01")

-- the same of a day
unfoldable pub is_first : Unit → ℕ → Bool
is_first unit day = is_first_date unit (instant_text Dates day)

-- the days from `first` up to, and not including, `last` at which periods of the unit begin, up to the last day with a date
unfoldable pub first_days : Unit → ℕ → ℕ → List ℕ
first_days unit first last = filter (is_first unit) (range_with_len first (min last (LAST_DAY + 1) - first))

-- the units but for the coarsest, from the finest on
abbrev pub finer_units : List Unit
finer_units = Day ∷ Month ∷ Quarter ∷ Year ∷ Decade ∷ Century ∷ []

-- the first of these units that has no more than `most` first days there, or else 1,000 years
abbrev pub unit_among : List Unit → ℕ → ℕ → ℕ → Unit
unit_among [] most first last = Millennium
unit_among (unit ∷ units) most first last =
    if nat_le (length (first_days unit first last)) most then unit else unit_among units most first last

-- the finest unit with no more than `most` first days there
unfoldable pub unit_of : ℕ → ℕ → ℕ → Unit
unit_of most first last = unit_among finer_units most first last
