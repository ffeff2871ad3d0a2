-- The scale of time of a picture, and its cells. This project's own.
use Rattle.std.specs.Prelude.{ℕ, ◌+◌, ◌-◌, ◌*◌, ◌/◌, ◌<◌, ◌≤◌, ◌==◌, nat_lt, ◌&&◌, not, Bool, true, max, min, if◌then◌else◌, List, Option, Some, None}
use Rattle.std.specs.List.{filter, fold}
use Rattle.tq_base.specs.declared.form.Form.{Form}
use Rattle.tq_base.specs.declared.form.Form.TheVariants.{Dates, Numbers}
use Rattle.tq_base.specs.declared.fragment.Fragment.{Fragment}
use Rattle.tq_base.specs.declared.period.Period.{Period}
use Rattle.tq_base.specs.declared.period.TheConstants.{FOREVER}
use Rattle.tq_draw.specs.declared.scale.Scale.{Scale}
use Rattle.tq_draw.specs.declared.scale.TheConstants.{MIN_CELLS, MAX_CELLS}

-- a scale has at least one instant, none after the last bound, and at most as many cells as instants
pub record IsScale (scale : Scale) : Type 0 where
  pub ordered : scale.first < scale.last
  pub within : scale.last ≤ 1000000000000
  pub some : 0 < scale.cells
  pub no_more : scale.cells ≤ scale.last - scale.first
  pub few : scale.cells ≤ 10000

-- the start of a cell, which is the end of the cell before it: equal parts of the scale, rounded down
abbrev pub edge : Scale → ℕ → ℕ
edge scale cell = scale.first + cell * (scale.last - scale.first) / scale.cells

-- without a window each period is in it; a period is in a window if they have an instant in common
abbrev pub is_in_window : Option Period → Period → Bool
is_in_window None period = true
is_in_window (Some window) period = nat_lt period.start window.end && nat_lt window.start period.end

-- the rows that a picture shows: those in the window
abbrev pub shown_rows : Option Period → List Fragment → List Fragment
shown_rows window rows = filter (λ (row : Fragment). is_in_window window row.period) rows

-- whether a period counts in the scale: in dates it does not if it begins at instant 0 and has no end
abbrev pub counts_in_scale : Form → Period → Bool
counts_in_scale Numbers period = true
counts_in_scale Dates period = not ((period.start == 0) && (period.end == FOREVER))

-- the start of the drawn part of a period: its start; in dates, one instant before its end if it begins at instant 0
abbrev pub drawn_start : Form → Period → ℕ
drawn_start Numbers period = period.start
drawn_start Dates period = if period.start == 0 then period.end - 1 else period.start

-- the end of the drawn part of a period: its end, or the instant after its start if it has no end
abbrev pub drawn_end : Period → ℕ
drawn_end period = if period.end == FOREVER then period.start + 1 else period.end

-- the lesser of the number and the period's drawn start, if it counts
abbrev pub earlier : Form → ℕ → Period → ℕ
earlier form least period = if counts_in_scale form period then min least (drawn_start form period) else least

-- the greater of the number and the period's drawn end, if it counts
abbrev pub later : Form → ℕ → Period → ℕ
later form greatest period = if counts_in_scale form period then max greatest (drawn_end period) else greatest

-- the least drawn start of the rows that count
abbrev pub least_start : Form → List Fragment → ℕ
least_start form rows = fold (λ least (row : Fragment). earlier form least row.period) FOREVER rows

-- their greatest drawn end
abbrev pub greatest_end : Form → List Fragment → ℕ
greatest_end form rows = fold (λ greatest (row : Fragment). later form greatest row.period) 0 rows

-- the part of the width that remains after columns of these widths and two spaces after each
abbrev pub room_of : ℕ → List ℕ → ℕ
room_of width widths = fold (λ room column. room - column - 2) width widths

-- the scale from the first instant up to the last bound. It has as many cells as there is room for, at least 16 and at
-- most 10,000, but no more than instants.
abbrev pub scale_over : ℕ → ℕ → ℕ → Scale
scale_over room first last =
    record { first = first; last = last; cells = min (max (min (room - 1) MAX_CELLS) MIN_CELLS) (last - first) }

-- the first instant of the rows' scale: their least drawn start, or 0 if no row counts
abbrev pub first_of : Form → List Fragment → ℕ
first_of form rows = let least = least_start form rows in if least == FOREVER then 0 else least

-- the scale of the rows: from their least drawn start up to their greatest drawn end, with at least one instant
abbrev pub scale_of_rows : Form → ℕ → List Fragment → Scale
scale_of_rows form room rows = let first = first_of form rows in scale_over room first (max (greatest_end form rows) (first + 1))

-- the scale of a picture: its window, or the scale of its rows
abbrev pub scale_of : Form → ℕ → Option Period → List Fragment → Scale
scale_of form room None rows = scale_of_rows form room rows
scale_of form room (Some window) rows = scale_over room window.start window.end
