-- The bar of a row shows when it is valid. This project's own.
use Rattle.std.specs.Prelude.{ℕ, ◌+◌, ◌==◌, nat_lt, ◌&&◌, ◌||◌, Bool, if◌then◌else◌, List, [], ◌∷◌, map}
use Rattle.std.specs.List.{range_with_len}
use Rattle.tq_base.specs.declared.period.Period.{Period}
use Rattle.tq_base.specs.declared.period.TheConstants.{FOREVER}
use Rattle.tq_draw.specs.Scales.{edge}
use Rattle.tq_draw.specs.declared.scale.Scale.{Scale}

-- whether the period and the cell have an instant in common
abbrev pub is_valid_in : Scale → Period → ℕ → Bool
is_valid_in scale period cell = nat_lt period.start (edge scale (cell + 1)) && nat_lt (edge scale cell) period.end

-- `#` if the cell has an instant in common with the period, else `.`
abbrev pub bar_byte : Scale → Period → ℕ → ℕ
bar_byte scale period cell = if is_valid_in scale period cell then 35 else 46

-- one byte for each cell
abbrev pub bar_of : Scale → Period → List ℕ
bar_of scale period = map (bar_byte scale period) (range_with_len 0 scale.cells)

-- `<` if the period begins before the scale
abbrev pub lead_of : Scale → Period → List ℕ
lead_of scale period = if nat_lt period.start scale.first then 60 ∷ [] else []

-- `>` if the period ends after the scale, or never
abbrev pub arrow_of : Scale → Period → List ℕ
arrow_of scale period = if (period.end == FOREVER) || nat_lt scale.last period.end then 62 ∷ [] else []
