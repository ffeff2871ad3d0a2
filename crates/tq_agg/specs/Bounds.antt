-- The bounds of the rows of a group in a window.
use Rattle.std.specs.Prelude.{ℕ, max, min}
use Rattle.tq_base.specs.declared.period.Period.{Period}
use Rattle.tq_base.specs.declared.sort_input.SortKey.{SortKey}
use Rattle.tq_base.specs.Keys.{key_row, SortInputState}
use Rattle.tq_agg.specs.declared.bounds.End.{End}

-- the bound, or the nearer end of the window
abbrev pub moved : Period → ℕ → ℕ
moved window bound = max window.start (min bound window.end)

-- the start of the row of a key
abbrev pub start_in : Period → SortKey → ℕ
start_in window k = moved window k.start

-- its end
abbrev pub end_in : SortInputState → Period → SortKey → End
end_in s window k = record { at = moved window (key_row s k).period.end; row = k.row; side = k.side }
