-- Periods that tile another period. This project's own.
use Rattle.std.specs.Prelude.{◌≡◌, ℕ, ◌<◌, List, [], ◌∷◌}
use Rattle.tq_base.specs.declared.period.Period.{Period}

-- the first of the periods begins at the start, each other where the one before it ends, and the last ends at the end
abbrev pub Follow : ℕ → ℕ → List Period → Type 0
Follow start end [] = start ≡ end
Follow start end (p ∷ ps) = (p.start ≡ start) × Follow p.end end ps

-- the periods tile the whole one
abbrev pub Tile : Period → List Period → Type 0
Tile whole parts = Follow whole.start whole.end parts

-- the bound lies strictly inside the period
abbrev pub LiesInside : Period → ℕ → Type 0
LiesInside p bound = (p.start < bound) × (bound < p.end)
