-- The bounds at which rows begin and end, in order of time, and the count of the rows between.
use Rattle.std.specs.Prelude.{ℕ, ℤ, pos, ◌-ℤ◌, ◌<◌, ◌≤◌, List, length, take, min, All, Option, Some, None, slice_index_or, IsSorted}
use Rattle.std.specs.Ordering.{nat_cmp}
use Rattle.tq_base.specs.declared.period.Period.{Period}
use Rattle.tq_base.specs.Sweep.{upto, Rises}

-- the number of rows that have begun by the instant and not ended
abbrev pub count_upto : List ℕ → List ℕ → ℕ → ℤ
count_upto starts ends t = pos (upto starts t) -ℤ pos (upto ends t)

-- bounds of the window, its end among them
abbrev pub AreInside : Period → List ℕ → Type 0
AreInside window bounds = All (λ b. (window.start ≤ b) × (b ≤ window.end)) bounds

-- these, sorted
abbrev pub AreEndpoints : Period → List ℕ → Type 0
AreEndpoints window bounds = IsSorted nat_cmp bounds × AreInside window bounds

-- these, in order
abbrev pub AreInOrder : Period → List ℕ → Type 0
AreInOrder window bounds = Rises bounds × AreInside window bounds

-- the earlier of two bounds, if there are any
abbrev pub earlier : Option ℕ → Option ℕ → Option ℕ
earlier None end = end
earlier (Some start) None = Some start
earlier (Some start) (Some end) = Some (min start end)

-- of bounds in order, exactly the first `len` come by the instant
abbrev pub AreUpTo : ℕ → List ℕ → ℕ → Type 0
AreUpTo at bounds len =
    (len ≤ length bounds)
    × All (λ b. b ≤ at) (take len bounds)
    × ((d : ℕ) → len < length bounds → at < slice_index_or bounds len d)
