-- Periods, half-open: they include their start and exclude their end. After Snodgrass.
use Rattle.std.specs.Prelude.{◌≡◌, ℕ, ◌<◌, ◌⊎◌, Bool, nat_le, nat_lt, ◌&&◌, max, min}
use Rattle.tq_base.specs.declared.period.Period.{Period}

-- whether the period holds the instant
abbrev pub holds : Period → ℕ → Bool
holds p t = nat_le p.start t && nat_lt t p.end

-- the periods have an instant in common
abbrev pub Overlap : Period → Period → Type 0
Overlap p q = (p.start < q.end) × (q.start < p.end)

-- the one period holds exactly the instants that both others hold
abbrev pub IsOverlap : Period → Period → Period → Type 0
IsOverlap p q both = (both.start ≡ max p.start q.start) × (both.end ≡ min p.end q.end)

-- one period ends at the start of the other
abbrev pub Meet : Period → Period → Type 0
Meet p q = (p.end ≡ q.start) ⊎ (q.end ≡ p.start)
