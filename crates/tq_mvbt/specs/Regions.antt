-- The regions of the leaves (Becker et al. 1996).
use Rattle.std.specs.Prelude.{ℕ, ◌+◌, List, [], ◌∷◌, nat_eq, cond}
use Rattle.tq_mvbt.specs.declared.region.Region.{Region}
use Rattle.tq_mvbt.specs.NodeState.{NodeState}
use Rattle.tq_mvbt.specs.Points.{end_of}
use Rattle.tq_mvbt.specs.Links.{linked_numbers}

-- the region of a leaf with its number, and the leaves that it links
abbrev pub region_for : ℕ → NodeState → Region
region_for number n = record { node = record { 0 = number }; low = n.low; high = n.high; born = n.born; died = end_of n.died; links = linked_numbers n.links }

-- the regions of the leaves, in the order of their numbers from the first one on
abbrev pub regions_from : ℕ → List NodeState → List Region
regions_from number [] = []
regions_from number (n ∷ nodes) = cond (nat_eq n.level 0) (region_for number n ∷ regions_from (number + 1) nodes) (regions_from (number + 1) nodes)
