-- Aggregating queries: which values are summed, and the places of the outputs in the row of a group.
use Rattle.std.specs.Prelude.{ℕ, ◌+◌, ◌==◌, FitsSigned, List, [], ◌∷◌, length, position, unwrap_or, All}
use Rattle.std.specs.Int.{w64}
use Rattle.tq_base.specs.RowValues.{number_of}
use Rattle.tq_event.specs.declared.event.Event.{Event}
use Rattle.tq_event.specs.declared.event.Event.TheVariants.{Start, End}
use Rattle.tq_agg.specs.Grouping.{Row}
use Rattle.tq_plan.specs.declared.plans.Output.{Output}
use Rattle.tq_plan.specs.declared.plans.Output.TheVariants.{Column, Count, Sum}

-- the numbers of the row are of 64 signed bits
abbrev pub AreNumbers : Row → Type 0
AreNumbers row = All (λ value. FitsSigned w64 (number_of value)) row

-- and those that the event brings
abbrev pub HasNumbers : Event → Type 0
HasNumbers (Start table values at) = AreNumbers values
HasNumbers (End table row at) = Unit {0}

-- the place of the value that an output shows
abbrev pub output_place : Output → ℕ
output_place (Column place) = place
output_place Count = 0
output_place (Sum place) = place

-- the places of the summed values
abbrev pub summed_places : List Output → List ℕ
summed_places [] = []
summed_places (Column place ∷ outputs) = summed_places outputs
summed_places (Count ∷ outputs) = summed_places outputs
summed_places (Sum place ∷ outputs) = place ∷ summed_places outputs

-- the index of the place in the list
abbrev pub number_in : List ℕ → ℕ → ℕ
number_in places place = unwrap_or (position (λ p. p == place) places) 0

-- the places of the items in the row of a group: the keys come first, then the count, then the sums, of which the next
-- one is at the given place
abbrev pub item_places : List ℕ → ℕ → List Output → List ℕ
item_places group next [] = []
item_places group next (Column place ∷ outputs) = number_in group place ∷ item_places group next outputs
item_places group next (Count ∷ outputs) = length group ∷ item_places group next outputs
item_places group next (Sum place ∷ outputs) = next ∷ item_places group (next + 1) outputs
