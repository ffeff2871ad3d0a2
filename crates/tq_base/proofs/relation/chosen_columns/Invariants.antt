-- The columns of the numbers so far were chosen.
use Rattle.std.proofs.Common.{◌≡◌, map, take}
use Rattle.tq_base.specs.Parts.{chosen_column}
use Rattle.tq_base.proofs.relation.chosen_columns.Given as goal

abbrev pub invariant-numbers : goal.invariant-numbers
invariant-numbers l = l.chosen.items ≡ map (chosen_column l.columns) (take l.number-index l.numbers)
