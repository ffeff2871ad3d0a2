-- The row and the others kept so far, and those among the rest, are all.
use Rattle.std.proofs.Common.{◌≡◌, ◌∷◌, ◌++◌, drop, not}
use Rattle.std.specs.Prelude.{filter}
use Rattle.tq_agg.specs.Grouping.{same_row}
use Rattle.tq_reference.proofs.groups.distinct_after.Given as goal

abbrev pub invariant-rows : goal.invariant-rows
invariant-rows l = l.kept.items ++ filter (λ other. not (same_row other l.first)) (drop l.row-index l.rows) ≡ l.first ∷ filter (λ other. not (same_row other l.first)) l.rows
