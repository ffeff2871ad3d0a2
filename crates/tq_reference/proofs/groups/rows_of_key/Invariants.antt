-- The rows of the key so far, and those among the rest, are all.
use Rattle.std.proofs.Common.{◌≡◌, ◌++◌, drop}
use Rattle.std.specs.Prelude.{filter}
use Rattle.tq_condition.specs.Ordinary.{projection}
use Rattle.tq_agg.specs.Grouping.{same_row}
use Rattle.tq_reference.proofs.groups.rows_of_key.Given as goal

abbrev pub invariant-rows : goal.invariant-rows
invariant-rows l =
    l.kept.items ++ filter (λ row. same_row (projection l.places row) l.key) (drop l.row-index l.rows)
    ≡ filter (λ row. same_row (projection l.places row) l.key) l.rows
