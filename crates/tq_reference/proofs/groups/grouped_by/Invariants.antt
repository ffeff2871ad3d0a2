-- The groups of the keys so far.
use Rattle.std.proofs.Common.{◌≡◌, map, take}
use Rattle.std.specs.Prelude.{filter}
use Rattle.tq_condition.specs.Ordinary.{projection}
use Rattle.tq_agg.specs.Grouping.{same_row}
use Rattle.tq_reference.proofs.groups.grouped_by.Given as goal

abbrev pub invariant-keys : goal.invariant-keys
invariant-keys l = l.groups.items ≡ map (λ key. filter (λ row. same_row (projection l.places row) key) l.rows) (take l.key-index l.key-items)
