-- The names of the columns so far.
use Rattle.std.proofs.Common.{◌≡◌, map, take}
use Rattle.tq_base.specs.declared.catalogue.Column.{Column}
use Rattle.tq_split.proofs.merging.names_of.Given as goal

abbrev pub invariant-columns : goal.invariant-columns
invariant-columns l = l.names.items ≡ map (λ (c : Column). c.name) (take l.column-index l.layout.columns.items)
