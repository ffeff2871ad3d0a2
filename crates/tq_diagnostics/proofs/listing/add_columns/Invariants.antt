use Rattle.std.proofs.Common.{◌≡◌, ◌++◌, map, take}
use Rattle.tq_base.specs.declared.catalogue.Column.{Column}
use Rattle.tq_diagnostics.specs.Views.{name_views}
use Rattle.tq_diagnostics.proofs.listing.add_columns.Given as goal

abbrev pub invariant-columns : goal.invariant-columns
invariant-columns l = name_views l.names.items ≡ name_views l.initial.names.items ++ map (λ (c : Column). c.name) (take l.column-index l.columns)
