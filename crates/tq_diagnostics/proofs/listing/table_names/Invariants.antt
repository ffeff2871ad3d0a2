use Rattle.std.proofs.Common.{◌≡◌, map, take}
use Rattle.tq_base.specs.declared.catalogue.Schema.{Schema}
use Rattle.tq_diagnostics.specs.Views.{name_views}
use Rattle.tq_diagnostics.proofs.listing.table_names.Given as goal

abbrev pub invariant-tables : goal.invariant-tables
invariant-tables l = name_views l.names.items ≡ map (λ (s : Schema). s.name) (take l.table-index l.tables)
