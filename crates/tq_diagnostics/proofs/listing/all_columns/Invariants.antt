use Rattle.std.proofs.Common.{◌≡◌, take}
use Rattle.std.specs.List.{flat_map}
use Rattle.tq_diagnostics.specs.Listing.{columns_in}
use Rattle.tq_diagnostics.specs.Views.{name_views}
use Rattle.tq_diagnostics.proofs.listing.all_columns.Given as goal

abbrev pub invariant-sources : goal.invariant-sources
invariant-sources l = name_views l.names.items ≡ flat_map (columns_in l.catalogue) (take l.source-index l.sources)
