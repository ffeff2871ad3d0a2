use Rattle.std.proofs.Common.{◌≡◌, ◌++◌, take}
use Rattle.std.specs.List.{flat_map}
use Rattle.tq_diagnostics.specs.Listing.{column_line}
use Rattle.tq_diagnostics.proofs.listing.push_columns_of_each.Given as goal

abbrev pub invariant-sources : goal.invariant-sources
invariant-sources l = l.text.items ≡ l.initial.text.items ++ flat_map (column_line l.catalogue) (take l.source-index l.sources)
