use Rattle.std.proofs.Common.{◌≡◌, ◌++◌, take}
use Rattle.std.specs.List.{flat_map}
use Rattle.tq_diagnostics.specs.Listing.{listed_name}
use Rattle.tq_diagnostics.specs.Views.{name_views}
use Rattle.tq_diagnostics.proofs.listing.push_names.Given as goal

abbrev pub invariant-names : goal.invariant-names
invariant-names l = l.text.items ≡ l.initial.text.items ++ flat_map listed_name (name_views (take l.name-index l.names))
