use Rattle.std.proofs.Common.{◌≡◌, ◌++◌, length}
use Rattle.tq_diagnostics.specs.Listing.{sources_with}
use Rattle.tq_diagnostics.specs.Views.{probe_view, name_views}
use Rattle.tq_diagnostics.proofs.listing.sources_with.Given as goal

abbrev pub invariant-left : goal.invariant-left
invariant-left l =
    name_views l.names.items ++ sources_with l.catalogue (probe_view l.probe) l.left ≡ sources_with l.catalogue (probe_view l.probe) l.fn.sources

abbrev pub decreases-left : goal.decreases-left
decreases-left l = length l.left
