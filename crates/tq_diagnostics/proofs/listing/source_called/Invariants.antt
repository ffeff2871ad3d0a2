use Rattle.std.proofs.Common.{◌≡◌, length}
use Rattle.tq_diagnostics.specs.Listing.{source_called}
use Rattle.tq_diagnostics.proofs.listing.source_called.Given as goal

abbrev pub invariant-sources : goal.invariant-sources
invariant-sources l = source_called l.alias l.sources ≡ source_called l.alias l.fn.sources

abbrev pub decreases-sources : goal.decreases-sources
decreases-sources l = length l.sources
