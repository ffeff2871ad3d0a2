use Rattle.std.proofs.Common.{◌≡◌, map, take}
use Rattle.tq_plan.specs.Scope.{alias_of}
use Rattle.tq_diagnostics.specs.Views.{name_views}
use Rattle.tq_diagnostics.proofs.listing.aliases_of.Given as goal

abbrev pub invariant-sources : goal.invariant-sources
invariant-sources l = name_views l.names.items ≡ map alias_of (take l.source-index l.sources)
