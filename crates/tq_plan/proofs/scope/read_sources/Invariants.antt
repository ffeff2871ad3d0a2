-- The sources are those so far, and then the others.
use Rattle.std.proofs.Common.{◌≡◌, drop}
use Rattle.tq_plan.specs.Scope.{no_sources, sources_after}
use Rattle.tq_plan.specs.Views.{sources_view}
use Rattle.tq_plan.proofs.scope.read_sources.Given as goal

abbrev pub invariant-sources : goal.invariant-sources
invariant-sources l = sources_after l.catalogue no_sources l.sources ≡ sources_after l.catalogue (sources_view l.scope) (drop l.source-index l.sources)
