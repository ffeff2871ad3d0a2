use Rattle.std.proofs.Common.{◌≡◌, take}
use Rattle.tq_diagnostics.proofs.probe_statement.copy_sources.Given as goal

abbrev pub invariant-loop-source : goal.invariant-loop-source
invariant-loop-source l = l.copy.items ≡ take l.source-index l.sources
