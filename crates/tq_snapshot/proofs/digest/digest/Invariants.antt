use Rattle.std.proofs.Common.{◌≡◌, drop}
use Rattle.tq_snapshot.specs.Digests.{values_mixed}
use Rattle.tq_snapshot.proofs.digest.digest.Given as goal

abbrev pub invariant-values : goal.invariant-values
invariant-values l = values_mixed l.mixed (drop l.value-index l.values) ≡ values_mixed 0 l.values
