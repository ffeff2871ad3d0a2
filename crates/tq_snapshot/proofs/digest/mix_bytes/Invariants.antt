use Rattle.std.proofs.Common.{◌≡◌, drop}
use Rattle.tq_snapshot.specs.Digests.{bytes_mixed}
use Rattle.tq_snapshot.proofs.digest.mix_bytes.Given as goal

abbrev pub invariant-bytes : goal.invariant-bytes
invariant-bytes l = bytes_mixed l.mixed (drop l.byte-index l.bytes) ≡ bytes_mixed l.fn.state l.bytes
