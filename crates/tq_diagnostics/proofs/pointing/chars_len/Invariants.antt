use Rattle.std.proofs.Common.{◌≡◌, ◌+◌, drop}
use Rattle.tq_diagnostics.specs.Pointing.{chars_len}
use Rattle.tq_diagnostics.proofs.pointing.chars_len.Given as goal

abbrev pub invariant-bytes : goal.invariant-bytes
invariant-bytes l = l.place + chars_len l.left (drop l.place l.bytes) ≡ chars_len l.fn.count l.bytes
