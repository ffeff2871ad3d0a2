use Rattle.std.proofs.Common.{◌≡◌, take}
use Rattle.tq_diagnostics.specs.Pointing.{last_line}
use Rattle.tq_diagnostics.proofs.pointing.last_line.Given as goal

abbrev pub invariant-bytes : goal.invariant-bytes
invariant-bytes l = l.line.items ≡ last_line (take l.byte-index l.bytes)
