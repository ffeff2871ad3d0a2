use Rattle.std.proofs.Common.{◌≡◌, ◌++◌, drop}
use Rattle.std.specs.Fmt.{take_chars}
use Rattle.tq_draw.proofs.labels.front.Given as goal

abbrev pub invariant-bytes : goal.invariant-bytes
invariant-bytes l = l.front.items ++ take_chars l.left (drop l.byte-index l.bytes) ≡ take_chars l.fn.chars l.bytes
