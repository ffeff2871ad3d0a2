use Rattle.std.proofs.Common.{◌≡◌, ◌++◌, take}
use Rattle.std.specs.List.{flat_map}
use Rattle.tq_diagnostics.specs.Pointing.{blank_byte}
use Rattle.tq_diagnostics.proofs.pointing.push_blanks.Given as goal

abbrev pub invariant-bytes : goal.invariant-bytes
invariant-bytes l = l.text.items ≡ l.initial.text.items ++ flat_map blank_byte (take l.byte-index l.line)
