-- The remaining bytes, after the name so far, make the name.
use Rattle.std.proofs.Common.{◌≡◌, [], drop, false}
use Rattle.tq_import.specs.HeaderNames.{words_after}
use Rattle.tq_import.proofs.names.words_of.Given as goal

abbrev pub invariant-each : goal.invariant-each
invariant-each l = words_after [] false l.bytes ≡ words_after l.name.items l.gap (drop l.byte-index l.bytes)
