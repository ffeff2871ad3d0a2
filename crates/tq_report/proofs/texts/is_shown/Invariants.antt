use Rattle.std.proofs.Common.{take}
use Rattle.std.specs.Prelude.{All}
use Rattle.tq_report.proofs.TextLemmas.{IsShownByte}
use Rattle.tq_report.proofs.texts.is_shown.Given as goal

abbrev pub invariant-bytes : goal.invariant-bytes
invariant-bytes l = All IsShownByte (take l.byte-index l.bytes)
