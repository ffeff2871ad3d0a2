use Rattle.std.proofs.Common.{◌≡◌, take}
use Rattle.json.specs.Print.{escape}
use Rattle.tq_report.proofs.texts.is_plain.Given as goal

abbrev pub invariant-bytes : goal.invariant-bytes
invariant-bytes l = escape (take l.byte-index l.bytes) ≡ take l.byte-index l.bytes
