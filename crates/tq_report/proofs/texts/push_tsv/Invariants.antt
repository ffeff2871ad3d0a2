use Rattle.std.proofs.Common.{◌≡◌, ◌++◌, take}
use Rattle.std.specs.List.{flat_map}
use Rattle.tq_report.specs.Texts.{tsv_byte}
use Rattle.tq_report.proofs.texts.push_tsv.Given as goal

abbrev pub invariant-bytes : goal.invariant-bytes
invariant-bytes l = l.text.items ≡ l.initial.text.items ++ flat_map tsv_byte (take l.byte-index l.bytes)
