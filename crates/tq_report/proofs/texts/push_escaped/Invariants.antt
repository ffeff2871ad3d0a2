use Rattle.std.proofs.Common.{◌≡◌, ◌++◌, take}
use Rattle.csv.specs.Writing.{escaped}
use Rattle.tq_table.specs.Text.{answer_format}
use Rattle.tq_report.proofs.texts.push_escaped.Given as goal

abbrev pub invariant-bytes : goal.invariant-bytes
invariant-bytes l = l.text.items ≡ l.initial.text.items ++ escaped answer_format (take l.byte-index l.bytes)
