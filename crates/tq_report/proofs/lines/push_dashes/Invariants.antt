use Rattle.std.proofs.Common.{◌≡◌, ◌++◌, take}
use Rattle.std.specs.List.{flat_map}
use Rattle.tq_report.specs.Reports.{dashes}
use Rattle.tq_report.proofs.lines.push_dashes.Given as goal

abbrev pub invariant-widths : goal.invariant-widths
invariant-widths l = l.text.items ≡ l.initial.text.items ++ flat_map dashes (take l.width-index l.layout.widths)
