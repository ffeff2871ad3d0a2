use Rattle.std.proofs.Common.{◌≡◌, ◌++◌, take}
use Rattle.std.specs.List.{flat_map}
use Rattle.tq_report.specs.Reports.{alignment}
use Rattle.tq_report.proofs.lines.push_alignments.Given as goal

abbrev pub invariant-rights : goal.invariant-rights
invariant-rights l = l.text.items ≡ l.initial.text.items ++ flat_map alignment (take l.is_right-index l.layout.rights)
