use Rattle.std.proofs.Common.{◌≡◌, ◌++◌, drop}
use Rattle.tq_draw.specs.Marks.{labels_from}
use Rattle.tq_draw.proofs.marks.push_marks.Given as goal

abbrev pub invariant-marks : goal.invariant-marks
invariant-marks l =
    l.text.items ++ labels_from l.form l.scale l.column (drop l.mark-index l.marks) ≡ l.initial.text.items ++ labels_from l.form l.scale 0 l.marks
