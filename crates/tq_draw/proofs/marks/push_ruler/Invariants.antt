use Rattle.std.proofs.Common.{◌≡◌, ◌++◌, drop}
use Rattle.tq_draw.specs.Marks.{ruler_from}
use Rattle.tq_draw.proofs.marks.push_ruler.Given as goal

abbrev pub invariant-marks : goal.invariant-marks
invariant-marks l =
    l.text.items ++ ruler_from l.cells l.column (drop l.mark-index l.marks) ≡ l.initial.text.items ++ ruler_from l.cells 0 l.marks
