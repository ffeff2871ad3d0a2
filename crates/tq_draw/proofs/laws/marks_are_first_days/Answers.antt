use Rattle.tq_draw.proofs.MarkLemmas as marks
use Rattle.tq_draw.proofs.laws.marks_are_first_days.Goals as goal

pub returns : goal.returns
returns c = marks.marks_are_first_days
