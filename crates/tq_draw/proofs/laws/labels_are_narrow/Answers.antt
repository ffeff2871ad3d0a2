use Rattle.tq_draw.proofs.ColumnLemmas as columns
use Rattle.tq_draw.proofs.laws.labels_are_narrow.Goals as goal

pub returns : goal.returns
returns c = columns.labels_are_narrow
