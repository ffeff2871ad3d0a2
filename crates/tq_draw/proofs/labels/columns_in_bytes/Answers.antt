use Rattle.tq_draw.proofs.ColumnLemmas.{columns_of_bytes}
use Rattle.tq_draw.proofs.labels.columns_in_bytes.Goals as goal

pub returns-in-Err : goal.returns-in-Err
returns-in-Err c = columns_of_bytes c.args.bytes.now c.in-Err.ensures.cases.0
