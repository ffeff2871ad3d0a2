use Rattle.std.proofs.Common.{refl}
use Rattle.std.proofs.lemmas.Result.{IfOk-weaker}
use Rattle.tq_store.proofs.ReadLemmas.{stand_at, stand_read}
use Rattle.tq_store.proofs.read.row_periods_of_keys.Goals as goal

pub returns-then-is_instant : goal.returns-then-is_instant
returns-then-is_instant c =
    IfOk-weaker c.row_periods_at.result _ _
    (λ row_periods named. stand_at c.args.rows.now c.args.n c.args.period.now c.args.keys.now row_periods.items (c.if-is_instant.ensures refl) c.requires.met named)
    c.row_periods_at.ensures

pub returns-else-is_instant : goal.returns-else-is_instant
returns-else-is_instant c =
    IfOk-weaker c.read_row_periods.result _ _
    (λ row_periods same. stand_read c.args.rows.now c.args.n c.args.period.now c.args.keys.now row_periods.items same)
    c.read_row_periods.ensures
