use Rattle.std.proofs.Common.{refl}
use Rattle.tq_exec.proofs.execution.answer_tables.Goals as goal

pub answer_over-requires : goal.answer_over-requires
answer_over-requires c κs = ((refl, tt), c.requires.plan)
