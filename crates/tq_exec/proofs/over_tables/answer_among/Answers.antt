use Rattle.tq_exec.proofs.over_tables.answer_among.Goals as goal

pub owned_answer-requires-clause-over : goal.owned_answer-requires-clause-over
owned_answer-requires-clause-over g c κs within = c.queries_are_valid.ensures c.args.catalogue.now c.args.plan.now c.requires.plan
