use Rattle.tq_commands.proofs.files.read_table_files.Goals as goal

pub returns-in-Err-clause-refused : goal.returns-in-Err-clause-refused
returns-in-Err-clause-refused g c = rw c.diagnostic_of.ensures.refusal c.in-Err.ensures.refused
