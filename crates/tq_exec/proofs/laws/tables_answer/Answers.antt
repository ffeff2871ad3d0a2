use Rattle.tq_exec.specs.Answers.{as_of, in_tables}
use Rattle.tq_exec.proofs.laws.tables_answer.Goals as goal

pub returns : goal.returns
returns c tables history n plan table = c.answers_agree.ensures (in_tables tables) (as_of history n) plan table
