use Rattle.std.proofs.Common.{◌∙◌, Err, Ok, Result, ap, sym}
use Rattle.tq_engine.specs.declared.execution.AnswerFault.{AnswerFault}
use Rattle.tq_engine.specs.declared.execution.AnswerFault.TheVariants.{Write}
use Rattle.tq_engine.proofs.writing.answer_bytes.Goals as goal
use Rattle.tq_engine.proofs.writing.answer_bytes.Goals.{in-Err, in-Ok}

abbrev fault_or : {A : Type 0} → AnswerFault → Result A AnswerFault → AnswerFault
fault_or other (Ok value) = other
fault_or other (Err fault) = fault

pub returns-clause-write : goal.returns-clause-write
returns-clause-write g c e =
    elim c.match-write_observed.branch [
      | in-Ok w ↦ cc (w.result-is, e)
      | in-Err w ↦ c.write_observed.ensures.write (w.in-Err.is ∙ ap Err (ap (fault_or Write) (sym w.result-is ∙ e)))
    ]
