-- The refusal for the fault that ended a session. This project's own.
use Rattle.tq_session.specs.declared.transcript.SessionFault.{SessionFault}
use Rattle.tq_session.specs.declared.transcript.SessionFault.TheVariants as session
use Rattle.tq_commands.specs.declared.report.Refusal.{Refusal}
use Rattle.tq_commands.specs.declared.report.Refusal.TheVariants.{Load, NoPlace, ReadFailed, WriteFailed, OutOfMemory}

-- the refusal for the fault
abbrev pub refused_session : SessionFault → Refusal
refused_session (session.Load fault) = Load fault
refused_session session.NoPlace = NoPlace
refused_session session.Read = ReadFailed
refused_session session.Write = WriteFailed
refused_session session.OutOfMemory = OutOfMemory
