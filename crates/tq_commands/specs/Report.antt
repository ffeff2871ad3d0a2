-- The refusal of each fault, the line that is printed for it, and the exit statuses of the program.
use Rattle.std.specs.Prelude.{◌≡◌, ℕ, Vec, List, [], ◌++◌, String, codes, decimal, length, min, slice_get, string_bytes, Option, None, Some, IfSome}
use Rattle.std.specs.declared.alloc.Global.{Global}
use Rattle.tq_engine.specs.declared.execution.AnswerFault.{AnswerFault}
use Rattle.tq_engine.specs.declared.execution.AnswerFault.TheVariants as answer
use Rattle.tq_cli.specs.declared.command_line.CommandLineFault.{CommandLineFault}
use Rattle.tq_cli.specs.declared.command_line.CommandLineFault.TheVariants as command_line
use Rattle.tq_engine.specs.declared.source.FileFault.{FileFault}
use Rattle.tq_engine.specs.declared.source.FileFault.TheVariants as source
use Rattle.tq_engine.specs.FaultNames.{load_name, plan_name, sql_name}
use Rattle.tq_base.specs.declared.form.Form.{Form}
use Rattle.tq_event.specs.declared.fault.LoadFault.{LoadFault}
use Rattle.tq_diagnostics.specs.Details.{IsDetail}
use Rattle.tq_diagnostics.specs.Files.{IsFileDetail}
use Rattle.tq_diagnostics.specs.PlanDetails.{IsPlanDetail}
use Rattle.tq_event.specs.Tables.{AreTables}
use Rattle.tq_event.specs.declared.file.TableFile.{TableFile}
use Rattle.tq_event.specs.declared.file.Tables.{Tables}
use Rattle.tq_plan.specs.declared.fault.PlanFault.{PlanFault}
use Rattle.tq_shown.specs.Printable.{printable_text}
use Rattle.tq_commands.specs.declared.report.Refusal.{Refusal}
use Rattle.tq_commands.specs.declared.retained.RetainedFile.{RetainedFile}
use Rattle.tq_commands.specs.declared.report.Refusal.TheVariants.{BadCommandLine, CannotRead, CannotWrite, Import, Reference, Split, Merge, Answer, Load, Statement, Plan, NoPlace, ReadFailed, WriteFailed, OutOfMemory}

-- The refusal for a fault of the command line. (This project's own.)
abbrev pub refused_command_line : CommandLineFault → Refusal
refused_command_line command_line.BadCommandLine = BadCommandLine
refused_command_line command_line.OutOfMemory = OutOfMemory

-- The refusal for a file at a path that was not read. (This project's own.)
abbrev pub refused_file : FileFault → Vec ℕ Global → Refusal
refused_file source.Read path = CannotRead path
refused_file source.TooLarge path = CannotRead path
refused_file source.OutOfMemory path = OutOfMemory

-- The refusal for a fault of an answer. (This project's own.)
abbrev pub refused_answer : AnswerFault → Refusal
refused_answer (answer.Load fault) = Load fault
refused_answer (answer.Sql fault) = Statement fault
refused_answer (answer.Plan fault) = Plan fault
refused_answer answer.Write = WriteFailed
refused_answer answer.OutOfMemory = OutOfMemory

-- The details of an answer's fault, if the fault is one of the statement's text; other faults have none here. (This
-- project's own.)
abbrev pub IsAnswerDetail : AnswerFault → List ℕ → List ℕ → Type 0
IsAnswerDetail (answer.Sql fault) statement text = IsDetail fault.kind statement (min fault.at (length statement)) text
IsAnswerDetail (answer.Load fault) statement text = ⊥
IsAnswerDetail (answer.Plan fault) statement text = ⊥
IsAnswerDetail answer.Write statement text = ⊥
IsAnswerDetail answer.OutOfMemory statement text = ⊥

-- The bytes are those that are retained of a file, if there are any; else any. (This project's own.)
abbrev pub AreBytesOf : RetainedFile → List ℕ → Type 0
AreBytesOf file bytes = IfSome file.bytes (λ kept. bytes ≡ kept.items)

-- The details of a fault of a file: of the bytes that are retained of it, or that it had when it was read again. (This
-- project's own.)
abbrev pub IsDetailOfFile : Form → RetainedFile → LoadFault → List ℕ → Type 0
IsDetailOfFile form file fault text = (bytes : List ℕ) × AreBytesOf file bytes × IsFileDetail form file.path.items bytes fault text

-- The details of a file that was not loaded: those of the file of the fault's table. There are none if no files are
-- retained. (This project's own.)
abbrev pub IsLoadDetail : Form → Option (Vec RetainedFile Global) → LoadFault → List ℕ → Type 0
IsLoadDetail form None fault text = ⊥
IsLoadDetail form (Some files) fault text =
    (file : RetainedFile) × (slice_get files.items fault.table ≡ Some file) × IsDetailOfFile form file fault text

-- The details of a fault of the plan, over the tables of files with these header lines; there are none without header
-- lines. (This project's own.)
abbrev pub IsPlanDetailOver : Form → Option (Vec TableFile Global) → PlanFault → List ℕ → List ℕ → Type 0
IsPlanDetailOver form None fault statement text = ⊥
IsPlanDetailOver form (Some headers) fault statement text =
    (tables : Tables) × AreTables form headers.items 16777216 tables × IsPlanDetail form tables.catalogue statement fault text

-- The details of a fault over these files, which have these header lines: those of a file, of a plan, or of another
-- fault of an answer. (This project's own.)
abbrev pub IsQuestionDetail : Form → Option (Vec RetainedFile Global) → Option (Vec TableFile Global) → AnswerFault → List ℕ → List ℕ → Type 0
IsQuestionDetail form files headers (answer.Load fault) statement text = IsLoadDetail form files fault text
IsQuestionDetail form files headers (answer.Sql fault) statement text = IsAnswerDetail (answer.Sql fault) statement text
IsQuestionDetail form files headers (answer.Plan fault) statement text = IsPlanDetailOver form headers fault statement text
IsQuestionDetail form files headers answer.Write statement text = IsAnswerDetail answer.Write statement text
IsQuestionDetail form files headers answer.OutOfMemory statement text = IsAnswerDetail answer.OutOfMemory statement text

-- The text of a detail; empty if there is none. (This project's own.)
abbrev pub detail_of : Option (Vec ℕ Global) → List ℕ
detail_of None = []
detail_of (Some text) = text.items

-- The bytes of a reason; empty if there is none. (This project's own.)
abbrev pub reason_of : Option (String Global) → List ℕ
reason_of None = []
reason_of (Some reason) = string_bytes reason

-- 2 for a refused command line, and 1 for every other refusal. (This project's own.)
abbrev pub status_of : Refusal → ℕ
status_of BadCommandLine = 2
status_of (CannotRead path) = 1
status_of (CannotWrite path) = 1
status_of (Import text) = 1
status_of (Reference text) = 1
status_of (Split text) = 1
status_of (Merge text) = 1
status_of (Answer text) = 1
status_of (Load fault) = 1
status_of (Statement fault) = 1
status_of (Plan fault) = 1
status_of NoPlace = 1
status_of ReadFailed = 1
status_of WriteFailed = 1
status_of OutOfMemory = 1

-- The line of a refusal. (This project's own.)
abbrev pub line_of : Refusal → List ℕ
line_of BadCommandLine = codes "tq: BadCommandLine\n"
line_of (CannotRead path) = codes "tq: cannot read " ++ printable_text path.items ++ codes "\n"
line_of (CannotWrite path) = codes "tq: cannot write " ++ printable_text path.items ++ codes "\n"
line_of (Import text) = codes "tq: import " ++ printable_text text.items ++ codes "\n"
line_of (Reference text) = codes "tq: refers " ++ printable_text text.items ++ codes "\n"
line_of (Split text) = codes "tq: split " ++ printable_text text.items ++ codes "\n"
line_of (Merge text) = codes "tq: merge " ++ printable_text text.items ++ codes "\n"
line_of (Answer text) = codes "tq: answer " ++ printable_text text.items ++ codes "\n"
line_of (Load fault) =
    codes "tq: load " ++ load_name fault.kind ++ codes " table " ++ decimal fault.table ++ codes " record " ++ decimal fault.number ++ codes "\n"
line_of (Statement fault) = codes "tq: statement " ++ sql_name fault.kind ++ codes " at " ++ decimal fault.at ++ codes "\n"
line_of (Plan fault) = codes "tq: plan " ++ plan_name fault ++ codes "\n"
line_of NoPlace = codes "tq: NoPlace\n"
line_of ReadFailed = codes "tq: read failed\n"
line_of WriteFailed = codes "tq: write failed\n"
line_of OutOfMemory = codes "tq: OutOfMemory\n"
