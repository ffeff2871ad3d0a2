-- The outcome of `tq ask`: an answer, or one of its refusals. This project's own.
use Rattle.std.specs.Prelude.{◌≡◌, ◌≢◌, ◌⊎◌, ℕ, List, Contains, map}
use Rattle.tq_base.specs.declared.form.Form.{Form}
use Rattle.tq_engine.specs.Answers.{HasAnswer, IsFault}
use Rattle.tq_engine.specs.declared.execution.AnswerFault.{AnswerFault}
use Rattle.tq_engine.specs.declared.execution.AnswerFault.TheVariants.{Write}
use Rattle.tq_event.specs.declared.file.TableFile.{TableFile}
use Rattle.tq_table.specs.declared.table.Table.{Table}
use Rattle.tq_commands.specs.Report.{refused_answer}
use Rattle.tq_cli.specs.declared.request.TableOption.{TableOption}
use Rattle.tq_commands.specs.declared.report.Refusal.{Refusal}
use Rattle.tq_commands.specs.declared.report.Refusal.TheVariants.{CannotRead, OutOfMemory}

-- the file of one of the tables cannot be read
abbrev pub IsUnreadable : List TableOption → Refusal → Type 0
IsUnreadable options refusal = (option : TableOption) × Contains options option × (refusal ≡ CannotRead option.path)

-- why the files of the tables are not read: an allocation failed, or one of them cannot be read
abbrev pub IsReadRefusal : List TableOption → Refusal → Type 0
IsReadRefusal options refusal = refusal ≢ OutOfMemory → IsUnreadable options refusal

-- the files have the names of the tables, in their order
abbrev pub AreNamed : List TableOption → List TableFile → Type 0
AreNamed options files = map (λ (f : TableFile). f.name) files ≡ map (λ (o : TableOption). o.name.items) options

-- the table is the answer of the statement over files of the tables
pub record IsTableOver (form : Form) (options : List TableOption) (statement : List ℕ) (table : Table) : Type 0 where
  pub files : List TableFile
  pub named : AreNamed options files
  pub answer : HasAnswer form files statement table

-- the statement has an answer over files of the tables
abbrev pub IsAnswered : Form → List TableOption → List ℕ → Type 0
IsAnswered form options statement = (table : Table) × IsTableOver form options statement table

-- the refusal is that of the first fault over files of the tables, or the answer could not be written
pub record IsFaulty (form : Form) (options : List TableOption) (statement : List ℕ) (refusal : Refusal) : Type 0 where
  pub files : List TableFile
  pub named : AreNamed options files
  pub fault : AnswerFault
  pub first : fault ≢ Write → IsFault form files statement fault
  pub written : fault ≡ Write → (table : Table) × HasAnswer form files statement table
  pub reported : refusal ≡ refused_answer fault

-- why a statement has no answer over the tables: an allocation failed, the file of a table cannot be read, or the first
-- fault over their files
abbrev pub IsAskRefusal : Form → List TableOption → List ℕ → Refusal → Type 0
IsAskRefusal form options statement refusal = refusal ≢ OutOfMemory → IsUnreadable options refusal ⊎ IsFaulty form options statement refusal
