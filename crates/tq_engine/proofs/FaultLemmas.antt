-- Faults of files, of a statement and of a plan as faults of the answer.
use Rattle.std.proofs.Common.{◌≡◌, ◌≢◌, ℕ, List, Option, Some, None, refl, sym, ap, ◌∙◌, subst}
use Rattle.std.proofs.lemmas.Option.{none-some}
use Rattle.tq_base.specs.declared.form.Form.{Form}
use Rattle.tq_event.specs.declared.file.Loaded.{Loaded}
use Rattle.tq_event.specs.declared.file.TableFile.{TableFile}
use Rattle.tq_event.specs.Loading.{IsLoaded}
use Rattle.tq_sql.specs.declared.fault.SqlFault.{SqlFault}
use Rattle.tq_sql.specs.declared.fault.SqlFaultKind.{SqlFaultKind}
use Rattle.tq_sql.specs.declared.fault.SqlFaultKind.TheVariants as sql
use Rattle.tq_sql.specs.declared.statement.Statement.{Statement}
use Rattle.tq_sql.specs.Reading.{ParsesTo}
use Rattle.tq_engine.specs.declared.execution.AnswerFault.{AnswerFault}
use Rattle.tq_engine.specs.declared.execution.AnswerFault.TheVariants as answer
use Rattle.tq_engine.specs.Answers.{HasSqlFault, IsFault, IsStatementFault}

-- `Some 0` for each fault except out of memory
abbrev sql_named : SqlFaultKind → Option ℕ
sql_named sql.BadByte = Some 0
sql_named sql.UnexpectedToken = Some 0
sql_named sql.NumberTooLarge = Some 0
sql_named sql.UnclosedText = Some 0
sql_named sql.TooDeep = Some 0
sql_named sql.TooLong = Some 0
sql_named sql.OutOfMemory = None

pub sql_fault : (form : Form) (files : List TableFile) (bytes : List ℕ) (fault : SqlFault) (given : AnswerFault)
    → (fault.kind ≡ sql.OutOfMemory → given ≡ answer.OutOfMemory) × (fault.kind ≢ sql.OutOfMemory → given ≡ answer.Sql fault)
    → (fault.kind ≢ sql.OutOfMemory → HasSqlFault form files bytes fault) → IsFault form files bytes given
sql_fault form files bytes fault given is has = by_name (sql_named fault.kind) refl
  where
    by_kind : (k : SqlFaultKind) → fault.kind ≡ k → sql_named k ≡ None → k ≡ sql.OutOfMemory
    by_kind sql.BadByte e n = cc
    by_kind sql.UnexpectedToken e n = cc
    by_kind sql.NumberTooLarge e n = cc
    by_kind sql.UnclosedText e n = cc
    by_kind sql.TooDeep e n = cc
    by_kind sql.TooLong e n = cc
    by_kind sql.OutOfMemory e n = refl

    by_name : (o : Option ℕ) → sql_named fault.kind ≡ o → IsFault form files bytes given
    by_name None e = subst (IsFault form files bytes) (sym (is.0 (by_kind fault.kind refl e))) tt
    by_name (Some n) e =
        let other : fault.kind ≢ sql.OutOfMemory = λ o. none-some n (sym (ap sql_named o) ∙ e) in
        subst (IsFault form files bytes) (sym (is.1 other)) (has other)

-- a fault of the statement over the tables of the files
pub statement_fault : (form : Form) (files : List TableFile) (bytes : List ℕ) (loaded : Loaded) (statement : Statement) (fault : AnswerFault) → IsLoaded form files 16777216 loaded → ParsesTo bytes statement
    → IsStatementFault form loaded.catalogue statement fault → IsFault form files bytes fault
statement_fault form files bytes loaded statement (answer.Load fault) is_loaded makes is = absurd is
statement_fault form files bytes loaded statement (answer.Sql fault) is_loaded makes is = absurd is
statement_fault form files bytes loaded statement (answer.Plan fault) is_loaded makes is = record { loaded = loaded; is_loaded = is_loaded; statement = statement; makes = makes; is_fault = is }
statement_fault form files bytes loaded statement answer.Write is_loaded makes is = absurd is
statement_fault form files bytes loaded statement answer.OutOfMemory is_loaded makes is = tt
