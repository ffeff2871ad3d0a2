-- The answer of a statement over the tables of files, and the first fault if there is no answer.
use Rattle.std.specs.Prelude.{◌≡◌, ◌≢◌, ℕ, Bool, List, [], length, All, Result, Err, Ok}
use Rattle.tq_base.specs.declared.form.Form.{Form}
use Rattle.tq_base.specs.declared.form.Form.TheVariants.{Dates}
use Rattle.tq_base.specs.declared.fragment.Fragment.{Fragment}
use Rattle.tq_base.specs.Numbers.{IsDated}
use Rattle.tq_base.specs.declared.catalogue.Catalogue.{Catalogue}
use Rattle.tq_event.specs.declared.file.Loaded.{Loaded}
use Rattle.tq_event.specs.declared.file.TableFile.{TableFile}
use Rattle.tq_event.specs.declared.file.Tables.{Tables}
use Rattle.tq_event.specs.Projection.{AreProjectedTables}
use Rattle.tq_event.specs.Loading.{Contents, IsLoaded, contents_of}
use Rattle.tq_event.specs.Tables.{lists_of}
use Rattle.tq_exec.specs.Answers.{IsAnswer, IsTablesAnswer}
use Rattle.tq_exec.specs.Required.{Serve}
use Rattle.tq_plan.specs.Plans.{plan_of}
use Rattle.tq_plan.specs.declared.plans.Plan.{Plan}
use Rattle.tq_sql.specs.declared.fault.SqlFault.{SqlFault}
use Rattle.tq_sql.specs.declared.statement.Statement.{Statement}
use Rattle.tq_sql.specs.Reading.{IsSqlFault, ParsesTo}
use Rattle.tq_table.specs.declared.table.Table.{Table}
use Rattle.tq_engine.specs.declared.execution.AnswerFault.{AnswerFault}
use Rattle.tq_engine.specs.declared.execution.AnswerFault.TheVariants as answer

-- the table is the answer of the statement with these bytes, over the tables of the files, as of all their events
pub record HasAnswer (form : Form) (files : List TableFile) (bytes : List ℕ) (table : Table) : Type 0 where
  pub loaded : Loaded
  pub is_loaded : IsLoaded form files 16777216 loaded
  pub statement : Statement
  pub makes : ParsesTo bytes statement
  pub is_answer : IsAnswer form loaded.catalogue statement loaded.events (length loaded.events) table

-- the tables are those of the files, record by record, with the values of the wanted columns; the statement is the one
-- with these bytes; the wanted columns are all columns, or include those that the statement's plan names
pub record IsLoadedQuery (form : Form) (files : List TableFile) (bytes : List ℕ) (tables : Tables) (statement : Statement) : Type 0 where
  pub wanted : List (List Bool)
  pub of_files : AreProjectedTables form files 16777216 wanted tables
  pub makes : ParsesTo bytes statement
  pub serves : (plan : Plan) → plan_of form tables.catalogue statement ≡ Ok plan → wanted ≢ [] → Serve wanted plan

-- the tables and the statement are a loaded query, and the plan is that of the statement
pub record IsPlanned (form : Form) (files : List TableFile) (bytes : List ℕ) (tables : Tables) (plan : Plan) : Type 0 where
  pub statement : Statement
  pub is_query : IsLoadedQuery form files bytes tables statement
  pub planned : plan_of form tables.catalogue statement ≡ Ok plan

-- for all contents of the files, and each plan of the statement with these bytes: if there are lists of wanted columns,
-- they include the columns that the plan names
abbrev pub ServesQuery : Form → List TableFile → List ℕ → List (List Bool) → Type 0
ServesQuery form files bytes wanted = (contents : Contents) (catalogue : Catalogue) (statement : Statement) (plan : Plan) → contents_of form files 16777216 ≡ Ok contents → catalogue.tables ≡ contents.tables
    → ParsesTo bytes statement → plan_of form catalogue statement ≡ Ok plan → wanted ≢ [] → Serve wanted plan

-- files and a statement have at most one answer
abbrev pub AnswersAreUnique : Type 0
AnswersAreUnique = (form : Form) (files : List TableFile) (bytes : List ℕ) (a b : Table) → HasAnswer form files bytes a → HasAnswer form files bytes b → a ≡ b

-- the files are loaded, and the bytes are not a valid statement
pub record HasSqlFault (form : Form) (files : List TableFile) (bytes : List ℕ) (fault : SqlFault) : Type 0 where
  pub loaded : Loaded
  pub is_loaded : IsLoaded form files 16777216 loaded
  pub is_fault : IsSqlFault bytes fault

-- why a statement has no answer over the tables: the first fault of its plan
abbrev pub IsStatementFault : Form → Catalogue → Statement → AnswerFault → Type 0
IsStatementFault form catalogue statement (answer.Load fault) = ⊥
IsStatementFault form catalogue statement (answer.Sql fault) = ⊥
IsStatementFault form catalogue statement (answer.Plan fault) = plan_of form catalogue statement ≡ Err fault
IsStatementFault form catalogue statement answer.Write = ⊥
IsStatementFault form catalogue statement answer.OutOfMemory = Unit {0}

-- the files are loaded, and the statement with these bytes has no answer over their tables
pub record HasStatementFault (form : Form) (files : List TableFile) (bytes : List ℕ) (fault : AnswerFault) : Type 0 where
  pub loaded : Loaded
  pub is_loaded : IsLoaded form files 16777216 loaded
  pub statement : Statement
  pub makes : ParsesTo bytes statement
  pub is_fault : IsStatementFault form loaded.catalogue statement fault

-- why there is no answer: the first fault of the files, of the statement's text or of its plan
abbrev pub IsFault : Form → List TableFile → List ℕ → AnswerFault → Type 0
IsFault form files bytes (answer.Load fault) = contents_of form files 16777216 ≡ Err fault
IsFault form files bytes (answer.Sql fault) = HasSqlFault form files bytes fault
IsFault form files bytes (answer.Plan fault) = HasStatementFault form files bytes (answer.Plan fault)
IsFault form files bytes answer.Write = ⊥
IsFault form files bytes answer.OutOfMemory = Unit {0}

-- if files write instants as dates, each bound of the answer has a date or is `forever`
abbrev pub AnswersAreDated : Type 0
AnswersAreDated = (files : List TableFile) (bytes : List ℕ) (table : Table) → HasAnswer Dates files bytes table
    → All (λ (row : Fragment). IsDated row.period.start × IsDated row.period.end) table.rows

-- the answer of the statement's plan over a loaded query's tables is the answer over the files
abbrev pub QueryIsAnswered : Type 0
QueryIsAnswered = (form : Form) (files : List TableFile) (bytes : List ℕ) (tables : Tables) (statement : Statement) (plan : Plan) (table : Table) → IsLoadedQuery form files bytes tables statement
    → plan_of form tables.catalogue statement ≡ Ok plan → IsTablesAnswer (lists_of tables.rows) plan table → HasAnswer form files bytes table

-- a fault of the statement over a loaded query's tables is the first fault of the files and the statement
abbrev pub QueryIsRefused : Type 0
QueryIsRefused = (form : Form) (files : List TableFile) (bytes : List ℕ) (tables : Tables) (statement : Statement) (fault : AnswerFault) → IsLoadedQuery form files bytes tables statement
    → IsStatementFault form tables.catalogue statement fault → IsFault form files bytes fault

-- ---- exactly one outcome

-- the outcome of files and a statement if no allocation and no write fails: the answer, or the first fault
abbrev pub IsOutcome : Form → List TableFile → List ℕ → Result Table AnswerFault → Type 0
IsOutcome form files bytes (Ok table) = HasAnswer form files bytes table
IsOutcome form files bytes (Err fault) = IsFault form files bytes fault × (fault ≢ answer.OutOfMemory)

-- files and a statement have an outcome
abbrev pub OutcomesExist : Type 0
OutcomesExist = (form : Form) (files : List TableFile) (bytes : List ℕ) → (outcome : Result Table AnswerFault) × IsOutcome form files bytes outcome

-- files and a statement have at most one outcome
abbrev pub OutcomesAreUnique : Type 0
OutcomesAreUnique = (form : Form) (files : List TableFile) (bytes : List ℕ) (a b : Result Table AnswerFault) → IsOutcome form files bytes a → IsOutcome form files bytes b → a ≡ b
