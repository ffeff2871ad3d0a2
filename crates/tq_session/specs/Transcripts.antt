-- The text that a session may print for the lines of its input: each line is executed over the published and pending
-- events at that time. This project's own.
use Rattle.std.specs.Prelude.{◌≡◌, ◌≢◌, ℕ, ◌<◌, ◌≤◌, ◌⊎◌, nat_lt, List, [], ◌∷◌, ◌++◌, length, slice_get, Option, MatchBool, MatchOption, Ok, Err}
use Rattle.std.specs.Option.{option_and_then}
use Rattle.tq_base.specs.declared.form.Form.{Form}
use Rattle.tq_base.specs.declared.catalogue.Catalogue.{Catalogue}
use Rattle.tq_base.specs.declared.catalogue.Schema.{Schema}
use Rattle.tq_base.specs.declared.value.Value.{Value}
use Rattle.tq_base.specs.Catalogues.{table_number}
use Rattle.tq_event.specs.declared.event.Event.{Event}
use Rattle.tq_event.specs.declared.event.Event.TheVariants as event
use Rattle.tq_event.specs.SingleRecord.{values_of}
use Rattle.tq_plan.specs.declared.plans.Plan.{Plan}
use Rattle.tq_plan.specs.Plans.{plan_of}
use Rattle.tq_sql.specs.declared.fault.SqlFaultKind.TheVariants as sql
use Rattle.tq_sql.specs.declared.statement.Statement.{Statement}
use Rattle.tq_sql.specs.Reading.{IsSqlFault, ParsesTo}
use Rattle.tq_snapshot.specs.OpenIndex.{next_row}
use Rattle.tq_table.specs.declared.table.Table.{Table}
use Rattle.tq_table.specs.Text.{text_of}
use Rattle.tq_exec.specs.Answers.{IsAnswer}
use Rattle.tq_snapshot.specs.declared.faults.AppendFault.{AppendFault}
use Rattle.tq_snapshot.specs.Calls.{CanEndRow, CanStart, IsEndRefusal, IsStartRefusal, WriterState, all_of}
use Rattle.tq_session.specs.declared.reply.Refusal.{Refusal}
use Rattle.tq_session.specs.declared.reply.Refusal.TheVariants as refusal
use Rattle.tq_session.specs.declared.reply.Reply.{Reply}
use Rattle.tq_session.specs.declared.reply.Reply.TheVariants as outcome
use Rattle.tq_session.specs.Lines.{Line, max_line, line_content}
use Rattle.tq_session.specs.Replies.{refused_event, reply_text}
use Rattle.tq_session.specs.Requests.{Request, Start, End, Publish, Ask, request_of}

-- the state at the start of a session: the loaded events are published
abbrev pub opening : List Event → WriterState
opening events = record { published = events; pending = []; limit = 16777216 }

-- the state after an event was appended
abbrev pub appended : WriterState → Event → WriterState
appended before event = record before { pending = before.pending ++ event ∷ [] }

-- the state after all events were published
abbrev pub published : WriterState → WriterState
published before = record before { published = all_of before; pending = [] }

-- a refusal changes nothing
abbrev pub Refuses : WriterState → Refusal → Reply → WriterState → Type 0
Refuses before why reply after = (reply ≡ outcome.Refused why) × (after ≡ before)

-- ---- events

-- a row with these values starts, and the reply is its number; or the first reason that applies refuses it
abbrev pub Starts : Catalogue → WriterState → ℕ → ℕ → List Value → Reply → WriterState → Type 0
Starts catalogue before table at values (outcome.Row row) after =
    CanStart catalogue before table values at × (row ≡ next_row (all_of before) table) × (after ≡ appended before (event.Start table values at))
Starts catalogue before table at values (outcome.Refused why) after =
    (after ≡ before) × (fault : AppendFault) × (why ≡ refused_event fault) × IsStartRefusal catalogue before table values at fault
Starts catalogue before table at values outcome.Nothing after = ⊥
Starts catalogue before table at values (outcome.Published count) after = ⊥
Starts catalogue before table at values (outcome.Answer answer) after = ⊥

-- the first open row with these values ends, and the reply is its number; or the first reason that applies refuses it
abbrev pub Ends : Catalogue → WriterState → ℕ → ℕ → List Value → Reply → WriterState → Type 0
Ends catalogue before table at values (outcome.Row row) after =
    CanEndRow catalogue before table values at row × (after ≡ appended before (event.End table row at))
Ends catalogue before table at values (outcome.Refused why) after =
    (after ≡ before) × (fault : AppendFault) × (why ≡ refused_event fault) × IsEndRefusal catalogue before table values at fault
Ends catalogue before table at values outcome.Nothing after = ⊥
Ends catalogue before table at values (outcome.Published count) after = ⊥
Ends catalogue before table at values (outcome.Answer answer) after = ⊥

-- the values of the fields, for the table with this number
abbrev pub values_for : Catalogue → ℕ → List ℕ → Option (List Value)
values_for catalogue table fields = option_and_then (λ (s : Schema). values_of s.columns fields) (slice_get catalogue.tables table)

-- an event for the named table and the values of the fields. It is refused if there is no such table, then if the
-- fields are not values of it; an allocation may fail while they are parsed
abbrev pub Records : Catalogue → WriterState → (ℕ → List Value → Reply → WriterState → Type 0) → List ℕ → List ℕ → Reply → WriterState → Type 0
Records catalogue before Executes name fields reply after =
    MatchOption (table_number catalogue name) (Refuses before refusal.UnknownTable reply after)
    (λ table. Refuses before refusal.OutOfMemory reply after
    ⊎ MatchOption (values_for catalogue table fields) (Refuses before refusal.BadValues reply after) (λ values. Executes table values reply after))

-- ---- publishing

-- all pending events are published, and the reply is the number of published events; or an allocation failed
abbrev pub Publishes : WriterState → Reply → WriterState → Type 0
Publishes before (outcome.Published count) after = (count ≡ length (all_of before)) × (after ≡ published before)
Publishes before (outcome.Refused why) after = (after ≡ before) × (why ≡ refusal.OutOfMemory)
Publishes before outcome.Nothing after = ⊥
Publishes before (outcome.Row row) after = ⊥
Publishes before (outcome.Answer answer) after = ⊥

-- ---- queries

-- the bytes are a statement with a plan
pub record IsPlanned (form : Form) (catalogue : Catalogue) (bytes : List ℕ) : Type 0 where
  pub statement : Statement
  pub makes : ParsesTo bytes statement
  pub plan : Plan
  pub planned : plan_of form catalogue statement ≡ Ok plan

-- the answer of the statement as of the first n published events: its number of rows, and its text
pub record IsRenderedAnswer (form : Form) (catalogue : Catalogue) (events : List Event) (n : ℕ) (bytes : List ℕ) (rows : ℕ) (text : List ℕ) : Type 0 where
  pub told : n ≤ length events
  pub statement : Statement
  pub makes : ParsesTo bytes statement
  pub table : Table
  pub is_answer : IsAnswer form catalogue statement events n table
  pub rows_are : rows ≡ length table.rows
  pub text_is : text ≡ text_of form table

-- why a statement has no answer as of the first n of these events: the first reason that applies, a failed allocation,
-- or a closed store
abbrev pub RefusesQuery : Form → Catalogue → List Event → ℕ → List ℕ → Refusal → Type 0
RefusesQuery form catalogue events n bytes (refusal.Statement fault) = IsSqlFault bytes fault × (fault.kind ≢ sql.OutOfMemory)
RefusesQuery form catalogue events n bytes (refusal.Plan fault) = (statement : Statement) × ParsesTo bytes statement × (plan_of form catalogue statement ≡ Err fault)
RefusesQuery form catalogue events n bytes (refusal.TooNew count) = IsPlanned form catalogue bytes × (count ≡ length events) × (length events < n)
RefusesQuery form catalogue events n bytes refusal.Closed = IsPlanned form catalogue bytes × (n ≤ length events)
RefusesQuery form catalogue events n bytes refusal.OutOfMemory = Unit {0}
RefusesQuery form catalogue events n bytes refusal.BadLine = ⊥
RefusesQuery form catalogue events n bytes refusal.LongLine = ⊥
RefusesQuery form catalogue events n bytes refusal.UnknownTable = ⊥
RefusesQuery form catalogue events n bytes refusal.BadValues = ⊥
RefusesQuery form catalogue events n bytes (refusal.TooEarly last) = ⊥
RefusesQuery form catalogue events n bytes refusal.NoOpenRow = ⊥
RefusesQuery form catalogue events n bytes refusal.TooManyEvents = ⊥

-- the reply is the answer, or why there is none; the number of workers does not occur in it
abbrev pub Asks : Form → Catalogue → List Event → ℕ → List ℕ → Reply → Type 0
Asks form catalogue events n bytes (outcome.Answer answer) = IsRenderedAnswer form catalogue events n bytes answer.rows answer.text
Asks form catalogue events n bytes (outcome.Refused why) = RefusesQuery form catalogue events n bytes why
Asks form catalogue events n bytes outcome.Nothing = ⊥
Asks form catalogue events n bytes (outcome.Row row) = ⊥
Asks form catalogue events n bytes (outcome.Published count) = ⊥

-- ---- lines

-- the reply to a request, and the published and pending events afterwards
abbrev pub Executes : Form → Catalogue → WriterState → Request → Reply → WriterState → Type 0
Executes form catalogue before (Start name at fields) reply after =
    Records catalogue before (λ table values. Starts catalogue before table at values) name fields reply after
Executes form catalogue before (End name at fields) reply after =
    Records catalogue before (λ table values. Ends catalogue before table at values) name fields reply after
Executes form catalogue before Publish reply after = Publishes before reply after
Executes form catalogue before (Ask n workers bytes) reply after = Asks form catalogue before.published n bytes reply × (after ≡ before)

-- the reply to the content of a line; an empty one has none
abbrev pub Replies : Form → Catalogue → WriterState → List ℕ → Reply → WriterState → Type 0
Replies form catalogue before [] reply after = (reply ≡ outcome.Nothing) × (after ≡ before)
Replies form catalogue before (byte ∷ bytes) reply after =
    MatchOption (request_of form (byte ∷ bytes)) (Refuses before refusal.BadLine reply after) (λ request. Executes form catalogue before request reply after)

-- the reply to a line; one that is too long is refused
abbrev pub Answers : Form → Catalogue → WriterState → Line → Reply → WriterState → Type 0
Answers form catalogue before line reply after =
    MatchBool (nat_lt max_line (length line.bytes)) (Refuses before refusal.LongLine reply after) (Replies form catalogue before (line_content line) reply after)

-- the text may be printed for the lines, one after another, and the state is the one afterwards
unfoldable pub IsTranscript : Form → Catalogue → WriterState → List Line → List ℕ → WriterState → Type 0
IsTranscript form catalogue before [] text after = (text ≡ []) × (after ≡ before)
IsTranscript form catalogue before (line ∷ lines) text after =
    (reply : Reply) × (next : WriterState) × (more : List ℕ)
    × Answers form catalogue before line reply next × IsTranscript form catalogue next lines more after × (text ≡ reply_text form reply ++ more)
