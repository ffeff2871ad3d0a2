-- The details of the refused lines of a session. This project's own.
use Rattle.std.specs.Prelude.{◌≡◌, ◌⊎◌, ℕ, nat_lt, if◌then◌else◌, List, [], ◌++◌, Option, None, Some, codes, decimal, length, min}
use Rattle.std.specs.Io.KnownBytes.{Keeps}
use Rattle.tq_base.specs.Numbers.{instant_text}
use Rattle.tq_base.specs.declared.catalogue.Catalogue.{Catalogue}
use Rattle.tq_base.specs.declared.form.Form.{Form}
use Rattle.tq_diagnostics.specs.Commands.{command_detail}
use Rattle.tq_diagnostics.specs.Details.{IsDetail}
use Rattle.tq_diagnostics.specs.PlanDetails.{IsPlanDetail}
use Rattle.tq_diagnostics.specs.RowDetails.{row_detail}
use Rattle.tq_plan.specs.declared.fault.PlanFault.{PlanFault}
use Rattle.tq_session.specs.Requests.{Request, Start, End, Publish, Ask, request_of}
use Rattle.tq_session.specs.declared.reply.Refusal.{Refusal}
use Rattle.tq_session.specs.declared.reply.Refusal.TheVariants as refusal
use Rattle.tq_sql.specs.declared.fault.SqlFault.{SqlFault}
use Rattle.tq_table.specs.Sink.{AppendsPrefix}

-- the name of the table and the fields of an event, if the command has one
abbrev pub event_in : Option Request → Option (List ℕ × List ℕ)
event_in None = None
event_in (Some (Start name at fields)) = Some (name, fields)
event_in (Some (End name at fields)) = Some (name, fields)
event_in (Some Publish) = None
event_in (Some (Ask count workers statement)) = None

-- the statement of a query, if the command is one
abbrev pub statement_in : Option Request → Option (List ℕ)
statement_in None = None
statement_in (Some (Start name at fields)) = None
statement_in (Some (End name at fields)) = None
statement_in (Some Publish) = None
statement_in (Some (Ask count workers statement)) = Some statement

-- the text, or for nothing what values are
abbrev pub or_one_record : List ℕ → List ℕ
or_one_record text =
    if nat_lt 0 (length text) then text else codes "  write the values as one CSV record, with no line break or byte order mark\n"

-- the details of an event's row
abbrev pub event_detail : Catalogue → Option (List ℕ × List ℕ) → List ℕ
event_detail catalogue None = []
event_detail catalogue (Some event) = or_one_record (row_detail catalogue event.0 event.1)

-- the details of a fault of a statement's text
abbrev pub IsStatementDetail : SqlFault → Option (List ℕ) → List ℕ → Type 0
IsStatementDetail fault None text = text ≡ []
IsStatementDetail fault (Some statement) text = IsDetail fault.kind statement (min fault.at (length statement)) text

-- the details of a fault of a statement's plan
abbrev pub IsPlanDetailOf : Form → Catalogue → PlanFault → Option (List ℕ) → List ℕ → Type 0
IsPlanDetailOf form catalogue fault None text = text ≡ []
IsPlanDetailOf form catalogue fault (Some statement) text = IsPlanDetail form catalogue statement fault text

-- the details of an event that is earlier than the last one
abbrev pub early_text : Form → ℕ → List ℕ
early_text form last = codes "  the last event is at " ++ instant_text form last ++ codes ": write this time or a later one\n"

-- the details of a query as of more events than are published
abbrev pub new_text : ℕ → List ℕ
new_text published = codes "  published events: " ++ decimal published ++ codes "; write this count or a lower one, or publish first\n"

-- The details of a refused line: the text for its reason.
abbrev pub IsLineDetail : Form → Catalogue → List ℕ → Refusal → List ℕ → Type 0
IsLineDetail form catalogue line refusal.BadLine text = text ≡ command_detail form line
IsLineDetail form catalogue line refusal.LongLine text = text ≡ codes "  a line has at most 70,000 bytes\n"
IsLineDetail form catalogue line refusal.UnknownTable text = text ≡ event_detail catalogue (event_in (request_of form line))
IsLineDetail form catalogue line refusal.BadValues text = text ≡ event_detail catalogue (event_in (request_of form line))
IsLineDetail form catalogue line (refusal.TooEarly last) text = text ≡ early_text form last
IsLineDetail form catalogue line refusal.NoOpenRow text = text ≡ codes "  no open row has these values and started before this time\n"
IsLineDetail form catalogue line refusal.TooManyEvents text = text ≡ codes "  a session has at most 16,777,216 events\n"
IsLineDetail form catalogue line (refusal.Statement fault) text = IsStatementDetail fault (statement_in (request_of form line)) text
IsLineDetail form catalogue line (refusal.Plan fault) text = IsPlanDetailOf form catalogue fault (statement_in (request_of form line)) text
IsLineDetail form catalogue line (refusal.TooNew published) text = text ≡ new_text published
IsLineDetail form catalogue line refusal.Closed text = text ≡ []
IsLineDetail form catalogue line refusal.OutOfMemory text = text ≡ []

-- What is written of a refused line: nothing, or its details, of which a failed write leaves a prefix.
abbrev pub Explains : Form → Catalogue → List ℕ → Refusal → Option (List ℕ) → Option (List ℕ) → Type 0
Explains form catalogue line why old new =
    Keeps old new ⊎ ((text : List ℕ) × IsLineDetail form catalogue line why text × AppendsPrefix old new text)

-- The same if there is a catalogue; else nothing is written.
abbrev pub ExplainsIf : Form → Option Catalogue → List ℕ → Refusal → Option (List ℕ) → Option (List ℕ) → Type 0
ExplainsIf form None line why old new = Keeps old new
ExplainsIf form (Some catalogue) line why old new = Explains form catalogue line why old new
