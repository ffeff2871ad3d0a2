-- The text of each reply. This project's own.
use Rattle.std.specs.Prelude.{◌≡◌, ℕ, List, [], ◌++◌, Option, Some, None, codes, decimal}
use Rattle.std.specs.Borrow.{Bor}
use Rattle.std.specs.Io.KnownBytes.{Appends}
use Rattle.std.specs.List.{flat_map}
use Rattle.tq_base.specs.declared.form.Form.{Form}
use Rattle.tq_base.specs.Numbers.{instant_text}
use Rattle.tq_engine.specs.FaultNames.{plan_name, sql_name}
use Rattle.tq_snapshot.specs.declared.faults.AppendFault.{AppendFault}
use Rattle.tq_snapshot.specs.declared.faults.AppendFault.TheVariants as append
use Rattle.tq_session.specs.declared.reply.Refusal.{Refusal}
use Rattle.tq_session.specs.declared.reply.Refusal.TheVariants as refusal
use Rattle.tq_session.specs.declared.reply.Reply.{Reply}
use Rattle.tq_session.specs.declared.reply.Reply.TheVariants as reply

-- the refusal of an event
abbrev pub refused_event : AppendFault → Refusal
refused_event append.UnknownTable = refusal.UnknownTable
refused_event append.BadValues = refusal.BadValues
refused_event (append.TooEarly last) = refusal.TooEarly last
refused_event append.NoOpenRow = refusal.NoOpenRow
refused_event append.TooManyEvents = refusal.TooManyEvents
refused_event append.OutOfMemory = refusal.OutOfMemory

-- the name of a refusal
abbrev pub refusal_name : Refusal → List ℕ
refusal_name refusal.BadLine = codes "BadLine"
refusal_name refusal.LongLine = codes "BadLine"
refusal_name refusal.UnknownTable = codes "UnknownTable"
refusal_name refusal.BadValues = codes "BadValues"
refusal_name (refusal.TooEarly last) = codes "TooEarly"
refusal_name refusal.NoOpenRow = codes "NoOpenRow"
refusal_name refusal.TooManyEvents = codes "TooManyEvents"
refusal_name (refusal.Statement fault) = sql_name fault.kind
refusal_name (refusal.Plan fault) = plan_name fault
refusal_name (refusal.TooNew published) = codes "TooNew"
refusal_name refusal.Closed = codes "Closed"
refusal_name refusal.OutOfMemory = codes "OutOfMemory"

-- the number after a refusal's name, if it has one: the time of the last event, the offset in the statement, or the
-- number of published events
abbrev pub refusal_number : Form → Refusal → Option (List ℕ)
refusal_number form refusal.BadLine = None
refusal_number form refusal.LongLine = None
refusal_number form refusal.UnknownTable = None
refusal_number form refusal.BadValues = None
refusal_number form (refusal.TooEarly last) = Some (instant_text form last)
refusal_number form refusal.NoOpenRow = None
refusal_number form refusal.TooManyEvents = None
refusal_number form (refusal.Statement fault) = Some (decimal fault.at)
refusal_number form (refusal.Plan fault) = None
refusal_number form (refusal.TooNew published) = Some (decimal published)
refusal_number form refusal.Closed = None
refusal_number form refusal.OutOfMemory = None

-- a line: its first part, a word, and a space and digits if there are any; then a text after the line
abbrev pub line_text : List ℕ → List ℕ → Option (List ℕ) → List ℕ → List ℕ
line_text first word None text = first ++ (word ++ (codes "\n" ++ text))
line_text first word (Some digits) text = first ++ (word ++ (codes " " ++ (digits ++ (codes "\n" ++ text))))

-- the text of a reply: nothing for an empty line, else a line, followed by the text of an answer
abbrev pub reply_text : Form → Reply → List ℕ
reply_text form reply.Nothing = []
reply_text form (reply.Row row) = line_text [] (codes "row") (Some (decimal row)) []
reply_text form (reply.Published count) = line_text [] (codes "published") (Some (decimal count)) []
reply_text form (reply.Answer answer) = line_text [] (codes "answer") (Some (decimal answer.rows)) answer.text
reply_text form (reply.Refused why) = line_text (codes "refused ") (refusal_name why) (refusal_number form why) []

-- the bytes of slices, one after the other
abbrev pub joined : List (Bor (List ℕ)) → List ℕ
joined parts = flat_map (λ (part : Bor (List ℕ)). part.now) parts

-- known bytes grow by these bytes without the rest
abbrev pub AppendsAllExcept : Option (List ℕ) → Option (List ℕ) → List ℕ → List ℕ → Type 0
AppendsAllExcept old new bytes rest = (sent : List ℕ) × (bytes ≡ sent ++ rest) × Appends old new sent
