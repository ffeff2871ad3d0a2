-- The message for a statement that has no plan over the tables. This project's own.
use Rattle.std.specs.Prelude.{◌≡◌, ℕ, ◌-◌, ◌==◌, Bool, true, false, not, ◌&&◌, if◌then◌else◌, List, [], ◌++◌, codes, drop, length, min, position, slice_index, take, Option, None, Some, is_some}
use Rattle.std.specs.List.{ends_with}
use Rattle.tq_base.specs.Numbers.{instant_of}
use Rattle.tq_base.specs.declared.catalogue.Catalogue.{Catalogue}
use Rattle.tq_base.specs.declared.form.Form.{Form}
use Rattle.tq_base.specs.declared.form.Form.TheVariants.{Dates, Numbers}
use Rattle.tq_plan.specs.declared.fault.PlanFault.{PlanFault}
use Rattle.tq_plan.specs.declared.fault.PlanFault.TheVariants.{AmbiguousColumn, BadWindow, DuplicateAlias, NotGrouped, OutOfMemory, SumNeedsGroup, SumOfText, TypeMismatch, UnequalColumns, UnknownColumn, UnknownTable}
use Rattle.tq_plan.specs.Plans.{plan_of}
use Rattle.tq_sql.specs.Reading.{ParsesTo}
use Rattle.tq_sql.specs.declared.statement.ColumnRef.{ColumnRef}
use Rattle.tq_sql.specs.declared.statement.Statement.{Statement}
use Rattle.tq_diagnostics.specs.Fields.{shown_value}
use Rattle.tq_diagnostics.specs.Probes.{Probe, Column, Count, Equality, QueryPart, Sum, first_refused, is_fault}
use Rattle.tq_diagnostics.specs.Listing.{sources_having, is_text, left_of, mismatch_line, source_line, unknown_lines, unknown_table_lines}
use Rattle.tq_diagnostics.specs.NamePlaces.{pointed_name}
use Rattle.tq_diagnostics.specs.Parts.{statement_parts}
use Rattle.tq_diagnostics.specs.Pointing.{pointed}

-- the column that a probe selects
abbrev pub column_of : Probe → Option ColumnRef
column_of Count = None
column_of (Column column) = Some column
column_of (Sum column group) = None
column_of (Equality left right) = None

-- what exists, or what is wrong, for a part with this fault
abbrev pub part_hint : Catalogue → PlanFault → QueryPart → List ℕ
part_hint catalogue UnknownTable part = unknown_table_lines catalogue part.name
part_hint catalogue UnknownColumn part = unknown_lines catalogue part.sources (column_of part.probe)
part_hint catalogue AmbiguousColumn part = sources_having catalogue part.sources part.probe
part_hint catalogue DuplicateAlias part = source_line part.sources
part_hint catalogue TypeMismatch part = mismatch_line (is_text catalogue part.sources (left_of part.probe))
part_hint catalogue NotGrouped part = []
part_hint catalogue SumNeedsGroup part = codes "  SUM needs GROUP BY\n"
part_hint catalogue SumOfText part = codes "  SUM needs an int column; this one is text\n"
part_hint catalogue UnequalColumns part = []
part_hint catalogue BadWindow part = []
part_hint catalogue OutOfMemory part = []

-- the rule that the statement breaks, if no part has the fault by itself
abbrev pub rule_line : PlanFault → List ℕ
rule_line UnknownTable = []
rule_line UnknownColumn = []
rule_line AmbiguousColumn = []
rule_line DuplicateAlias = []
rule_line TypeMismatch = []
rule_line NotGrouped = codes "  with GROUP BY, COUNT or SUM, a selected column must be in GROUP BY\n"
rule_line SumNeedsGroup = []
rule_line SumOfText = []
rule_line UnequalColumns = codes "  both sides of EXCEPT ALL must have the same number and kinds of columns\n"
rule_line BadWindow = []
rule_line OutOfMemory = []

-- the line of the faulty part with a caret below its first name, and what exists
abbrev pub part_detail : Catalogue → List ℕ → PlanFault → Option QueryPart → List ℕ
part_detail catalogue bytes fault None = rule_line fault
part_detail catalogue bytes fault (Some part) = pointed_name bytes part.at part.name ++ part_hint catalogue fault part

-- whether the fault is in the window
abbrev pub is_bad_window : PlanFault → Bool
is_bad_window UnknownTable = false
is_bad_window UnknownColumn = false
is_bad_window AmbiguousColumn = false
is_bad_window DuplicateAlias = false
is_bad_window TypeMismatch = false
is_bad_window NotGrouped = false
is_bad_window SumNeedsGroup = false
is_bad_window SumOfText = false
is_bad_window UnequalColumns = false
is_bad_window BadWindow = true
is_bad_window OutOfMemory = false

-- how a window is written in the form
abbrev pub window_line : Form → List ℕ
window_line Numbers = codes "  write the window as '[10 - 20)' or '[10 - forever)', with its start before its end\n"
window_line Dates = codes "  write the window as '[2024-02-29 - 2024-03-01)' or '[2024-02-29 - forever)', with its start before its end\n"

-- for a window that is valid only in the other form of instants, by the wanted one
abbrev pub other_form_line : Form → List ℕ
other_form_line Numbers = codes "  the window has dates: use --dates\n"
other_form_line Dates = codes "  with --dates write days, as in '[2024-02-29 - 2024-03-01)' or '[2024-02-29 - forever)'\n"

-- for a window that ends with a square bracket
abbrev pub closed_line : Form → List ℕ
closed_line Numbers = codes "  a window ends with `)`, since its end is not included: write '[10 - 21)' for 10 to 20\n"
closed_line Dates = codes "  a window ends with `)`, since its end is not included: write '[2024-02-01 - 2024-03-01)' for February\n"

-- whether the bytes have the hyphens of a date, and are not a day
abbrev pub is_no_day : List ℕ → Bool
is_no_day bytes =
    length bytes == 10 && (slice_index bytes 4 == 45 && (slice_index bytes 7 == 45 && not (is_some (instant_of Dates bytes))))

-- the ten bytes after a bracket
abbrev pub first_day : List ℕ → List ℕ
first_day window = let rest = drop (min (length window) 1) window in take (min (length rest) 10) rest

-- the ten bytes before a bracket
abbrev pub last_day : List ℕ → List ℕ
last_day window = let front = take (length window - 1) window in drop (length front - 10) front

abbrev pub no_day_line : List ℕ → List ℕ
no_day_line day = codes "  `" ++ shown_value day ++ codes "` is not a day of the calendar\n"

-- the day of a window that does not exist, or how a window is written
abbrev pub bounds_line : Form → List ℕ → List ℕ
bounds_line form window =
    if is_no_day (first_day window) then no_day_line (first_day window)
    else (if is_no_day (last_day window) then no_day_line (last_day window) else window_line form)

-- what is wrong with the text of a window, and whether it is one in the other form
abbrev pub window_hint : Form → Bool → List ℕ → List ℕ
window_hint form read window =
    if read then other_form_line form
    else (if ends_with (λ a b. a == b) window (codes "]") then closed_line form else bounds_line form window)

abbrev pub other_form : Form → Form
other_form Numbers = Dates
other_form Dates = Numbers

-- whether the window of the statement is one in this form
unfoldable pub reads_window : Form → Catalogue → Statement → Bool
reads_window form catalogue statement = not (is_fault BadWindow (plan_of form catalogue statement))

-- the text of a window, or nothing
abbrev pub window_text : Option (List ℕ) → List ℕ
window_text None = []
window_text (Some text) = text

abbrev pub pointed_quote : List ℕ → Option ℕ → List ℕ
pointed_quote bytes None = []
pointed_quote bytes (Some place) = pointed bytes place

-- the line of the first quote with a caret below it, and what is wrong with the window
abbrev pub window_detail : Form → Catalogue → List ℕ → Statement → List ℕ
window_detail form catalogue bytes statement =
    pointed_quote bytes (position (λ byte. byte == 39) bytes)
    ++ window_hint form (reads_window (other_form form) catalogue statement) (window_text statement.window)

-- the message for the fault of a statement with this text: for its window if the fault is there, else for the first
-- part that has this fault by itself
abbrev pub plan_detail : Form → Catalogue → List ℕ → PlanFault → Statement → List ℕ
plan_detail form catalogue bytes fault statement =
    if is_bad_window fault then window_detail form catalogue bytes statement else part_detail catalogue bytes fault (first_refused catalogue fault (statement_parts statement))

-- The message for the fault that the statement of this text has over the tables.
abbrev pub IsPlanDetail : Form → Catalogue → List ℕ → PlanFault → List ℕ → Type 0
IsPlanDetail form catalogue bytes fault text =
    (statement : Statement) → ParsesTo bytes statement → text ≡ plan_detail form catalogue bytes fault statement

-- the statement that a text makes, if it makes one
abbrev pub IsRead : List ℕ → Option Statement → Type 0
IsRead bytes None = (statement : Statement) → ParsesTo bytes statement → ⊥
IsRead bytes (Some statement) = ParsesTo bytes statement
