-- Messages about the fields of a record. This project's own.
use Rattle.std.specs.Prelude.{ℕ, ◌+◌, ◌==◌, nat_lt, Bool, false, if◌then◌else◌, List, [], ◌∷◌, ◌++◌, codes, decimal, is_some, length, min, slice_get, take, Option, None, Some, Result, Ok, Err}
use Rattle.tq_base.specs.Numbers.{bound_of, instant_of}
use Rattle.tq_base.specs.declared.catalogue.Column.{Column}
use Rattle.tq_base.specs.declared.catalogue.Kind.{Kind}
use Rattle.tq_base.specs.declared.form.Form.{Form}
use Rattle.tq_base.specs.declared.form.Form.TheVariants.{Dates, Numbers}
use Rattle.tq_base.specs.declared.value.Value.{Value}
use Rattle.tq_event.specs.Loading.{value_of}
use Rattle.tq_event.specs.declared.fault.LoadFaultKind.{LoadFaultKind}
use Rattle.tq_event.specs.declared.fault.LoadFaultKind.TheVariants.{BadHeader, BadInt, BadPeriod, DuplicateName, FieldCount, NotUtf8, OutOfMemory, TextTooLong, TooManyColumns, TooManyEvents, TooManyTables}
use Rattle.tq_shown.specs.Printable.{printable_text}

-- ---- a field

-- a value as it is shown: each hidden character except the tab as `?`, and of more than 60 bytes the first 60 and two
-- dots
abbrev pub shown_value : List ℕ → List ℕ
shown_value value = printable_text (take (min (length value) 60) value) ++ (if nat_lt 60 (length value) then codes ".." else [])

-- a value and its problem, or that the value is empty
abbrev pub value_description : List ℕ → List ℕ → List ℕ
value_description value problem = if length value == 0 then codes " is empty" else codes " `" ++ shown_value value ++ codes "` " ++ problem

-- a column's name, the field and its problem, and what is expected
abbrev pub reported : List ℕ → List ℕ → List ℕ → List ℕ → List ℕ
reported name value problem wanted = name ++ value_description value problem ++ codes ": " ++ wanted

-- ---- values

abbrev pub fault_in : Result Value LoadFaultKind → Option LoadFaultKind
fault_in (Ok value) = None
fault_in (Err kind) = Some kind

-- the fault of a field as the value of a column, if it has one
abbrev pub value_fault : Kind → List ℕ → Option LoadFaultKind
value_fault kind field = fault_in (value_of kind field)

-- the problem of a value with a fault of each kind
abbrev pub value_problem : LoadFaultKind → List ℕ
value_problem BadHeader = []
value_problem DuplicateName = []
value_problem FieldCount = []
value_problem BadInt = codes "is not an int"
value_problem TextTooLong = codes "is too long"
value_problem BadPeriod = []
value_problem NotUtf8 = codes "is not valid UTF-8"
value_problem TooManyTables = []
value_problem TooManyColumns = []
value_problem TooManyEvents = []
value_problem OutOfMemory = []

-- what is expected instead
abbrev pub expected_value : LoadFaultKind → List ℕ
expected_value BadHeader = []
expected_value DuplicateName = []
expected_value FieldCount = []
expected_value BadInt = codes "write digits, or - and digits, from -9223372036854775808 to 9223372036854775807"
expected_value TextTooLong = codes "a text has at most 1,000 bytes"
expected_value BadPeriod = []
expected_value NotUtf8 = codes "save the file as UTF-8"
expected_value TooManyTables = []
expected_value TooManyColumns = []
expected_value TooManyEvents = []
expected_value OutOfMemory = []

-- the message for a field with a fault, else the given text
abbrev pub reported_or : Option LoadFaultKind → List ℕ → List ℕ → List ℕ → List ℕ
reported_or None name field next = next
reported_or (Some kind) name field next = reported name field (value_problem kind) (expected_value kind)

-- the message for the first field that is not a valid value of its column, or nothing
abbrev pub value_detail : List Column → List (List ℕ) → List ℕ
value_detail [] fields = []
value_detail (c ∷ columns) [] = []
value_detail (c ∷ columns) (field ∷ fields) = reported_or (value_fault c.kind field) c.name field (value_detail columns fields)

-- ---- the period

-- a date although instants are numbers
abbrev pub is_strange_date : Form → List ℕ → Bool
is_strange_date Numbers field = is_some (instant_of Dates field)
is_strange_date Dates field = false

abbrev pub instant_problem : Form → List ℕ
instant_problem Numbers = codes "is not a valid instant"
instant_problem Dates = codes "is not a valid date"

abbrev pub expected_instant : Form → List ℕ
expected_instant Numbers = codes "write digits, from 0 to 999999999999"
expected_instant Dates = codes "write a day of the calendar, YYYY-MM-DD"

-- the message for a field that is not a valid instant, and what else is expected
abbrev pub instant_report : Form → List ℕ → List ℕ → List ℕ → List ℕ
instant_report form name field also =
    if is_strange_date form field then reported name field (codes "is a date") (codes "use --dates for files with dates")
    else reported name field (instant_problem form) (expected_instant form ++ also)

-- the message for an end that is not a valid bound
abbrev pub bound_report : Form → List ℕ → List ℕ
bound_report form to =
    if length to == 0 then reported (codes "to") to [] (codes "write forever for an open end")
    else instant_report form (codes "to") to (codes ", or forever")

abbrev pub end_detail : Form → ℕ → Option ℕ → List ℕ → List ℕ → List ℕ
end_detail form start None from to = bound_report form to
end_detail form start (Some end) from to =
    if nat_lt start end then [] else codes "from `" ++ shown_value from ++ codes "` is not before to `" ++ shown_value to ++ codes "`"

abbrev pub start_detail : Form → Option ℕ → List ℕ → List ℕ → List ℕ
start_detail form None from to = instant_report form (codes "from") from []
start_detail form (Some start) from to = end_detail form start (bound_of form to) from to

-- the message for two fields that are not a valid period, or nothing
abbrev pub period_detail : Form → List ℕ → List ℕ → List ℕ
period_detail form from to = start_detail form (instant_of form from) from to

-- ---- a record

-- a field, or nothing if there is none
abbrev pub field_of : Option (List ℕ) → List ℕ
field_of None = []
field_of (Some field) = field

-- the first text if it is not empty, else the second
abbrev pub or_else : List ℕ → List ℕ → List ℕ
or_else first second = if length first == 0 then second else first

-- the message for a record that has two more fields than there are columns: for the first invalid value, or else for
-- the period
abbrev pub fields_detail : Form → List Column → List (List ℕ) → List ℕ
fields_detail form columns fields = or_else (value_detail columns fields)
    (period_detail form (field_of (slice_get fields (length columns))) (field_of (slice_get fields (length columns + 1))))

-- the message for a record with another number of fields
abbrev pub counts_detail : ℕ → ℕ → List ℕ
counts_detail has wanted = codes "the header has " ++ decimal wanted ++ codes " fields, but this record has " ++ decimal has

-- the message for a record by these columns
abbrev pub record_detail : Form → List Column → List (List ℕ) → List ℕ
record_detail form columns fields =
    if length fields == length columns + 2 then fields_detail form columns fields else counts_detail (length fields) (length columns + 2)
