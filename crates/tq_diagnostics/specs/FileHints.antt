-- Hints below the message for the fault of a file: what to do about it. This project's own.
use Rattle.std.specs.Prelude.{ℕ, ◌-◌, ◌==◌, ◌&&◌, nat_lt, Bool, true, false, if◌then◌else◌, List, [], ◌++◌, codes, length, slice_get, Option, None, Some}
use Rattle.tq_base.specs.Numbers.{bound_of, instant_of}
use Rattle.tq_base.specs.declared.form.Form.{Form}
use Rattle.tq_base.specs.declared.form.Form.TheVariants.{Dates, Numbers}
use Rattle.tq_event.specs.declared.fault.LoadFaultKind.{LoadFaultKind}
use Rattle.tq_event.specs.declared.fault.LoadFaultKind.TheVariants.{BadHeader, BadInt, BadPeriod, DuplicateName, FieldCount, NotUtf8, OutOfMemory, TextTooLong, TooManyColumns, TooManyEvents, TooManyTables}
use Rattle.tq_diagnostics.specs.Contents.{content_of, is_plain}
use Rattle.tq_diagnostics.specs.Fields.{field_of}
use Rattle.tq_diagnostics.specs.HeaderHints.{header_hint}
use Rattle.tq_diagnostics.specs.Quotes.{open_quote_line, quote_text}
use Rattle.tq_diagnostics.specs.Records.{record_of}

-- ---- a period of one instant

abbrev pub equal_instants : Option ℕ → Option ℕ → Bool
equal_instants None end = false
equal_instants (Some start) None = false
equal_instants (Some start) (Some end) = start == end

-- whether two fields are one instant
abbrev pub is_one_instant : Form → List ℕ → List ℕ → Bool
is_one_instant form from to = equal_instants (instant_of form from) (bound_of form to)

-- how the period of one instant is written
abbrev pub one_instant_line : Form → List ℕ
one_instant_line Numbers = codes "  the end is not included: a row of one instant ends at the next one; `tq import --inclusive` converts ends that are included\n"
one_instant_line Dates = codes "  the end is not included: a row of one day ends on the next one; `tq import --inclusive` converts ends that are included\n"

-- the message for a record whose last two fields are one instant
abbrev pub instant_hint : Form → Option (List (List ℕ)) → List ℕ
instant_hint form None = []
instant_hint form (Some fields) =
    if is_one_instant form (field_of (slice_get fields (length fields - 2))) (field_of (slice_get fields (length fields - 1))) then one_instant_line form else []

-- ---- all hints

-- whether a fault of this kind is one of a period
abbrev pub is_of_period : LoadFaultKind → Bool
is_of_period BadHeader = false
is_of_period DuplicateName = false
is_of_period FieldCount = false
is_of_period BadInt = false
is_of_period TextTooLong = false
is_of_period BadPeriod = true
is_of_period NotUtf8 = false
is_of_period TooManyTables = false
is_of_period TooManyColumns = false
is_of_period TooManyEvents = false
is_of_period OutOfMemory = false

-- the hints for the header, if that is invalid
abbrev pub header_hint_if : Bool → List ℕ → List ℕ
header_hint_if false bytes = []
header_hint_if true bytes = header_hint (record_of bytes 1)

-- the hint for the period of the record with this number, if the fault is one of a period
abbrev pub instant_hint_of : LoadFaultKind → Form → List ℕ → ℕ → List ℕ
instant_hint_of kind form bytes number = if is_of_period kind && nat_lt 0 number then instant_hint form (record_of bytes number) else []

-- the message for a quote that is not closed, unless the fault is that of the file as a whole
abbrev pub quote_hint_of : List ℕ → ℕ → List ℕ
quote_hint_of bytes number = if nat_lt 0 number && is_plain (content_of bytes) then quote_text (open_quote_line bytes) else []

-- the hints for a fault of this kind in the record with this number; `header` if the header is invalid
abbrev pub file_hints : Bool → LoadFaultKind → Form → List ℕ → ℕ → List ℕ
file_hints header kind form bytes number = header_hint_if header bytes ++ instant_hint_of kind form bytes number ++ quote_hint_of bytes number
