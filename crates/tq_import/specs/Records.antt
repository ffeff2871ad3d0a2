-- What one record of an exported file becomes: the first fault, or the fields of a record of a table file. This project's
-- own.
use Rattle.std.specs.Prelude.{◌≡◌, ℕ, ◌-◌, ◌==◌, not, nat_lt, ℤ, Bool, if◌then◌else◌, List, [], ◌∷◌, ◌++◌, decimal, filter, is_ok, length, slice_index_or, Option, Some, None, Result, Ok, Err}
use Rattle.std.specs.Fmt.{signed_decimal}
use Rattle.std.specs.Str.{is_utf8}
use Rattle.csv.specs.Records.{Row, fields_of, partial_of}
use Rattle.tq_base.specs.Numbers.{instant_text}
use Rattle.tq_base.specs.Results.{and_then}
use Rattle.tq_base.specs.declared.form.Form.{Form}
use Rattle.tq_table.specs.Text.{bound_field}
use Rattle.tq_import.specs.declared.fault.RecordFault.{RecordFault}
use Rattle.tq_import.specs.declared.fault.RecordFaultKind.{RecordFaultKind}
use Rattle.tq_import.specs.declared.fault.RecordFaultKind.TheVariants.{FieldCount, BadNumber, NotUtf8, TextTooLong, BadFrom, BadTo, EmptyPeriod}
use Rattle.tq_import.specs.declared.plan.Conversion.{Conversion}
use Rattle.tq_import.specs.declared.plan.Conversion.TheVariants.{Number, Text}
use Rattle.tq_import.specs.declared.plan.NumberFormat.{NumberFormat}
use Rattle.tq_import.specs.declared.plan.PlannedColumn.{PlannedColumn}
use Rattle.tq_import.specs.declared.plan.Plan.{Plan}
use Rattle.tq_import.specs.Amounts.{units_in}
use Rattle.tq_import.specs.Times.{bound_in, form_of, instant_in}

-- the field at a place; the empty one if there is none
abbrev pub field_of : List (List ℕ) → ℕ → List ℕ
field_of fields place = slice_index_or fields place []

-- the fault of the field at a place
abbrev pub at_place : {A : Type 0} → ℕ → Result A RecordFaultKind → Result A RecordFault
at_place place (Err kind) = Err (record { kind = kind; place = place })
at_place place (Ok value) = Ok value

-- ---- values

abbrev pub number_field : Option ℤ → Result (List ℕ) RecordFaultKind
number_field None = Err BadNumber
number_field (Some units) = Ok (signed_decimal units)

-- a text of UTF-8, of at most 1,000 bytes
abbrev pub text_field : List ℕ → Result (List ℕ) RecordFaultKind
text_field field =
    if not (is_utf8 field) then Err NotUtf8
    else (if nat_lt 1000 (length field) then Err TextTooLong else Ok field)

-- the field that a value becomes: a number its units in decimal, a text itself
abbrev pub convert : NumberFormat → Conversion → List ℕ → Result (List ℕ) RecordFaultKind
convert format (Number places) field = number_field (units_in format places field)
convert format Text field = text_field field

-- the values after these, with those of the columns, from left to right
abbrev pub values_after : List (List ℕ) → NumberFormat → List PlannedColumn → List (List ℕ) → Result (List (List ℕ)) RecordFault
values_after values format [] fields = Ok values
values_after values format (c ∷ columns) fields =
    and_then (at_place c.place (convert format c.conversion (field_of fields c.place))) (λ value. values_after (values ++ value ∷ []) format columns fields)

-- the number of the record among those after the header, if records are numbered
abbrev pub row_number : Bool → ℕ → List (List ℕ)
row_number numbered number = if numbered then decimal (number - 1) ∷ [] else []

-- ---- the period

abbrev pub known : RecordFaultKind → Option ℕ → Result ℕ RecordFaultKind
known kind None = Err kind
known kind (Some n) = Ok n

-- the start and the end, if the start is before the end
abbrev pub ordered : ℕ → ℕ → Result (ℕ × ℕ) RecordFaultKind
ordered from to = if nat_lt from to then Ok (from, to) else Err EmptyPeriod

abbrev pub period_in : Plan → List (List ℕ) → Result (ℕ × ℕ) RecordFault
period_in plan fields =
    and_then (at_place plan.from (known BadFrom (instant_in plan.times.now (field_of fields plan.from)))) (λ from.
    and_then (at_place plan.to (known BadTo (bound_in plan.times.now (field_of fields plan.to)))) (λ to.
    at_place plan.to (ordered from to)))

-- a period as the last two fields of a record
abbrev pub period_texts : Form → ℕ × ℕ → List (List ℕ)
period_texts form period = instant_text form period.0 ∷ bound_field form period.1 ∷ []

-- ---- the record

-- the fields of the table file for the record with this number: its values, then its period
abbrev pub import_record : Plan → ℕ → List (List ℕ) → Result (List (List ℕ)) RecordFault
import_record plan number fields =
    if not (length fields == plan.width) then Err (record { kind = FieldCount; place = 0 })
    else and_then (values_after (row_number plan.numbered number) plan.numbers plan.columns fields) (λ values.
    and_then (period_in plan fields) (λ period.
    Ok (values ++ period_texts (form_of plan.times.now) period)))

-- whether the record has no fault, which its number does not change
abbrev pub is_valid : Plan → List (List ℕ) → Bool
is_valid plan fields = is_ok (import_record plan 2 fields)

-- the records without a fault, and below, the others
abbrev pub valid_records : Plan → List (List (List ℕ)) → List (List (List ℕ))
valid_records plan records = filter (is_valid plan) records

abbrev pub invalid_records : Plan → List (List (List ℕ)) → List (List (List ℕ))
invalid_records plan records = filter (λ fields. not (is_valid plan fields)) records

-- the record holds exactly these fields
abbrev pub HasFields : Row → List (List ℕ) → Type 0
HasFields row fields = (fields_of row ≡ fields) × (partial_of row ≡ [])
