-- What people are shown of an invalid record. This project's own.
use Rattle.std.specs.Prelude.{◌≡◌, ℕ, ◌==◌, ◌&&◌, Bool, true, false, nat_lt, if◌then◌else◌, List, [], ◌∷◌, ◌++◌, codes, decimal, length, min, take, Option, Some, None}
use Rattle.tq_shown.specs.Printable.{printable_text}
use Rattle.tq_import.specs.declared.fault.RecordFault.{RecordFault}
use Rattle.tq_import.specs.declared.fault.RecordFaultKind.{RecordFaultKind}
use Rattle.tq_import.specs.declared.fault.RecordFaultKind.TheVariants.{FieldCount, BadNumber, NotUtf8, TextTooLong, BadFrom, BadTo, EmptyPeriod, OutOfMemory}
use Rattle.tq_import.specs.declared.plan.Conversion.{Conversion}
use Rattle.tq_import.specs.declared.plan.Conversion.TheVariants.{Number, Text}
use Rattle.tq_import.specs.declared.plan.PlannedColumn.{PlannedColumn}
use Rattle.tq_import.specs.declared.plan.Plan.{Plan}
use Rattle.tq_import.specs.declared.plan.TimeFormat.{TimeFormat}
use Rattle.tq_import.specs.declared.plan.TimeUnit.{TimeUnit}
use Rattle.tq_import.specs.declared.plan.TimeUnit.TheVariants.{Day, Second}
use Rattle.tq_import.specs.declared.fault.ImportFault.{ImportFault}
use Rattle.tq_import.specs.declared.fault.ImportFault.TheVariants as import
use Rattle.tq_import.specs.declared.whole.FileFault.{FileFault}
use Rattle.tq_import.specs.declared.whole.FileFault.TheVariants.{Input, NoHeader, Plan as BadPlan, Records}
use Rattle.tq_import.specs.Records.{field_of}

-- a value; of one with more than 60 bytes, the first 60
abbrev pub front : List ℕ → List ℕ
front value = take (min (length value) 60) value ++ (if nat_lt 60 (length value) then codes ".." else [])

-- a value between backquotes
abbrev pub quoted : List ℕ → List ℕ
quoted value = codes "`" ++ front value ++ codes "`"

abbrev pub places_or : Conversion → ℕ → ℕ
places_or (Number places) other = places
places_or Text other = other

abbrev pub is_number : Conversion → Bool
is_number (Number places) = true
is_number Text = false

-- the digits after the point that the first column of numbers at a place may have
abbrev pub places_at : List PlannedColumn → ℕ → ℕ
places_at [] place = 0
places_at (c ∷ columns) place = if (c.place == place) && is_number c.conversion then places_or c.conversion 0 else places_at columns place

-- what a value is not that has more digits after the point, or is not a number
abbrev pub places_rule : ℕ → List ℕ
places_rule places = codes " is not a number of 64 bits with at most " ++ decimal places ++ (if places == 1 then codes " decimal" else codes " decimals")

abbrev pub number_rule : ℕ → List ℕ
number_rule places = if places == 0 then codes " is not a whole number of 64 bits: use --decimal NAME=PLACES or --text NAME" else places_rule places

-- what a value is not besides a date in the format
abbrev pub unit_rule : TimeUnit → List ℕ
unit_rule Day = []
unit_rule Second = codes ", from 1970 on, with or without a time HH:MM:SS"

abbrev pub written_rule : Option (List ℕ) → TimeUnit → List ℕ
written_rule None unit = codes " is not a number from 0 to 999999999999: use --date-format for dates"
written_rule (Some format) unit = codes " is not a date in the format " ++ format ++ unit_rule unit

-- what a value is not that is not an instant
abbrev pub instant_rule : TimeFormat → List ℕ
instant_rule times = written_rule times.dates times.unit

-- what is wrong with a value
abbrev pub reason : Plan → RecordFaultKind → ℕ → List ℕ
reason plan FieldCount place = []
reason plan BadNumber place = number_rule (places_at plan.columns place)
reason plan NotUtf8 place = codes " is not valid UTF-8: use --encoding latin1 if the file is in Latin-1"
reason plan TextTooLong place = codes " has more than 1,000 bytes"
reason plan BadFrom place = instant_rule plan.times.now
reason plan BadTo place = instant_rule plan.times.now ++ codes ", nor an open end: use --open TEXT for those"
reason plan EmptyPeriod place = codes " is not after the start"
reason plan OutOfMemory place = []

-- the numbers of fields, or the column, its value and what is wrong with it
abbrev pub fault_detail : Plan → List (List ℕ) → RecordFaultKind → ℕ → List (List ℕ) → List ℕ
fault_detail plan header FieldCount place fields =
    codes "the header has " ++ decimal (length header) ++ codes " fields, but this record has " ++ decimal (length fields)
fault_detail plan header kind place fields = field_of header place ++ codes " " ++ quoted (field_of fields place) ++ reason plan kind place

-- what is shown of an invalid record that begins on this line
abbrev pub record_message : Plan → List (List ℕ) → ℕ → RecordFault → List (List ℕ) → List ℕ
record_message plan header line fault fields = codes "line " ++ decimal line ++ codes ": " ++ fault_detail plan header fault.kind fault.place fields

-- the same as a line of standard error, for the file at this path
abbrev pub message_line : List ℕ → Plan → List (List ℕ) → ℕ → RecordFault → List (List ℕ) → List ℕ
message_line path plan header line fault fields =
    codes "tq: import " ++ printable_text (path ++ codes ", " ++ record_message plan header line fault fields) ++ codes "\n"

-- what is shown of a fault of a record
abbrev pub IsRecordText : Plan → List (List ℕ) → ℕ → List (List ℕ) → ImportFault → List ℕ → Type 0
IsRecordText plan header line last (import.Record fault) text = text ≡ record_message plan header line fault.fault last
IsRecordText plan header line last import.Read text = text ≡ []
IsRecordText plan header line last import.Write text = text ≡ []
IsRecordText plan header line last import.OutOfMemory text = text ≡ []

-- what is shown of a file that is not imported; of a header with a fault, anything
abbrev pub IsFaultText : List (List ℕ) → ℕ → List (List ℕ) → FileFault → List ℕ → Type 0
IsFaultText header line last (Input fault) text = text ≡ []
IsFaultText header line last NoHeader text = text ≡ codes "there is no header"
IsFaultText header line last (BadPlan fault) text = Unit {0}
IsFaultText header line last (Records plan fault) text = IsRecordText plan header line last fault text
