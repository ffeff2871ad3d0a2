-- What loading a table's file means: the first fault, in the order of records and checks, or the table and its entries.
-- Records are those that the `csv` crate reads. The form of files is this project's own.
use Rattle.std.specs.Prelude.{◌≡◌, ℕ, ◌+◌, ◌-◌, ◌==◌, ◌&&◌, ◌||◌, ℤ, not, nat_lt, Bool, true, false, if◌then◌else◌, List, [], ◌∷◌, ◌++◌, length, take, drop, Option, Some, None, Result, Ok, Err, codes, sum_by, count_by, slice_get, IsSomeAnd, IsSorted, IsPermutation, take_while}
use Rattle.std.specs.List.{AllZip, before_first, after_first, list_any}
use Rattle.std.specs.Option.{option_map_or}
use Rattle.std.specs.Ordering.{nat_cmp, bool_cmp, on, then_cmp}
use Rattle.std.specs.declared.cmp.Ordering.{Ordering}
use Rattle.std.specs.Str.{bytes_eq, is_utf8, str_eq_ignore_ascii_case}
use Rattle.csv.specs.Reading.{default_config, is_bom, records, strip_bom}
use Rattle.tq_base.specs.declared.value.Value.{Value}
use Rattle.tq_base.specs.Contents.{Int, Text}
use Rattle.tq_base.specs.declared.catalogue.Kind.{Kind}
use Rattle.tq_base.specs.declared.catalogue.Kind.TheVariants as kind
use Rattle.tq_base.specs.declared.catalogue.Column.{Column}
use Rattle.tq_base.specs.declared.catalogue.Schema.{Schema}
use Rattle.tq_base.specs.declared.form.Form.{Form}
use Rattle.tq_base.specs.declared.period.TheConstants.{FOREVER}
use Rattle.tq_base.specs.Names.{folded_name}
use Rattle.tq_base.specs.Numbers.{int_of, instant_of, bound_of}
use Rattle.tq_base.specs.Results.{and_then}
use Rattle.tq_event.specs.declared.event.Event.{Event}
use Rattle.tq_event.specs.declared.event.Event.TheVariants.{Start, End}
use Rattle.tq_event.specs.Entries.{Entry}
use Rattle.tq_event.specs.declared.endpoint.Endpoint.{Endpoint}
use Rattle.tq_event.specs.declared.file.TableFile.{TableFile}
use Rattle.tq_event.specs.declared.file.Loaded.{Loaded}
use Rattle.tq_event.specs.declared.fault.LoadFaultKind.{LoadFaultKind}
use Rattle.tq_event.specs.declared.fault.LoadFaultKind.TheVariants.{BadHeader, DuplicateName, FieldCount, BadInt, TextTooLong, BadPeriod, NotUtf8, TooManyTables, TooManyColumns, TooManyEvents, OutOfMemory}
use Rattle.tq_event.specs.declared.fault.LoadFault.{LoadFault}

-- ---- records

-- every record of a file as the `csv` crate reads it: no header handling, flexible, untrimmed; a byte order mark at the
-- start is skipped
abbrev pub csv_records : List ℕ → List (List (List ℕ))
csv_records bytes = records default_config (strip_bom bytes)

-- whether a text begins with a byte order mark
abbrev pub begins_with_bom : List ℕ → Bool
begins_with_bom [] = false
begins_with_bom (a ∷ []) = false
begins_with_bom (a ∷ b ∷ []) = false
begins_with_bom (a ∷ b ∷ c ∷ rest) = is_bom a b c

abbrev pub has_two_boms : List ℕ → Bool
has_two_boms bytes = begins_with_bom bytes && begins_with_bom (strip_bom bytes)

-- ---- the header

-- `int` or `text`, in any ASCII case
abbrev pub kind_of : List ℕ → Option Kind
kind_of word =
    if str_eq_ignore_ascii_case (codes "int") word then Some kind.Int
    else (if str_eq_ignore_ascii_case (codes "text") word then Some kind.Text else None)

abbrev pub make_column : Option (List ℕ) → Option Kind → Option Column
make_column (Some name) (Some k) = Some (record { name = name; kind = k })
make_column (Some name) None = None
make_column None k = None

-- `NAME:int` or `NAME:text`
abbrev pub column_of : List ℕ → Option Column
column_of field = make_column (folded_name (before_first (λ b. b == 58) field)) (kind_of (after_first (λ b. b == 58) field))

abbrev pub is_text : Kind → Bool
is_text kind.Int = false
is_text kind.Text = true

-- whether a column with this name is in the list
abbrev pub has_column : List Column → List ℕ → Bool
has_column columns name = list_any (λ (c : Column). bytes_eq c.name name) columns

-- the columns after one more field of the header; the first column must be an integer column
abbrev pub next_columns : List Column → Option Column → Result (List Column) LoadFaultKind
next_columns columns None = Err BadHeader
next_columns columns (Some c) =
    if (length columns == 0) && is_text c.kind then Err BadHeader
    else (if has_column columns c.name then Err DuplicateName else Ok (columns ++ c ∷ []))

-- the columns after these and the fields, from left to right
abbrev pub columns_after : List Column → List (List ℕ) → Result (List Column) LoadFaultKind
columns_after columns [] = Ok columns
columns_after columns (field ∷ fields) = and_then (next_columns columns (column_of field)) (λ more. columns_after more fields)

-- the last two fields are `from` and `to`, in any ASCII case
abbrev pub is_period_header : List (List ℕ) → Bool
is_period_header [] = false
is_period_header (a ∷ []) = false
is_period_header (a ∷ b ∷ []) = str_eq_ignore_ascii_case (codes "from") a && str_eq_ignore_ascii_case (codes "to") b
is_period_header (a ∷ b ∷ c ∷ rest) = false

-- the fields before the last two, and below, the last two
abbrev pub value_fields : List (List ℕ) → List (List ℕ)
value_fields fields = take (length fields - 2) fields

abbrev pub period_fields : List (List ℕ) → List (List ℕ)
period_fields fields = drop (length fields - 2) fields

-- the columns of a header
abbrev pub header_of : List (List ℕ) → Result (List Column) LoadFaultKind
header_of fields =
    if nat_lt (length fields) 3 || not (is_period_header (period_fields fields)) then Err BadHeader
    else (if nat_lt 16 (length (value_fields fields)) then Err TooManyColumns
    else columns_after [] (value_fields fields))

-- the columns of a file with these records
abbrev pub first_header : List (List (List ℕ)) → Result (List Column) LoadFaultKind
first_header [] = Err BadHeader
first_header (fields ∷ rest) = header_of fields

abbrev pub columns_of : List ℕ → Result (List Column) LoadFaultKind
columns_of bytes = if has_two_boms bytes then Err BadHeader else first_header (csv_records bytes)

-- ---- the data records

abbrev pub number_value : Option ℤ → Result Value LoadFaultKind
number_value None = Err BadInt
number_value (Some n) = Ok (Int n)

-- the value that a field holds
abbrev pub value_of : Kind → List ℕ → Result Value LoadFaultKind
value_of kind.Int field = number_value (int_of field)
value_of kind.Text field =
    if not (is_utf8 field) then Err NotUtf8
    else (if nat_lt 1000 (length field) then Err TextTooLong else Ok (Text field))

-- the values after these, with those of the fields, from left to right
abbrev pub values_after : List Value → List Column → List (List ℕ) → Result (List Value) LoadFaultKind
values_after values [] fields = Ok values
values_after values (c ∷ columns) [] = Ok values
values_after values (c ∷ columns) (field ∷ fields) =
    and_then (value_of c.kind field) (λ value. values_after (values ++ value ∷ []) columns fields)

-- an instant and a later bound
abbrev pub make_period : Option ℕ → Option ℕ → Result (ℕ × ℕ) LoadFaultKind
make_period (Some from) (Some to) = if nat_lt from to then Ok (from, to) else Err BadPeriod
make_period (Some from) None = Err BadPeriod
make_period None to = Err BadPeriod

abbrev pub period_of : Form → List (List ℕ) → Result (ℕ × ℕ) LoadFaultKind
period_of form [] = Err BadPeriod
period_of form (a ∷ []) = Err BadPeriod
period_of form (a ∷ b ∷ rest) = make_period (instant_of form a) (bound_of form b)

-- the row of a record: first the number of fields is checked, then the values, then the period
abbrev pub entry_of : Form → ℕ → List Column → List (List ℕ) → Result Entry LoadFaultKind
entry_of form table columns fields =
    if not (length fields == length columns + 2) then Err FieldCount
    else and_then (values_after [] columns (value_fields fields)) (λ values.
    and_then (period_of form (period_fields fields)) (λ period.
    Ok (record { table = table; values = values; from = period.0; to = period.1 })))

-- one start, and one end unless that is `forever`
abbrev pub event_count : Entry → ℕ
event_count entry = if entry.to == FOREVER then 1 else 2

-- the entries with one more, if the limit on events allows it
abbrev pub next_entries : ℕ → List Entry → Entry → Result (List Entry) LoadFaultKind
next_entries limit entries entry =
    if nat_lt limit (sum_by event_count entries + event_count entry) then Err TooManyEvents else Ok (entries ++ entry ∷ [])

-- the fault of a record of a table
abbrev pub at_record : {A : Type 0} → ℕ → ℕ → Result A LoadFaultKind → Result A LoadFault
at_record table number (Err fault) = Err (record { kind = fault; table = table; number = number })
at_record table number (Ok value) = Ok value

-- the entries after these and the records, the first of which has this number
abbrev pub entries_after : Form → ℕ → ℕ → List Column → ℕ → List Entry → List (List (List ℕ)) → Result (List Entry) LoadFault
entries_after form limit table columns number entries [] = Ok entries
entries_after form limit table columns number entries (fields ∷ records) =
    and_then (at_record table number (and_then (entry_of form table columns fields) (next_entries limit entries)))
    (λ more. entries_after form limit table columns (number + 1) more records)

-- ---- tables

-- the tables and the entries of some files
pub record Contents : Type 0 where
  pub tables : List Schema
  pub entries : List Entry

abbrev pub has_table : List Schema → List ℕ → Bool
has_table tables name = list_any (λ (s : Schema). bytes_eq s.name name) tables

-- the name of the next table
abbrev pub table_name : List Schema → Option (List ℕ) → Result (List ℕ) LoadFaultKind
table_name tables None = Err BadHeader
table_name tables (Some name) = if has_table tables name then Err DuplicateName else Ok name

abbrev pub next_name : List Schema → List ℕ → Result (List ℕ) LoadFaultKind
next_name tables name = if nat_lt (length tables) 16 then table_name tables (folded_name name) else Err TooManyTables

-- the contents of a table's bytes: its columns, and the entries with those of its records added
abbrev pub table_contents : Form → ℕ → ℕ → List Entry → List ℕ → Result (List Column × List Entry) LoadFault
table_contents form limit table before bytes =
    and_then (at_record table 1 (columns_of bytes)) (λ columns.
    and_then (entries_after form limit table columns 2 before (drop 1 (csv_records bytes))) (λ entries.
    Ok (columns, entries)))

-- the contents with those of one more file
abbrev pub next_contents : Form → ℕ → Contents → TableFile → Result Contents LoadFault
next_contents form limit before file =
    let table = length before.tables in
    and_then (at_record table 0 (next_name before.tables file.name)) (λ name.
    and_then (table_contents form limit table before.entries file.bytes) (λ read.
    Ok (record { tables = before.tables ++ record { name = name; columns = read.0 } ∷ []; entries = read.1 })))

abbrev pub contents_after : Form → ℕ → Contents → List TableFile → Result Contents LoadFault
contents_after form limit before [] = Ok before
contents_after form limit before (file ∷ files) = and_then (next_contents form limit before file) (λ more. contents_after form limit more files)

-- the contents of files, or the first fault in the order of tables, records and checks
abbrev pub contents_of : Form → List TableFile → ℕ → Result Contents LoadFault
contents_of form files limit = contents_after form limit (record { tables = []; entries = [] }) files

-- the fault that reports a failed allocation
abbrev pub out_of_memory : LoadFault
out_of_memory = record { kind = OutOfMemory; table = 0; number = 0 }

-- ---- events

-- by time, then ends before starts, then by the order of entries, which is that of tables and records
abbrev pub endpoint_cmp : Endpoint → Endpoint → Ordering
endpoint_cmp = then_cmp (then_cmp (on (λ m. m.at) nat_cmp) (on (λ m. m.starts) bool_cmp)) (on (λ m. m.entry) nat_cmp)

abbrev pub endpoints_of_entry : ℕ → Entry → List Endpoint
endpoints_of_entry number entry =
    record { at = entry.from; starts = true; entry = number }
    ∷ (if entry.to == FOREVER then [] else record { at = entry.to; starts = false; entry = number } ∷ [])

-- a start for each entry, and an end unless it is valid forever
abbrev pub endpoints_from : ℕ → List Entry → List Endpoint
endpoints_from number [] = []
endpoints_from number (entry ∷ entries) = endpoints_of_entry number entry ++ endpoints_from (number + 1) entries

-- whether the endpoint is the start of the entry
abbrev pub starts_entry : ℕ → Endpoint → Bool
starts_entry number endpoint = endpoint.starts && (endpoint.entry == number)

abbrev pub table_at : List Entry → ℕ → ℕ
table_at entries number = option_map_or (λ (entry : Entry). entry.table) (slice_get entries number) 0

-- whether the endpoint starts a row of the table
abbrev pub starts_in : List Entry → ℕ → Endpoint → Bool
starts_in entries table endpoint = endpoint.starts && (table_at entries endpoint.entry == table)

-- the number of an entry's row: how many rows of its table start before it
abbrev pub row_number : List Entry → List Endpoint → ℕ → ℕ
row_number entries marks number =
    count_by (starts_in entries (table_at entries number)) (take_while (λ m. not (starts_entry number m)) marks)

-- the event of an endpoint
abbrev pub event_at : List Entry → List Endpoint → Endpoint → Entry → Event
event_at entries marks endpoint entry =
    if endpoint.starts then Start entry.table entry.values endpoint.at
    else End entry.table (row_number entries marks endpoint.entry) endpoint.at

abbrev pub IsEventAt : List Entry → List Endpoint → Endpoint → Event → Type 0
IsEventAt entries marks endpoint event = IsSomeAnd (slice_get entries endpoint.entry) (λ entry. event ≡ event_at entries marks endpoint entry)

-- one event for each endpoint, in the same order
pub record HaveEvents (entries : List Entry) (marks : List Endpoint) (events : List Event) : Type 0 where
  pub as_many : length events ≡ length marks
  pub each : AllZip (IsEventAt entries marks) marks events

-- the events are the starts and ends of the entries, in order
pub record AreEventsOf (entries : List Entry) (events : List Event) : Type 0 where
  pub marks : List Endpoint
  pub all : IsPermutation (endpoints_from 0 entries) marks
  pub ordered : IsSorted endpoint_cmp marks
  pub events_are : HaveEvents entries marks events

-- the loaded catalogue and events are those of the files
pub record IsLoaded (form : Form) (files : List TableFile) (limit : ℕ) (loaded : Loaded) : Type 0 where
  pub contents : Contents
  pub is_contents : contents_of form files limit ≡ Ok contents
  pub catalogue : loaded.catalogue.tables ≡ contents.tables
  pub events : AreEventsOf contents.entries loaded.events
