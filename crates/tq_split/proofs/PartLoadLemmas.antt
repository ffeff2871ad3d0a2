-- The text of a part loads as the rows of the part.
use Rattle.std.proofs.Common.{◌≡◌, ◌∙◌, ◌≤◌, ◌+◌, ◌-◌, ◌==◌, ℕ, suc, Bool, true, false, List, [], ◌∷◌, ◌++◌, length, map, take, drop, Option, Some, None, Result, Ok, Err, ap, append_assoc, append-nil, arith, nat_lt, refl, subst, sum_by, sym}
use Rattle.std.specs.Prelude.{◌&&◌, ◌||◌, if◌then◌else◌, nat_le, not}
use Rattle.std.specs.List.{AllZip, after_first, before_first, list_all, prefix_len}
use Rattle.std.proofs.lemmas.Bool.{and_parts}
use Rattle.std.proofs.lemmas.Bool.Decides.{nat_tests}
use Rattle.std.proofs.lemmas.List.Sums.{sum_by-append, sum_by-cons}
use Rattle.csv.specs.Reading.{default_config, records as csv_read}
use Rattle.csv.specs.Writing.{default_writer, read_back, row_text}
use Rattle.csv.proofs.RoundTrip.{rows_text}
use Rattle.tq_base.specs.declared.catalogue.Column.{Column}
use Rattle.tq_base.specs.declared.catalogue.Kind.{Kind}
use Rattle.tq_base.specs.declared.form.Form.{Form}
use Rattle.tq_base.specs.declared.value.Value.{Value}
use Rattle.tq_base.specs.Names.{folded, folded_name, has_name_form, is_name, is_name_byte, is_name_start, is_reserved}
use Rattle.tq_base.specs.Results.{and_then}
use Rattle.tq_event.specs.Entries.{Entry}
use Rattle.tq_event.specs.declared.fault.LoadFaultKind.{LoadFaultKind}
use Rattle.tq_event.specs.declared.fault.LoadFaultKind.TheVariants.{BadHeader, FieldCount, TooManyColumns, TooManyEvents}
use Rattle.tq_event.specs.Loading.{at_record, column_of, columns_after, columns_of, csv_records, entries_after, entry_of, event_count, first_header, has_two_boms, header_of, is_period_header, kind_of, make_column, next_columns, next_entries, period_fields, period_of, value_fields, values_after}
use Rattle.tq_event.proofs.LoadLemmas.{add_ok, columns_first, next_ok, read_ok}
use Rattle.tq_event.proofs.LoadedLemmas.{at_record_passed, passed}
use Rattle.tq_import.proofs.LoadBackLemmas.{no_marks}
use Rattle.tq_import.proofs.ReadBackLemmas.{Plain, plain_same, row_plain, rows_read, same_row}
use Rattle.tq_split.specs.TableParts.{LinesLoad, PartsLoad, entries_in, part_text, read_part, record_part, records_in, records_text, row_part}

-- ---- the rows of records

-- the loader reads this row from the record
abbrev Reads : Form → ℕ → List Column → List (List ℕ) → Entry → Type 0
Reads form table columns fields entry = entry_of form table columns fields ≡ Ok entry

-- what is read from the records comes after the rows before it
record AllRead (form : Form) (table : ℕ) (columns : List Column) (records : List (List (List ℕ))) (before after : List Entry) : Type 0 where
  entries : List Entry
  whole : after ≡ before ++ entries
  each : AllZip (Reads form table columns) records entries

entries_pushed : (limit : ℕ) (before : List Entry) (entry : Entry) (after : List Entry) → next_entries limit before entry ≡ Ok after → after ≡ before ++ entry ∷ []
entries_pushed limit before entry after e = by (nat_lt limit (sum_by event_count before + event_count entry)) e
  where
    by : (t : Bool) → (let r : Result (List Entry) LoadFaultKind = if t then Err TooManyEvents else Ok (before ++ entry ∷ []) in r ≡ Ok after) → after ≡ before ++ entry ∷ []
    by true f = cc f
    by false f = let same : before ++ entry ∷ [] ≡ after = cc f in sym same

all_read : (form : Form) (limit table : ℕ) (columns : List Column) (number : ℕ) (before : List Entry) (records : List (List (List ℕ))) (after : List Entry)
    → entries_after form limit table columns number before records ≡ Ok after → AllRead form table columns records before after
all_read form limit table columns number before [] after e =
    let same : before ≡ after = cc e in
    record { entries = []; whole = sym same ∙ sym (append-nil before); each = tt }
all_read form limit table columns number before (fields ∷ records) after e =
    let step = passed (at_record table number (and_then (entry_of form table columns fields) (next_entries limit before))) _ after e in
    let inner = passed (entry_of form table columns fields) (next_entries limit before) step.value (at_record_passed table number _ step.value step.was) in
    let pushed = entries_pushed limit before inner.value step.value inner.then_is in
    let rest = all_read form limit table columns (number + 1) step.value records after step.then_is in
    record {
      entries = inner.value ∷ rest.entries;
      whole = rest.whole ∙ ap (λ (l : List Entry). l ++ rest.entries) pushed ∙ append_assoc before (inner.value ∷ []) rest.entries;
      each = (inner.was, rest.each);
    }

-- the records load as these rows, if the limit on events allows for them
all_load : (form : Form) (limit table : ℕ) (columns : List Column) (number : ℕ) (before : List Entry) (records : List (List (List ℕ))) (entries : List Entry)
    → AllZip (Reads form table columns) records entries → sum_by event_count (before ++ entries) ≤ limit
    → entries_after form limit table columns number before records ≡ Ok (before ++ entries)
all_load form limit table columns number before [] [] each within = ap Ok (sym (append-nil before))
all_load form limit table columns number before [] (entry ∷ entries) each within = absurd each
all_load form limit table columns number before (fields ∷ records) [] each within = absurd each
all_load form limit table columns number before (fields ∷ records) (entry ∷ entries) each within =
    let shift : (before ++ entry ∷ []) ++ entries ≡ before ++ entry ∷ entries = append_assoc before (entry ∷ []) entries in
    let few : sum_by event_count before + event_count entry ≤ limit = omega (arith, within, sum_by-append event_count before (entry ∷ entries), sum_by-cons event_count entry entries) in
    let next = next_ok limit before entry (sum_by event_count before + event_count entry) refl few in
    add_ok form limit table columns number before fields records (fields ∷ records) refl entry (before ++ entry ∷ []) each.0 next
    ∙ all_load form limit table columns (number + 1) (before ++ entry ∷ []) records entries each.1 (subst (λ (l : List Entry). sum_by event_count l ≤ limit) (sym shift) within)
    ∙ ap Ok shift

-- ---- the rows of a part

-- a row from the results of the checks of a record
abbrev made : ℕ → Bool → Result (List Value) LoadFaultKind → Result (ℕ × ℕ) LoadFaultKind → Result Entry LoadFaultKind
made table wrong values period =
    if wrong then Err FieldCount
    else and_then values (λ v. and_then period (λ p. Ok (record { table = table; values = v; from = p.0; to = p.1 })))

-- the row of a record has the same values, whichever its table
record SameValues (wrong : Bool) (values : Result (List Value) LoadFaultKind) (period : Result (ℕ × ℕ) LoadFaultKind) (entry : Entry) : Type 0 where
  other : Entry
  is : made 0 wrong values period ≡ Ok other
  same : other.values ≡ entry.values

same_made : (table : ℕ) (wrong : Bool) (values : Result (List Value) LoadFaultKind) (period : Result (ℕ × ℕ) LoadFaultKind) (entry : Entry) → made table wrong values period ≡ Ok entry → SameValues wrong values period entry
same_made table true values period entry e = cc e
same_made table false (Err kind) period entry e = cc e
same_made table false (Ok values) (Err kind) entry e = cc e
same_made table false (Ok values) (Ok period) entry e =
    let whole : record { table = table; values = values; from = period.0; to = period.1 } ≡ entry = cc e in
    record { other = record { table = 0; values = values; from = period.0; to = period.1 }; is = refl; same = ap (λ (x : Entry). x.values) whole }

-- the part of a record is that of its row
part_of_row : (parts : ℕ) (form : Form) (table : ℕ) (columns : List Column) (column : ℕ) (fields : List (List ℕ)) (entry : Entry) → entry_of form table columns fields ≡ Ok entry
    → record_part parts form columns column fields ≡ row_part parts column entry.values
part_of_row parts form table columns column fields entry e =
    let s = same_made table (not (length fields == length columns + 2)) (values_after [] columns (value_fields fields)) (period_of form (period_fields fields)) entry e in
    ap (read_part parts column) s.is ∙ ap (row_part parts column) s.same

parts_zip : (parts : ℕ) (form : Form) (table : ℕ) (columns : List Column) (column part : ℕ) (records : List (List (List ℕ))) (entries : List Entry) → AllZip (Reads form table columns) records entries
    → AllZip (Reads form table columns) (records_in parts form columns column part records) (entries_in parts column part entries)
parts_zip parts form table columns column part [] [] each = tt
parts_zip parts form table columns column part [] (entry ∷ entries) each = absurd each
parts_zip parts form table columns column part (fields ∷ records) [] each = absurd each
parts_zip parts form table columns column part (fields ∷ records) (entry ∷ entries) each =
    by (record_part parts form columns column fields == part) (row_part parts column entry.values == part) (ap (λ (n : ℕ). n == part) (part_of_row parts form table columns column fields entry each.0)) (parts_zip parts form table columns column part records entries each.1)
  where
    by : (a b : Bool) → a ≡ b → AllZip (Reads form table columns) (records_in parts form columns column part records) (entries_in parts column part entries)
        → AllZip (Reads form table columns)
        (if a then fields ∷ records_in parts form columns column part records else records_in parts form columns column part records)
        (if b then entry ∷ entries_in parts column part entries else entries_in parts column part entries)
    by true true same rest = (each.0, rest)
    by false false same rest = rest
    by true false same rest = cc same
    by false true same rest = cc same

-- ---- the text of a part

-- a record with a row is read as it was written
filled : (form : Form) (table : ℕ) (columns : List Column) (fields : List (List ℕ)) (entry : Entry) → entry_of form table columns fields ≡ Ok entry → read_back fields ≡ fields
filled form table columns (field ∷ fields) entry e = refl
filled form table columns [] entry e =
    let wrong : (0 == length columns + 2) ≡ false = grind (arith, nat_tests) in
    let none = rw wrong at e in
    cc none

all_filled : (form : Form) (table : ℕ) (columns : List Column) (records : List (List (List ℕ))) (entries : List Entry) → AllZip (Reads form table columns) records entries → map read_back records ≡ records
all_filled form table columns [] entries each = refl
all_filled form table columns (fields ∷ records) [] each = absurd each
all_filled form table columns (fields ∷ records) (entry ∷ entries) each = λ i. filled form table columns fields entry each.0 i ∷ all_filled form table columns records entries each.1 i

text_same : (records : List (List (List ℕ))) → records_text records ≡ rows_text records
unfolding rows_text
text_same [] = refl
text_same (fields ∷ records) = λ i. same_row fields i ++ text_same records i

-- ---- the header

-- the first field of a header begins with a byte that begins no byte order mark
record Begins (header : List (List ℕ)) : Type 0 where
  first : ℕ
  more : List ℕ
  rest : List (List ℕ)
  is : header ≡ (first ∷ more) ∷ rest
  other : (first == 239) ≡ false

-- a name before a colon does so
record BeginsField (field : List ℕ) : Type 0 where
  first : ℕ
  more : List ℕ
  is : field ≡ first ∷ more
  other : (first == 239) ≡ false

no_mark : (b : ℕ) → is_name_start b ≡ true → (b == 239) ≡ false
no_mark b start = grind (arith, nat_tests)

name_begins : (field : List ℕ) → has_name_form (before_first (λ b. b == 58) field) ≡ true → BeginsField field
name_begins [] h = cc h
name_begins (b ∷ bs) h = by (b == 58) h
  where
    by : (t : Bool) → has_name_form (take (if not t then 1 + prefix_len (λ (x : ℕ). not (x == 58)) bs else 0) (b ∷ bs)) ≡ true → BeginsField (b ∷ bs)
    by true f = cc f
    by false f =
        let more : 1 + prefix_len (λ (x : ℕ). not (x == 58)) bs ≡ suc (prefix_len (λ (x : ℕ). not (x == 58)) bs) = omega arith in
        let named : has_name_form (take (suc (prefix_len (λ (x : ℕ). not (x == 58)) bs)) (b ∷ bs)) ≡ true = ap (λ (n : ℕ). has_name_form (take n (b ∷ bs))) (sym more) ∙ f in
        let start = (and_parts (is_name_start b) (list_all is_name_byte (take (prefix_len (λ (x : ℕ). not (x == 58)) bs) bs)) named).0 in
        record { first = b; more = bs; is = refl; other = no_mark b start }

named_begins : (field : List ℕ) (t : Bool) → is_name (before_first (λ b. b == 58) field) ≡ t → (name : List ℕ) → (if t then Some (folded (before_first (λ b. b == 58) field)) else None) ≡ Some name → BeginsField field
named_begins field false i name e = cc e
named_begins field true i name e =
    let name_of = before_first (λ b. b == 58) field in
    let most = and_parts (has_name_form name_of && nat_le (length name_of) 64) (not (is_reserved name_of)) i in
    name_begins field (and_parts (has_name_form name_of) (nat_le (length name_of) 64) most.0).0

field_begins : (field : List ℕ) (columns : List Column) → next_columns [] (column_of field) ≡ Ok columns → BeginsField field
field_begins field columns e = by (folded_name (before_first (λ b. b == 58) field)) refl (kind_of (after_first (λ b. b == 58) field)) e
  where
    by : (o : Option (List ℕ)) → folded_name (before_first (λ b. b == 58) field) ≡ o → (k : Option Kind) → next_columns [] (make_column o k) ≡ Ok columns → BeginsField field
    by None i k f = cc f
    by (Some name) i k f = named_begins field (is_name (before_first (λ b. b == 58) field)) refl name i

header_begins : (header : List (List ℕ)) (columns : List Column) → header_of header ≡ Ok columns → Begins header
header_begins [] columns e = cc e
header_begins (a ∷ []) columns e = cc e
header_begins (a ∷ b ∷ []) columns e = cc e
header_begins (a ∷ b ∷ c ∷ rest) columns e =
    let first = field_begins a _ (passed (next_columns [] (column_of a)) _ columns (fields e)).was in
    record { first = first.first; more = first.more; rest = b ∷ c ∷ rest; is = ap (λ (f : List ℕ). f ∷ b ∷ c ∷ rest) first.is; other = first.other }
  where
    by : (s t : Bool) → (let r : Result (List Column) LoadFaultKind = if s then Err BadHeader else (if t then Err TooManyColumns else columns_after [] (value_fields (a ∷ b ∷ c ∷ rest))) in r ≡ Ok columns)
        → columns_after [] (value_fields (a ∷ b ∷ c ∷ rest)) ≡ Ok columns
    by true t f = cc f
    by false true f = cc f
    by false false f = f

    fields : header_of (a ∷ b ∷ c ∷ rest) ≡ Ok columns → columns_after [] (a ∷ take (length rest) (b ∷ c ∷ rest)) ≡ Ok columns
    fields f =
        let many : length (a ∷ b ∷ c ∷ rest) - 2 ≡ suc (length rest) = omega arith in
        ap (λ (n : ℕ). columns_after [] (take n (a ∷ b ∷ c ∷ rest))) (sym many) ∙ by (nat_lt (length (a ∷ b ∷ c ∷ rest)) 3 || not (is_period_header (period_fields (a ∷ b ∷ c ∷ rest)))) (nat_lt 16 (length (value_fields (a ∷ b ∷ c ∷ rest)))) f

header_is : (text : List ℕ) (header : List (List ℕ)) (records : List (List (List ℕ))) (columns : List Column) → csv_records text ≡ header ∷ records → columns_of text ≡ Ok columns → header_of header ≡ Ok columns
header_is text header records columns split e = by (has_two_boms text) e
  where
    by : (t : Bool) → (let r : Result (List Column) LoadFaultKind = if t then Err BadHeader else first_header (csv_records text) in r ≡ Ok columns) → header_of header ≡ Ok columns
    by true f = cc f
    by false f = ap first_header (sym split) ∙ f

-- ---- the file

-- lines after a header are read as they were written
record ReadAgain (text : List ℕ) (header : List (List ℕ)) (lines : List (List (List ℕ))) : Type 0 where
  plain : Plain text
  are : csv_records text ≡ header ∷ lines

read_again : (text : List ℕ) (header : List (List ℕ)) (lines : List (List (List ℕ))) → Begins header → map read_back lines ≡ lines → text ≡ row_text default_writer header ++ rows_text lines → ReadAgain text header lines
unfolding rows_text
read_again text header lines begins same is =
    let plain = subst (λ (h : List (List ℕ)). Plain (row_text default_writer h ++ rows_text lines)) (sym begins.is) (row_plain begins.first begins.more begins.rest (rows_text lines) begins.other) in
    let back : read_back header ≡ header = ap read_back begins.is ∙ sym begins.is in
    record {
      plain = subst Plain (sym is) plain;
      are = ap csv_records is ∙ ap (csv_read default_config) (plain_same (rows_text (header ∷ lines)) plain) ∙ rows_read (header ∷ lines) ∙ (λ i. back i ∷ same i);
    }

pub lines_loaded : LinesLoad
lines_loaded parts form column part header records columns limit table before entries header_reads each within =
    let kept = parts_zip parts form table columns column part records entries each in
    let lines = records_in parts form columns column part records in
    let rows = entries_in parts column part entries in
    let text = part_text parts form columns column true header records part in
    let again = read_again text header lines (header_begins header columns header_reads) (all_filled form table columns lines rows kept) (λ i. same_row header i ++ text_same lines i) in
    read_ok form limit table before text columns (before ++ rows) (columns_first text header lines (no_marks text again.plain) again.are ∙ header_reads)
    (ap (λ (l : List (List (List ℕ))). entries_after form limit table columns 2 before (drop 1 l)) again.are ∙ all_load form limit table columns 2 before lines rows kept within)

pub parts_loaded : PartsLoad
parts_loaded parts form column part text header records columns most limit table before entries split loads within =
    let opened = passed (at_record table 1 (columns_of text)) _ (columns, entries) loads in
    let loaded = passed (entries_after form most table opened.value 2 [] (drop 1 (csv_records text))) _ (columns, entries) opened.then_is in
    let both : (opened.value, loaded.value) ≡ (columns, entries) = cc (loaded.then_is) in
    let same_columns : opened.value ≡ columns = ap (λ (p : List Column × List Entry). p.0) both in
    let same_entries : loaded.value ≡ entries = ap (λ (p : List Column × List Entry). p.1) both in
    let header_reads = header_is text header records columns split (at_record_passed table 1 (columns_of text) opened.value opened.was ∙ ap Ok same_columns) in
    let all : entries_after form most table columns 2 [] records ≡ Ok entries =
    (λ i. entries_after form most table (sym same_columns i) 2 [] (drop 1 (sym split i))) ∙ loaded.was ∙ ap Ok same_entries in
    let read = all_read form most table columns 2 [] records entries all in
    let each = subst (λ (l : List Entry). AllZip (Reads form table columns) records l) (sym read.whole) read.each in
    lines_loaded parts form column part header records columns limit table before entries header_reads each within
