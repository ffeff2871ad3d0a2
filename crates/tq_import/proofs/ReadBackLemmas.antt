-- What is written as CSV is read back.
use Rattle.std.proofs.Common.{◌≡◌, ◌∙◌, ◌≤◌, ◌+◌, ◌==◌, ℕ, zero, suc, Bool, true, false, List, [], ◌∷◌, ◌++◌, length, map, Result, Ok, Err, ap, append_assoc, arith, refl, subst, sym, length-append}
use Rattle.std.specs.Prelude.{◌&&◌, All, None, Some, codes, if◌then◌else◌, nat_le, not}
use Rattle.std.specs.Char.{to_ascii_lowercase}
use Rattle.std.specs.List.{list_all, list_any}
use Rattle.std.proofs.lemmas.Bool.Decides.{nat_tests}
use Rattle.std.proofs.lemmas.List.Elements.{All-head}
use Rattle.std.proofs.lemmas.List.{append-nil}
use Rattle.csv.specs.Machine.{next_record}
use Rattle.csv.specs.Reading.{default_config, records, records_from, strip_bom}
use Rattle.csv.specs.Writing.{default_writer, escaped, field_text, fields_text, is_blank, needs_byte, read_back, row_body, row_text}
use Rattle.csv.specs.declared.parser.State.TheVariants as st
use Rattle.csv.proofs.RoundTrip.{read-write, rows_text}
use Rattle.tq_base.specs.Names.{folded, has_name_form, is_name, is_name_byte, is_name_start, is_reserved}
use Rattle.tq_base.specs.Results.{and_then}
use Rattle.tq_event.specs.Laws.{IsFoldedName}
use Rattle.tq_event.specs.Loading.{csv_records}
use Rattle.tq_table.specs.Text.{answer_format}
use Rattle.tq_import.specs.declared.fault.RecordFault.{RecordFault}
use Rattle.tq_import.specs.declared.fault.RecordFaultKind.TheVariants.{FieldCount}
use Rattle.tq_import.specs.declared.plan.PlannedColumn.{PlannedColumn}
use Rattle.tq_import.specs.declared.plan.Plan.{Plan}
use Rattle.tq_import.specs.Imports.{column_field, import_of, kind_word, lines_after, number_header, table_header}
use Rattle.tq_import.specs.Loads.{ImportsAreReadBack, imported_records}
use Rattle.tq_import.specs.Records.{import_record, period_in, period_texts, row_number, values_after}
use Rattle.tq_import.specs.Tables.{IsLoadable}
use Rattle.tq_import.specs.Times.{form_of}

both : (a b : Bool) → (a && b) ≡ true → (a ≡ true) × (b ≡ true)
both true b e = (refl, e)
both false b e = cc e

-- ---- the format of answers writes as the default writer does

same_escaped : (field : List ℕ) → escaped answer_format field ≡ escaped default_writer field
unfolding escaped
same_escaped [] = refl
same_escaped (b ∷ rest) = ap (λ (l : List ℕ). if b == 34 then 34 ∷ b ∷ l else b ∷ l) (same_escaped rest)

same_field : (field : List ℕ) → field_text answer_format field ≡ field_text default_writer field
same_field field = rw (same_escaped field) refl

same_fields : (fields : List (List ℕ)) → fields_text answer_format fields ≡ fields_text default_writer fields
unfolding fields_text
same_fields [] = refl
same_fields (field ∷ rest) = λ i. 44 ∷ (same_field field i ++ same_fields rest i)

same_blank : (fields : List (List ℕ)) → is_blank answer_format fields ≡ is_blank default_writer fields
unfolding is_blank
same_blank [] = refl
same_blank (field ∷ []) = ap (λ (l : List ℕ). length l == 0) (same_field field)
same_blank (field ∷ next ∷ rest) = refl

pub same_row : (fields : List (List ℕ)) → row_text answer_format fields ≡ row_text default_writer fields
same_row [] = rw (same_blank []) refl
same_row (field ∷ rest) =
    λ i. (same_field field i ++ same_fields rest i) ++ ((if same_blank (field ∷ rest) i then 34 ∷ 34 ∷ [] else []) ++ 10 ∷ [])

-- ---- many records

end_read : (n : ℕ) → records_from default_config n st.StartRecord [] ≡ []
unfolding records_from next_record
end_read zero = refl
end_read (suc n) = refl

read_all : (rows : List (List (List ℕ))) (n : ℕ) → length rows ≤ n → records_from default_config n st.StartRecord (rows_text rows) ≡ map read_back rows
unfolding records_from rows_text
read_all [] n enough = end_read n
read_all (row ∷ rows) zero enough = absurd (omega (arith, enough))
read_all (row ∷ rows) (suc n) enough = rw (read-write row (rows_text rows)) (ap (λ (t : List (List (List ℕ))). read_back row ∷ t) (read_all rows n (omega (arith, enough))))

row_long : (row : List (List ℕ)) → 1 ≤ length (row_text default_writer row)
row_long row =
    let blank : List ℕ = if is_blank default_writer row then 34 ∷ 34 ∷ [] else [] in
    omega (arith, length-append (row_body default_writer row) (blank ++ 10 ∷ []), length-append blank (10 ∷ []))

rows_long : (rows : List (List (List ℕ))) → length rows ≤ length (rows_text rows)
unfolding rows_text
rows_long [] = omega arith
rows_long (row ∷ rows) = omega (arith, row_long row, rows_long rows, length-append (row_text default_writer row) (rows_text rows))

pub rows_read : (rows : List (List (List ℕ))) → records default_config (rows_text rows) ≡ map read_back rows
rows_read rows = read_all rows (length (rows_text rows) + 1) (omega (arith, rows_long rows))

-- ---- the first byte

-- the text begins with a byte that begins no byte order mark
pub record Plain (text : List ℕ) : Type 0 where
  pub first : ℕ
  pub rest : List ℕ
  pub is : text ≡ first ∷ rest
  pub other : (first == 239) ≡ false

strip_same : (a : ℕ) (rest : List ℕ) → (a == 239) ≡ false → strip_bom (a ∷ rest) ≡ a ∷ rest
unfolding strip_bom
strip_same a [] other = refl
strip_same a (b ∷ []) other = refl
strip_same a (b ∷ c ∷ rest) other = rw other refl

pub plain_same : (text : List ℕ) → Plain text → strip_bom text ≡ text
plain_same text p = ap strip_bom p.is ∙ strip_same p.first p.rest p.other ∙ sym p.is

field_plain : (b : ℕ) (bs tail : List ℕ) → (b == 239) ≡ false → Plain (field_text default_writer (b ∷ bs) ++ tail)
field_plain b bs tail other = by (list_any (needs_byte default_writer) (b ∷ bs)) refl
  where
    by : (q : Bool) → list_any (needs_byte default_writer) (b ∷ bs) ≡ q → Plain (field_text default_writer (b ∷ bs) ++ tail)
    by true is = record { first = 34; rest = (escaped default_writer (b ∷ bs) ++ 34 ∷ []) ++ tail; is = rw is refl; other = refl }
    by false is = record { first = b; rest = bs ++ tail; is = rw is refl; other = other }

pub row_plain : (b : ℕ) (bs : List ℕ) (fields : List (List ℕ)) (tail : List ℕ) → (b == 239) ≡ false → Plain (row_text default_writer ((b ∷ bs) ∷ fields) ++ tail)
row_plain b bs fields tail other =
    let end : List ℕ = (if is_blank default_writer ((b ∷ bs) ∷ fields) then 34 ∷ 34 ∷ [] else []) ++ 10 ∷ [] in
    let more = fields_text default_writer fields in
    let p = field_plain b bs (more ++ (end ++ tail)) other in
    record {
      first = p.first;
      rest = p.rest;
      is = append_assoc (field_text default_writer (b ∷ bs) ++ more) end tail ∙ append_assoc (field_text default_writer (b ∷ bs)) more (end ++ tail) ∙ p.is;
      other = p.other;
    }

-- ---- lines

two_more : (xs : List (List ℕ)) (a b : List ℕ) → read_back (xs ++ a ∷ b ∷ []) ≡ xs ++ a ∷ b ∷ []
two_more [] a b = refl
two_more (x ∷ xs) a b = refl

line_back : (plan : Plan) (number : ℕ) (fields line : List (List ℕ)) → import_record plan number fields ≡ Ok line → read_back line ≡ line
line_back plan number fields line e = by (length fields == plan.width) (values_after (row_number plan.numbered number) plan.numbers plan.columns fields) (period_in plan fields) e
  where
    by : (b : Bool) (v : Result (List (List ℕ)) RecordFault) (p : Result (ℕ × ℕ) RecordFault)
        → (let r : Result (List (List ℕ)) RecordFault = if not b then Err (record { kind = FieldCount; place = 0 }) else and_then v (λ values. and_then p (λ period. Ok (values ++ period_texts (form_of plan.times.now) period))) in r ≡ Ok line)
        → read_back line ≡ line
    by false v p f = cc f
    by true (Err x) p f = cc f
    by true (Ok values) (Err x) f = cc f
    by true (Ok values) (Ok period) f =
        let same : values ++ period_texts (form_of plan.times.now) period ≡ line = cc f in
        sym (ap read_back same) ∙ two_more values _ _ ∙ same

-- the lines of the records are these, and each is read as it was written
pub record Lines (plan : Plan) (text : List ℕ) (number : ℕ) (records : List (List (List ℕ))) (out : List ℕ) : Type 0 where
  pub lines : List (List (List ℕ))
  pub are : imported_records plan number records ≡ Ok lines
  pub is : out ≡ text ++ rows_text lines
  pub back : map read_back lines ≡ lines

lines_of : (plan : Plan) (text : List ℕ) (number : ℕ) (records : List (List (List ℕ))) (out : List ℕ) → lines_after plan text number records ≡ Ok out → Lines plan text number records out
unfolding rows_text
lines_of plan text number [] out e = record { lines = []; are = refl; is = (let same : text ≡ out = cc e in sym same ∙ sym (append-nil text)); back = refl }
lines_of plan text number (fields ∷ records) out e =
    by (import_record plan number fields) refl (λ longer f. lines_of plan longer (number + 1) records out f)
  where
    by : (r : Result (List (List ℕ)) RecordFault) → import_record plan number fields ≡ r
        → ((longer : List ℕ) → lines_after plan longer (number + 1) records ≡ Ok out → Lines plan longer (number + 1) records out)
        → Lines plan text number (fields ∷ records) out
    by (Err fault) is more = let none = rw is at e in cc none
    by (Ok line) is more =
        let l = more (text ++ row_text answer_format line) (rw is at e) in
        record {
          lines = line ∷ l.lines;
          are = rw (is, l.are) refl;
          is = l.is ∙ append_assoc text (row_text answer_format line) (rows_text l.lines) ∙ ap (λ (t : List ℕ). text ++ (t ++ rows_text l.lines)) (same_row line);
          back = λ i. line_back plan number fields line is i ∷ l.back i;
        }

-- ---- the header

folded_plain : (name : List ℕ) → IsFoldedName name → Plain name
folded_plain name (bytes, is) = by bytes (is_name bytes) refl is
  where
    letter : (b : ℕ) → is_name_start b ≡ true → (to_ascii_lowercase b == 239) ≡ false
    letter b start = grind (arith, nat_tests)

    formed : (bytes : List ℕ) → has_name_form bytes ≡ true → Plain (folded bytes)
    formed [] f = cc f
    formed (b ∷ bs) f = record { first = to_ascii_lowercase b; rest = folded bs; is = refl; other = letter b (both (is_name_start b) (list_all is_name_byte bs) f).0 }

    by : (bytes : List ℕ) (q : Bool) → is_name bytes ≡ q → (if q then Some (folded bytes) else None) ≡ Some name → Plain name
    by bytes true named f =
        let same : folded bytes ≡ name = cc f in
        subst Plain same (formed bytes (both (has_name_form bytes) (nat_le (length bytes) 64) (both (has_name_form bytes && nat_le (length bytes) 64) (not (is_reserved bytes)) named).0).0)
    by bytes false named f = cc f

header_plain : (plan : Plan) (tail : List ℕ) → All (λ (c : PlannedColumn). IsFoldedName c.name) plan.columns → Plain (row_text default_writer (table_header plan) ++ tail)
header_plain plan tail named = by plan.numbered plan.columns named
  where
    by : (b : Bool) (columns : List PlannedColumn) → All (λ (c : PlannedColumn). IsFoldedName c.name) columns
        → Plain (row_text default_writer (number_header b ++ map column_field columns ++ (codes "from" ∷ codes "to" ∷ [])) ++ tail)
    by true columns all = row_plain 114 (codes "ow:int") (map column_field columns ++ (codes "from" ∷ codes "to" ∷ [])) tail refl
    by false [] all = row_plain 102 (codes "rom") (codes "to" ∷ []) tail refl
    by false (c ∷ columns) all =
        let p = folded_plain c.name (All-head (λ (c : PlannedColumn). IsFoldedName c.name) c columns all) in
        subst (λ (f : List ℕ). Plain (row_text default_writer (f ∷ (map column_field columns ++ (codes "from" ∷ codes "to" ∷ []))) ++ tail))
        (sym (ap (λ (n : List ℕ). n ++ kind_word c.conversion) p.is))
        (row_plain p.first (p.rest ++ kind_word c.conversion) (map column_field columns ++ (codes "from" ∷ codes "to" ∷ [])) tail p.other)

header_back : (plan : Plan) → read_back (table_header plan) ≡ table_header plan
header_back plan = by (number_header plan.numbered)
  where
    by : (numbers : List (List ℕ)) → read_back (numbers ++ map column_field plan.columns ++ (codes "from" ∷ codes "to" ∷ [])) ≡ numbers ++ map column_field plan.columns ++ (codes "from" ∷ codes "to" ∷ [])
    by [] = two_more (map column_field plan.columns) (codes "from") (codes "to")
    by (n ∷ numbers) = refl

-- ---- the file

-- the text is the lines of the header and of the records
text_lines : (plan : Plan) (rows : List (List (List ℕ))) (text : List ℕ) (e : import_of plan rows ≡ Ok text) → let l = lines_of plan (row_text answer_format (table_header plan)) 2 rows text e in text ≡ rows_text (table_header plan ∷ l.lines)
unfolding rows_text
text_lines plan rows text e =
    let l = lines_of plan (row_text answer_format (table_header plan)) 2 rows text e in
    l.is ∙ ap (λ (t : List ℕ). t ++ rows_text l.lines) (same_row (table_header plan))

pub plain_text : (plan : Plan) (rows : List (List (List ℕ))) (text : List ℕ) → IsLoadable plan → import_of plan rows ≡ Ok text → Plain text
unfolding rows_text
plain_text plan rows text loadable e =
    let l = lines_of plan (row_text answer_format (table_header plan)) 2 rows text e in
    subst Plain (sym (text_lines plan rows text e)) (header_plain plan (rows_text l.lines) loadable.named)

pub read_back_of : ImportsAreReadBack
unfolding rows_text
read_back_of plan rows text loadable e =
    let l = lines_of plan (row_text answer_format (table_header plan)) 2 rows text e in
    let plain = header_plain plan (rows_text l.lines) loadable.named in (
      l.lines,
      l.are,
      ap csv_records (text_lines plan rows text e)
          ∙ ap (records default_config) (plain_same (rows_text (table_header plan ∷ l.lines)) plain)
          ∙ rows_read (table_header plan ∷ l.lines)
          ∙ (λ i. header_back plan i ∷ l.back i),
    )
