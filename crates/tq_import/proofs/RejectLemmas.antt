-- Files of which only the valid records are imported.
use Rattle.std.proofs.Common.{◌≡◌, ◌∙◌, ◌+◌, ◌==◌, ℕ, suc, Bool, true, false, List, [], ◌∷◌, ◌++◌, length, map, Result, Ok, Err, ap, append_assoc, append-nil, arith, refl, subst, sym}
use Rattle.std.specs.Prelude.{if◌then◌else◌, is_ok, not}
use Rattle.std.specs.Borrow.{Bor}
use Rattle.std.specs.Global.{Vec}
use Rattle.csv.proofs.RoundTrip.{rows_text}
use Rattle.csv.specs.Reading.{default_config, records}
use Rattle.csv.specs.Writing.{row_text}
use Rattle.csv.specs.declared.writer.Writer.{Writer}
use Rattle.tq_base.specs.Results.{and_then}
use Rattle.tq_table.specs.Text.{answer_format}
use Rattle.tq_import.specs.declared.fault.NumberedFault.{NumberedFault}
use Rattle.tq_import.specs.declared.fault.RecordFault.{RecordFault}
use Rattle.tq_import.specs.declared.fault.RecordFaultKind.TheVariants.{FieldCount}
use Rattle.tq_import.specs.declared.part.Rejects.{Rejects}
use Rattle.tq_import.specs.declared.part.Rejects.TheVariants as reject
use Rattle.tq_import.specs.declared.part.RejectText.TheVariants as written
use Rattle.tq_import.specs.declared.plan.NumberFormat.{NumberFormat}
use Rattle.tq_import.specs.declared.plan.PlannedColumn.{PlannedColumn}
use Rattle.tq_import.specs.declared.plan.Plan.{Plan}
use Rattle.tq_import.specs.Imports.{lines_after, table_header}
use Rattle.tq_import.specs.Records.{at_place, convert, field_of, import_record, invalid_records, is_valid, period_in, period_texts, row_number, valid_records, values_after}
use Rattle.tq_import.specs.Messages.{message_line}
use Rattle.tq_import.specs.Rejects.{AreRejectTexts, FirstFaultsAgree, HasRejected, HasRows, IsRejectText, separated_format, InvalidRecord, RecordsAreSplit, RejectsAreReadBack, ValidFilesAgree, ValidRecordsAgree, faults_from, valid_lines}
use Rattle.tq_import.specs.Times.{form_of}
use Rattle.tq_import.proofs.LineLemmas.{line_more}
use Rattle.tq_import.proofs.ReadBackLemmas.{rows_read, same_row}

-- ---- texts of invalid records

pub texts_append : (rejects : Rejects) (plan : Plan) (header : List (List ℕ)) (a b : List InvalidRecord) (x y : List ℕ)
    → AreRejectTexts rejects plan header a x → AreRejectTexts rejects plan header b y → AreRejectTexts rejects plan header (a ++ b) (x ++ y)
texts_append rejects plan header [] b x y h k = subst (λ (t : List ℕ). AreRejectTexts rejects plan header b t) (sym (ap (λ (t : List ℕ). t ++ y) h)) k
texts_append rejects plan header (i ∷ a) b x y h k =
    let (first, rest, split, is, more) = h in
    (first, rest ++ y, ap (λ (t : List ℕ). t ++ y) split ∙ append_assoc first rest y, is, texts_append rejects plan header a b rest y more k)

-- one more row
pub row_added : (rejects : Rejects) (plan : Plan) (header : List (List ℕ)) (number : ℕ) (fault : RecordFault) (fields : List (List ℕ)) (old new : Writer (Vec ℕ)) (before : List ℕ)
    → HasRejected rejects (written.Rows old) before
    → ((delimiter : ℕ) (text : List ℕ) → HasRows delimiter old text → HasRows delimiter new (text ++ row_text (separated_format delimiter) fields))
    → (text : List ℕ) × IsRejectText rejects plan header (record { number = number; fault = fault; fields = fields }) text × HasRejected rejects (written.Rows new) (before ++ text)
row_added (reject.Records delimiter) plan header number fault fields old new before h row = (row_text (separated_format delimiter) fields, refl, row delimiter before h)
row_added (reject.Messages path) plan header number fault fields old new before h row = absurd h

-- one more message
pub message_added : (rejects : Rejects) (plan : Plan) (header : List (List ℕ)) (number line : ℕ) (fault : RecordFault) (fields : List (List ℕ)) (old new : Vec ℕ) (before : List ℕ)
    → HasRejected rejects (written.Messages old) before
    → ((path : Bor (List ℕ)) → rejects ≡ reject.Messages path → new.items ≡ old.items ++ message_line path.now plan header line fault fields)
    → (text : List ℕ) × IsRejectText rejects plan header (record { number = number; fault = fault; fields = fields }) text × HasRejected rejects (written.Messages new) (before ++ text)
message_added (reject.Records delimiter) plan header number line fault fields old new before h message = absurd h
message_added (reject.Messages path) plan header number line fault fields old new before h message =
    let text = message_line path.now plan header line fault fields in
    (text, (line, refl), message path refl ∙ ap (λ (l : List ℕ). l ++ text) h)

-- the rows, or the messages
pub rows_of_rejects : (rejects : Rejects) (writer : Writer (Vec ℕ)) (text : List ℕ) → HasRejected rejects (written.Rows writer) text → (delimiter : ℕ) × HasRows delimiter writer text
rows_of_rejects (reject.Records delimiter) writer text h = (delimiter, h)
rows_of_rejects (reject.Messages path) writer text h = absurd h

pub messages_of_rejects : (rejects : Rejects) (bytes : Vec ℕ) (text : List ℕ) → HasRejected rejects (written.Messages bytes) text → bytes.items ≡ text
messages_of_rejects (reject.Records delimiter) bytes text h = absurd h
messages_of_rejects (reject.Messages path) bytes text h = h

-- ---- plain imports

agree : (plan : Plan) (text : List ℕ) (number : ℕ) (records : List (List (List ℕ))) → faults_from plan number records ≡ []
    → lines_after plan text number records ≡ Ok (text ++ valid_lines plan number records)
agree plan text number [] e = ap (λ (t : List ℕ). let r : Result (List ℕ) NumberedFault = Ok t in r) (sym (append-nil text))
agree plan text number (fields ∷ records) e = by (import_record plan number fields) refl (λ longer f. agree plan longer (number + 1) records f)
  where
    by : (r : Result (List (List ℕ)) RecordFault) → import_record plan number fields ≡ r
        → ((longer : List ℕ) → faults_from plan (number + 1) records ≡ [] → lines_after plan longer (number + 1) records ≡ Ok (longer ++ valid_lines plan (number + 1) records))
        → lines_after plan text number (fields ∷ records) ≡ Ok (text ++ valid_lines plan number (fields ∷ records))
    by (Err fault) is more = let f = rw is at e in cc f
    by (Ok line) is more =
        rw is (more (text ++ row_text answer_format line) (rw is at e)
        ∙ ap (λ (t : List ℕ). let r : Result (List ℕ) NumberedFault = Ok t in r) (append_assoc text (row_text answer_format line) (valid_lines plan (number + 1) records)))

pub valid_files : ValidFilesAgree
valid_files plan records none = agree plan (row_text answer_format (table_header plan)) 2 records none

first : (plan : Plan) (text : List ℕ) (number : ℕ) (records : List (List (List ℕ))) (invalid : InvalidRecord) (more : List InvalidRecord)
    → faults_from plan number records ≡ invalid ∷ more → lines_after plan text number records ≡ Err (record { number = invalid.number; fault = invalid.fault })
first plan text number [] invalid more e = cc e
first plan text number (fields ∷ records) invalid more e = by (import_record plan number fields) refl (λ longer f. first plan longer (number + 1) records invalid more f)
  where
    fault_in : InvalidRecord → Result (List ℕ) NumberedFault
    fault_in f = Err (record { number = f.number; fault = f.fault })

    by : (r : Result (List (List ℕ)) RecordFault) → import_record plan number fields ≡ r
        → ((longer : List ℕ) → faults_from plan (number + 1) records ≡ invalid ∷ more → lines_after plan longer (number + 1) records ≡ fault_in invalid)
        → lines_after plan text number (fields ∷ records) ≡ fault_in invalid
    by (Err fault) is next =
        let f = rw is at e in
        let this : InvalidRecord = record { number = number; fault = fault; fields = fields } in
        let same : this ≡ invalid = cc f in
        rw is (ap fault_in same)
    by (Ok line) is next = rw is (next (text ++ row_text answer_format line) (rw is at e))

pub first_faults : FirstFaultsAgree
first_faults plan records invalid more e = first plan (row_text answer_format (table_header plan)) 2 records invalid more e

-- ---- the number of a record does not decide whether it is valid

values_ok : (format : NumberFormat) (columns : List PlannedColumn) (fields a b : List (List ℕ)) → is_ok (values_after a format columns fields) ≡ is_ok (values_after b format columns fields)
values_ok format [] fields a b = refl
values_ok format (c ∷ columns) fields a b =
    by (at_place c.place (convert format c.conversion (field_of fields c.place))) (λ value. values_ok format columns fields (a ++ value ∷ []) (b ++ value ∷ []))
  where
    by : (r : Result (List ℕ) RecordFault)
        → ((value : List ℕ) → is_ok (values_after (a ++ value ∷ []) format columns fields) ≡ is_ok (values_after (b ++ value ∷ []) format columns fields))
        → is_ok (and_then r (λ value. values_after (a ++ value ∷ []) format columns fields)) ≡ is_ok (and_then r (λ value. values_after (b ++ value ∷ []) format columns fields))
    by (Err fault) more = refl
    by (Ok value) more = more value

same_valid : (plan : Plan) (a b : ℕ) (fields : List (List ℕ)) → is_ok (import_record plan a fields) ≡ is_ok (import_record plan b fields)
same_valid plan a b fields =
    by (length fields == plan.width) (values_after (row_number plan.numbered a) plan.numbers plan.columns fields) (values_after (row_number plan.numbered b) plan.numbers plan.columns fields) (period_in plan fields)
    (values_ok plan.numbers plan.columns fields (row_number plan.numbered a) (row_number plan.numbered b))
  where
    whole : Bool → Result (List (List ℕ)) RecordFault → Result (ℕ × ℕ) RecordFault → Result (List (List ℕ)) RecordFault
    whole w v p = if not w then Err (record { kind = FieldCount; place = 0 }) else and_then v (λ values. and_then p (λ period. Ok (values ++ period_texts (form_of plan.times.now) period)))

    by : (w : Bool) (v u : Result (List (List ℕ)) RecordFault) (p : Result (ℕ × ℕ) RecordFault) → is_ok v ≡ is_ok u → is_ok (whole w v p) ≡ is_ok (whole w u p)
    by false v u p e = refl
    by true (Ok x) (Ok y) (Ok q) e = refl
    by true (Ok x) (Ok y) (Err q) e = refl
    by true (Ok x) (Err y) p e = cc e
    by true (Err x) (Ok y) p e = cc e
    by true (Err x) (Err y) p e = refl

-- ---- each record is valid or invalid

invalid_of : (plan : Plan) (number : ℕ) (records : List (List (List ℕ))) → map (λ (f : InvalidRecord). f.fields) (faults_from plan number records) ≡ invalid_records plan records
invalid_of plan number [] = refl
invalid_of plan number (fields ∷ records) = by (import_record plan number fields) refl (invalid_of plan (number + 1) records)
  where
    by : (r : Result (List (List ℕ)) RecordFault) → import_record plan number fields ≡ r
        → map (λ (f : InvalidRecord). f.fields) (faults_from plan (number + 1) records) ≡ invalid_records plan records
        → map (λ (f : InvalidRecord). f.fields) (faults_from plan number (fields ∷ records)) ≡ invalid_records plan (fields ∷ records)
    by (Ok line) is more =
        let valid : is_valid plan fields ≡ true = same_valid plan 2 number fields ∙ ap (λ (r : Result (List (List ℕ)) RecordFault). is_ok r) is in
        rw (is, valid) more
    by (Err fault) is more =
        let invalid : is_valid plan fields ≡ false = same_valid plan 2 number fields ∙ ap (λ (r : Result (List (List ℕ)) RecordFault). is_ok r) is in
        rw (is, invalid) (ap (λ (l : List (List (List ℕ))). fields ∷ l) more)

all_of : (plan : Plan) (records : List (List (List ℕ))) → length (valid_records plan records) + length (invalid_records plan records) ≡ length records
all_of plan [] = refl
all_of plan (fields ∷ records) = by (is_valid plan fields) refl (all_of plan records)
  where
    by : (b : Bool) → is_valid plan fields ≡ b → length (valid_records plan records) + length (invalid_records plan records) ≡ length records
        → length (valid_records plan (fields ∷ records)) + length (invalid_records plan (fields ∷ records)) ≡ length (fields ∷ records)
    by true is more = rw is (omega (arith, more))
    by false is more = rw is (omega (arith, more))

pub split : RecordsAreSplit
split plan records = record { invalid = invalid_of plan 2 records; all = all_of plan records }

same_length : (faults : List InvalidRecord) → length (map (λ (f : InvalidRecord). f.fields) faults) ≡ length faults
same_length [] = refl
same_length (f ∷ faults) = ap suc (same_length faults)

pub invalid_count : (plan : Plan) (records : List (List (List ℕ))) → length (faults_from plan 2 records) ≡ length (invalid_records plan records)
invalid_count plan records = sym (same_length (faults_from plan 2 records)) ∙ ap (λ (l : List (List (List ℕ))). length l) (invalid_of plan 2 records)

pub all_count : (plan : Plan) (records : List (List (List ℕ))) → length (valid_records plan records) + length (invalid_records plan records) ≡ length records
all_count plan records = all_of plan records

-- ---- tables without row numbers

same_record : (plan : Plan) (a b : ℕ) (fields : List (List ℕ)) → plan.numbered ≡ false → import_record plan a fields ≡ import_record plan b fields
same_record plan a b fields e = rw e refl

only : (plan : Plan) (text : List ℕ) (n m : ℕ) (records : List (List (List ℕ))) → plan.numbered ≡ false
    → lines_after plan text n (valid_records plan records) ≡ Ok (text ++ valid_lines plan m records)
only plan text n m [] e = ap (λ (t : List ℕ). let r : Result (List ℕ) NumberedFault = Ok t in r) (sym (append-nil text))
only plan text n m (fields ∷ records) e = by (import_record plan m fields) refl (λ longer k. only plan longer k (m + 1) records e)
  where
    by : (r : Result (List (List ℕ)) RecordFault) → import_record plan m fields ≡ r
        → ((longer : List ℕ) (k : ℕ) → lines_after plan longer k (valid_records plan records) ≡ Ok (longer ++ valid_lines plan (m + 1) records))
        → lines_after plan text n (valid_records plan (fields ∷ records)) ≡ Ok (text ++ valid_lines plan m (fields ∷ records))
    by (Err fault) is more =
        let invalid : is_valid plan fields ≡ false = ap (λ (r : Result (List (List ℕ)) RecordFault). is_ok r) (same_record plan 2 m fields e ∙ is) in
        rw (invalid, is) (more text n)
    by (Ok line) is more =
        let valid : is_valid plan fields ≡ true = ap (λ (r : Result (List (List ℕ)) RecordFault). is_ok r) (same_record plan 2 m fields e ∙ is) in
        rw (valid, is) (line_more plan text n fields (valid_records plan records) line (same_record plan n m fields e ∙ is)
        ∙ more (text ++ row_text answer_format line) (n + 1)
        ∙ ap (λ (t : List ℕ). let r : Result (List ℕ) NumberedFault = Ok t in r) (append_assoc text (row_text answer_format line) (valid_lines plan (m + 1) records)))

pub only_valid : ValidRecordsAgree
only_valid plan records e = only plan (row_text answer_format (table_header plan)) 2 2 records e

-- ---- the file of invalid records

rows_of : (plan : Plan) (header : List (List ℕ)) (faults : List InvalidRecord) (text : List ℕ) → AreRejectTexts (reject.Records 44) plan header faults text
    → text ≡ rows_text (map (λ (f : InvalidRecord). f.fields) faults)
unfolding rows_text
rows_of plan header [] text h = h
rows_of plan header (f ∷ faults) text h =
    let (first, rest, is, row, more) = h in
    is ∙ (λ i. (row ∙ same_row f.fields) i ++ rows_of plan header faults rest more i)

pub rejects_read : RejectsAreReadBack
unfolding rows_text
rejects_read plan header all texts are plain =
    let rows = invalid_records plan all in
    let same : texts ≡ rows_text rows = rows_of plan header (faults_from plan 2 all) texts are ∙ ap (λ (l : List (List (List ℕ))). rows_text l) (invalid_of plan 2 all) in
    let whole : row_text answer_format header ++ texts ≡ rows_text (header ∷ rows) = λ i. same_row header i ++ same i in
    ap (λ (t : List ℕ). records default_config t) (plain ∙ whole) ∙ rows_read (header ∷ rows)
