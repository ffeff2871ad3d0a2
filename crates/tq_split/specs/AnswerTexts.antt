-- The texts of answers, and the rows that are read from them. This project's own.
use Rattle.std.specs.Prelude.{◌≡◌, ◌<◌, ℕ, List, [], ◌∷◌, Ok, Option, None, Some, IsSorted, length, map, slice_index_or}
use Rattle.csv.specs.declared.reader.Reader.{Reader}
use Rattle.tq_base.specs.declared.catalogue.Column.{Column}
use Rattle.tq_base.specs.declared.fragment.Fragment.{Fragment}
use Rattle.tq_base.specs.Fragments.{fragment_cmp}
use Rattle.tq_event.specs.Loading.{csv_records, entry_of}
use Rattle.tq_event.specs.Tables.{row_entry}
use Rattle.tq_table.specs.Text.{header_fields}
use Rattle.tq_import.specs.Reading.{HasLeft}
use Rattle.tq_split.specs.declared.answer_part.AnswerLayout.{AnswerLayout}
use Rattle.tq_split.specs.declared.answer_part.AnswerPart.{AnswerPart}
use Rattle.tq_split.specs.declared.answer_part.KeyedRow.{KeyedRow}

-- each record is read as the row at its place, as a record of a table file is
abbrev pub AreRowsOf : AnswerLayout → List (List (List ℕ)) → List Fragment → Type 0
AreRowsOf layout [] [] = Unit {0}
AreRowsOf layout [] (row ∷ rows) = ⊥
AreRowsOf layout (fields ∷ records) [] = ⊥
AreRowsOf layout (fields ∷ records) (row ∷ rows) = (entry_of layout.form 0 layout.columns.items fields ≡ Ok (row_entry 0 row)) × AreRowsOf layout records rows

-- the names of the columns
abbrev pub names_of : AnswerLayout → List (List ℕ)
names_of layout = map (λ (c : Column). c.name) layout.columns.items

-- the text is that of an answer with these rows, in order
pub record IsAnswerText (layout : AnswerLayout) (text : List ℕ) (rows : List Fragment) : Type 0 where
  pub records : List (List (List ℕ))
  pub read : csv_records text ≡ header_fields (names_of layout) ∷ records
  pub rows_are : AreRowsOf layout records rows
  pub ordered : IsSorted fragment_cmp rows

-- ---- answers that are being read

-- the reader has still the records of these rows
pub record HasRowsLeft {R : Type 0} (remaining : R → Option (List ℕ)) (layout : AnswerLayout) (reader : Reader R) (rows : List Fragment) : Type 0 where
  pub records : List (List (List ℕ))
  pub has : HasLeft remaining 44 reader records
  pub rows_are : AreRowsOf layout records rows

-- the reader has still the record of the header, and those of these rows
pub record HasHeaderLeft {R : Type 0} (remaining : R → Option (List ℕ)) (layout : AnswerLayout) (reader : Reader R) (fields : List (List ℕ)) (rows : List Fragment) : Type 0 where
  pub records : List (List (List ℕ))
  pub has : HasLeft remaining 44 reader (fields ∷ records)
  pub rows_are : AreRowsOf layout records rows

-- the first row is the next one, and the reader has the others; without a next row there are none
abbrev pub HasNext : {R : Type 0} → (R → Option (List ℕ)) → AnswerLayout → Reader R → Option KeyedRow → List Fragment → Type 0
HasNext remaining layout reader None rows = rows ≡ []
HasNext remaining layout reader (Some next) rows = (others : List Fragment) × (rows ≡ next.row ∷ others) × HasRowsLeft remaining layout reader others

-- the part has still these rows
abbrev pub HasRows : {R : Type 0} → (R → Option (List ℕ)) → AnswerLayout → AnswerPart R → List Fragment → Type 0
HasRows remaining layout part rows = HasNext remaining layout part.reader part.next rows

-- the parts have still these rows, each those at its place
pub record HaveRows {R : Type 0} (remaining : R → Option (List ℕ)) (layout : AnswerLayout) (parts : List (AnswerPart R)) (lists : List (List Fragment)) : Type 0 where
  pub many : length parts ≡ length lists
  pub each : (k : ℕ) (d : AnswerPart R) (e : List Fragment) → k < length parts → HasRows remaining layout (slice_index_or parts k d) (slice_index_or lists k e)

-- each input has the text of an answer with the rows at its place
pub record AreAnswers {R : Type 0} (remaining : R → Option (List ℕ)) (layout : AnswerLayout) (inputs : List R) (lists : List (List Fragment)) : Type 0 where
  pub many : length inputs ≡ length lists
  pub each : (k : ℕ) (d : R) (e : List Fragment) → k < length inputs → (text : List ℕ) × (remaining (slice_index_or inputs k d) ≡ Some text) × IsAnswerText layout text (slice_index_or lists k e)
