-- Reading the records of a file with any separator, one at a time, in terms of the `csv` crate.
use Rattle.std.specs.Prelude.{ℕ, ◌≡◌, Option, Some, List, ◌∷◌, [], Bool, true, false}
use Rattle.csv.specs.Reading.{AreRecords, Ready, default_config, is_flexible, reader_config, reader_state, reader_trim, records, source_of, strip_bom}
use Rattle.csv.specs.declared.parser.Config.{Config}
use Rattle.csv.specs.declared.reader.Reader.{Reader}
use Rattle.csv.specs.declared.reader.Trim.TheVariants as trim

-- CSV with this byte between fields
abbrev pub separated_by : ℕ → Config
separated_by delimiter = record default_config { delimiter = delimiter }

-- the records of a file with this byte between fields; a byte order mark at the start is skipped
abbrev pub records_by : ℕ → List ℕ → List (List (List ℕ))
records_by delimiter bytes = records (separated_by delimiter) (strip_bom bytes)

-- the records that a reader has still to read
pub record HasLeft {R : Type 0} (remaining : R → Option (List ℕ)) (delimiter : ℕ) (reader : Reader R) (left : List (List (List ℕ))) : Type 0 where
  pub untrimmed : reader_trim reader ≡ trim.None
  pub ready : Ready reader
  pub config : reader_config reader ≡ separated_by delimiter
  pub flexible : is_flexible reader ≡ true
  pub text : List ℕ
  pub source : source_of remaining reader ≡ Some text
  pub are : AreRecords (separated_by delimiter) (reader_state reader) text left

-- a read takes the first of the remaining records, if there is one
abbrev pub TakesFirst : {R : Type 0} → (R → Option (List ℕ)) → ℕ → Bool → List (List ℕ) → List (List (List ℕ)) → Reader R → Type 0
TakesFirst remaining delimiter true fields left reader = (more : List (List (List ℕ))) × (left ≡ fields ∷ more) × HasLeft remaining delimiter reader more
TakesFirst remaining delimiter false fields left reader = left ≡ []
