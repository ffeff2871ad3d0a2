-- Reading the records of a table one at a time, in terms of the `csv` crate.
use Rattle.std.specs.Prelude.{ℕ, ◌≡◌, Some, List, ◌∷◌, [], Bool, true, false}
use Rattle.std.specs.Borrow.{Bor}
use Rattle.csv.specs.Reading.{AreRecords, Ready, default_config, is_flexible, reader_config, reader_state, reader_trim, source_of}
use Rattle.csv.specs.declared.reader.Reader.{Reader}
use Rattle.csv.specs.declared.reader.Trim.TheVariants as trim

-- the records that a reader of a table has still to read
abbrev pub HasLeft : Reader (Bor (List ℕ)) → List (List (List ℕ)) → Type 0
HasLeft reader left = (reader_trim reader ≡ trim.None) × Ready reader × (reader_config reader ≡ default_config) × (is_flexible reader ≡ true)
    × (text : List ℕ) × (source_of (λ s. Some s.now) reader ≡ Some text) × AreRecords default_config (reader_state reader) text left

-- a read takes the first of the remaining records, if there is one
abbrev pub TakesFirst : Bool → List (List ℕ) → List (List (List ℕ)) → Reader (Bor (List ℕ)) → Type 0
TakesFirst true fields left reader = (more : List (List (List ℕ))) × (left ≡ fields ∷ more) × HasLeft reader more
TakesFirst false fields left reader = left ≡ []
