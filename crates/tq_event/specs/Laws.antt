-- What is known of loaded files. This project's own.
use Rattle.std.specs.Prelude.{◌≡◌, ℕ, ◌≤◌, List, Some, length, All, Ok}
use Rattle.tq_base.specs.declared.catalogue.Column.{Column}
use Rattle.tq_base.specs.declared.catalogue.Schema.{Schema}
use Rattle.tq_base.specs.declared.form.Form.{Form}
use Rattle.tq_base.specs.declared.form.Form.TheVariants.{Dates}
use Rattle.tq_base.specs.declared.dates.TheConstants.{LAST_DAY}
use Rattle.tq_base.specs.Catalogues.{IsCatalogue}
use Rattle.tq_base.specs.Names.{folded_name}
use Rattle.tq_event.specs.declared.file.TableFile.{TableFile}
use Rattle.tq_event.specs.declared.file.Loaded.{Loaded}
use Rattle.tq_event.specs.History.{IsHistory, time_of}
use Rattle.tq_event.specs.Loading.{Contents, IsLoaded, contents_of}

-- files determine the list of tables and the list of events
abbrev pub LoadedIsUnique : Type 0
LoadedIsUnique = (form : Form) (files : List TableFile) (limit : ℕ) (a b : Loaded) → IsLoaded form files limit a → IsLoaded form files limit b
    → (a.catalogue.tables ≡ b.catalogue.tables) × (a.events ≡ b.events)

-- files without a fault have a history
abbrev pub LoadedExists : Type 0
LoadedExists = (form : Form) (files : List TableFile) (limit : ℕ) (contents : Contents) → contents_of form files limit ≡ Ok contents → (loaded : Loaded) × IsLoaded form files limit loaded

-- there are at most `limit` events
abbrev pub LoadedIsWithin : Type 0
LoadedIsWithin = (form : Form) (files : List TableFile) (limit : ℕ) (loaded : Loaded) → IsLoaded form files limit loaded → length loaded.events ≤ limit

-- the tables are a catalogue
abbrev pub LoadedIsCatalogue : Type 0
LoadedIsCatalogue = (form : Form) (files : List TableFile) (limit : ℕ) (loaded : Loaded) → IsLoaded form files limit loaded → IsCatalogue loaded.catalogue

-- the name is folded, and some bytes write it
abbrev pub IsFoldedName : List ℕ → Type 0
IsFoldedName name = (bytes : List ℕ) × (folded_name bytes ≡ Some name)

-- the table and its columns have folded names
abbrev pub HasFoldedNames : Schema → Type 0
HasFoldedNames schema = IsFoldedName schema.name × All (λ (c : Column). IsFoldedName c.name) schema.columns

-- the tables and their columns have folded names
abbrev pub LoadedNamesAreFolded : Type 0
LoadedNamesAreFolded = (form : Form) (files : List TableFile) (limit : ℕ) (loaded : Loaded) → IsLoaded form files limit loaded → All HasFoldedNames loaded.catalogue.tables

-- the events are a history over these tables
abbrev pub LoadedIsHistory : Type 0
LoadedIsHistory = (form : Form) (files : List TableFile) (limit : ℕ) (loaded : Loaded) → IsLoaded form files limit loaded → IsHistory loaded.catalogue loaded.events

-- files in the form of dates hold events at times that have dates
abbrev pub LoadedAreDated : Type 0
LoadedAreDated = (files : List TableFile) (limit : ℕ) (loaded : Loaded) → IsLoaded Dates files limit loaded → All (λ event. time_of event ≤ LAST_DAY) loaded.events
