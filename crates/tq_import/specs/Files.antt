-- What a whole file becomes: its header makes the plan, its other records the rows. This project's own.
use Rattle.std.specs.Prelude.{◌≡◌, ℕ, List, [], ◌∷◌, length, Option}
use Rattle.std.specs.List.{repeat}
use Rattle.tq_import.specs.declared.options.ImportOptions.{ImportOptions}
use Rattle.tq_import.specs.declared.part.Imported.{Imported}
use Rattle.tq_import.specs.declared.part.Rejects.{Rejects}
use Rattle.tq_import.specs.declared.part.Separated.{Separated}
use Rattle.tq_import.specs.declared.plan.Conversion.{Conversion}
use Rattle.tq_import.specs.declared.plan.Conversion.TheVariants.{Number}
use Rattle.tq_import.specs.declared.plan.NumberFormat.{NumberFormat}
use Rattle.tq_import.specs.declared.plan.Plan.{Plan}
use Rattle.tq_import.specs.declared.whole.FileFault.{FileFault}
use Rattle.tq_import.specs.declared.whole.FileFault.TheVariants.{Input, NoHeader, Plan as BadPlan, Records}
use Rattle.tq_import.specs.Encodings.{utf8_of}
use Rattle.tq_import.specs.Imports.{IsFirstFault, IsImport}
use Rattle.tq_import.specs.Kinds.{kinds_after}
use Rattle.tq_import.specs.Plans.{IsPlan}
use Rattle.tq_import.specs.Reading.{records_by}
use Rattle.tq_import.specs.Rejects.{IsNoRecordFault, IsSeparated}

-- the records of a file with these bytes, as UTF-8
abbrev pub records_in : ImportOptions → List ℕ → List (List (List ℕ))
records_in options bytes = records_by options.delimiter (utf8_of options.encoding bytes)

-- the table file of the records was written, after the plan for their header
pub record IsImportOf (options : ImportOptions) (records : List (List (List ℕ))) (found : List Conversion) (old new : Option (List ℕ)) (plan : Plan) (imported : Imported) : Type 0 where
  pub header : List (List ℕ)
  pub rest : List (List (List ℕ))
  pub split : records ≡ header ∷ rest
  pub plan_is : IsPlan options header found plan
  pub whole : IsImport plan rest old new imported

-- there is no header, or the fault is the first one of the records after the header
abbrev pub IsFileFault : List (List (List ℕ)) → List (List ℕ) → FileFault → Type 0
IsFileFault records last (Input fault) = Unit {0}
IsFileFault records last NoHeader = records ≡ []
IsFileFault records last (BadPlan fault) = Unit {0}
IsFileFault records last (Records plan fault) = (header : List (List ℕ)) × (rest : List (List (List ℕ))) × (records ≡ header ∷ rest) × IsFirstFault plan rest last fault

-- the kinds that the records after the header suggest; none, if there is no header
abbrev pub AreKindsOf : NumberFormat → List (List (List ℕ)) → List Conversion → Type 0
AreKindsOf format [] kinds = kinds ≡ []
AreKindsOf format (header ∷ records) kinds = kinds ≡ kinds_after format (repeat (length header) (Number 0 ∷ [])) records

-- the table file of the valid records was written, by the plan for their header, and the rows or messages about the
-- others
pub record IsSeparatedImportOf (options : ImportOptions) (rejects : Rejects) (records : List (List (List ℕ))) (found : List Conversion) (old new old_rejected new_rejected : Option (List ℕ)) (plan : Plan) (separated : Separated) : Type 0 where
  pub header : List (List ℕ)
  pub rest : List (List (List ℕ))
  pub split : records ≡ header ∷ rest
  pub plan_is : IsPlan options header found plan
  pub whole : IsSeparated plan rejects header rest old new old_rejected new_rejected separated

-- there is no header, or the fault is none of a record
abbrev pub IsSeparatedFault : List (List (List ℕ)) → FileFault → Type 0
IsSeparatedFault records (Input fault) = Unit {0}
IsSeparatedFault records NoHeader = records ≡ []
IsSeparatedFault records (BadPlan fault) = Unit {0}
IsSeparatedFault records (Records plan fault) = IsNoRecordFault fault
