-- The summary of files. This project's own.
use Rattle.std.specs.Prelude.{◌≡◌, ◌≢◌, ℕ, Err, List, ◌++◌}
use Rattle.std.specs.List.{AllZip}
use Rattle.tq_base.specs.declared.form.Form.{Form}
use Rattle.tq_check.specs.ReferenceReports.{AreReferenceTexts}
use Rattle.tq_check.specs.References.{IsReferenceOf, IsRefused}
use Rattle.tq_check.specs.Reports.{IsSummaryOf}
use Rattle.tq_check.specs.declared.checking.CheckFault.{CheckFault}
use Rattle.tq_check.specs.declared.checking.CheckFault.TheVariants as fault
use Rattle.tq_check.specs.declared.key_report.KeyChecks.{KeyChecks}
use Rattle.tq_check.specs.declared.references.Reference.{Reference}
use Rattle.tq_check.specs.declared.references.ReferenceNames.{ReferenceNames}
use Rattle.tq_event.specs.Loading.{contents_of, out_of_memory}
use Rattle.tq_event.specs.Tables.{AreTables}
use Rattle.tq_event.specs.declared.fault.LoadFault.{LoadFault}
use Rattle.tq_event.specs.declared.fault.LoadFaultKind.TheVariants as kind
use Rattle.tq_event.specs.declared.file.TableFile.{TableFile}
use Rattle.tq_event.specs.declared.file.Tables.{Tables}

-- the text is the summary of the tables, and then the lines about the references with these names
pub record IsTextOf (form : Form) (keys : KeyChecks) (names : List ReferenceNames) (tables : Tables) (text : List ℕ) : Type 0 where
  pub references : List Reference
  pub are_references : AllZip (IsReferenceOf tables.catalogue) names references
  pub summary : List ℕ
  pub is_summary : IsSummaryOf form keys tables.catalogue.tables tables.rows summary
  pub lines : List ℕ
  pub are_lines : AreReferenceTexts form tables references lines
  pub text_is : text ≡ summary ++ lines

-- the text is that of the tables of the files, with at most 2^24 events
pub record IsCheck (form : Form) (keys : KeyChecks) (files : List TableFile) (names : List ReferenceNames) (text : List ℕ) : Type 0 where
  pub tables : Tables
  pub are_tables : AreTables form files 16777216 tables
  pub is_text : IsTextOf form keys names tables text

-- why there is no text of tables
abbrev pub IsTextFault : List ReferenceNames → Tables → CheckFault → Type 0
IsTextFault names tables (fault.Load load) = ⊥
IsTextFault names tables (fault.Reference refused) = IsRefused tables.catalogue names refused
IsTextFault names tables fault.OutOfMemory = Unit {0}

-- the names with the number are refused over the tables of the files
pub record IsRefusedCheck (form : Form) (files : List TableFile) (names : List ReferenceNames) (fault : CheckFault) : Type 0 where
  pub tables : Tables
  pub are_tables : AreTables form files 16777216 tables
  pub is_fault : IsTextFault names tables fault

-- the first fault of the files, or memory ran out
pub record IsLoadFault (form : Form) (files : List TableFile) (fault : LoadFault) : Type 0 where
  pub first : fault.kind ≢ kind.OutOfMemory → contents_of form files 16777216 ≡ Err fault
  pub memory : fault.kind ≡ kind.OutOfMemory → fault ≡ out_of_memory

-- why files have no check
abbrev pub IsCheckFault : Form → List TableFile → List ReferenceNames → CheckFault → Type 0
IsCheckFault form files names (fault.Load load) = IsLoadFault form files load
IsCheckFault form files names (fault.Reference refused) = IsRefusedCheck form files names (fault.Reference refused)
IsCheckFault form files names fault.OutOfMemory = Unit {0}
