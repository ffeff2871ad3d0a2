-- Laws of reports. This project's own.
use Rattle.std.specs.Prelude.{◌≡◌, false, All, [], length}
use Rattle.tq_base.specs.declared.fragment.Fragment.{Fragment}
use Rattle.tq_report.specs.declared.format.Format.TheVariants.{Csv}
use Rattle.tq_report.specs.declared.options.ReportOptions.{ReportOptions}
use Rattle.tq_report.specs.Reports.{report_of}
use Rattle.tq_table.specs.Text.{text_of}
use Rattle.tq_table.specs.declared.table.Table.{Table}

-- each row has one value for each column
abbrev pub HasWholeRows : Table → Type 0
HasWholeRows table = All (λ (row : Fragment). length row.values ≡ length table.columns) table.rows

-- CSV without amounts and included ends is the text of answers
abbrev pub CsvIsTheAnswer : Type 0
CsvIsTheAnswer = (options : ReportOptions) (table : Table) → options.format ≡ Csv → options.inclusive ≡ false → options.places.items ≡ [] → HasWholeRows table
    → report_of options table ≡ text_of options.form table
