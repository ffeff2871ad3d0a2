-- What an import reads of a report: it turns back what the report turned. This project's own.
use Rattle.std.specs.Prelude.{◌≡◌, ◌⊎◌, ◌<◌, ◌≤◌, ℕ, ℤ, true, codes, [], ◌∷◌, None, Some}
use Rattle.tq_base.specs.Contents.{Int, has_exact_prefix}
use Rattle.tq_base.specs.declared.form.Form.{Form}
use Rattle.tq_base.specs.declared.form.Form.TheVariants.{Dates, Numbers}
use Rattle.tq_base.specs.declared.period.TheConstants.{FOREVER}
use Rattle.tq_import.specs.declared.plan.NumberFormat.{NumberFormat}
use Rattle.tq_import.specs.declared.plan.TimeFormat.{TimeFormat}
use Rattle.tq_import.specs.declared.plan.TimeUnit.TheVariants.{Day}
use Rattle.tq_import.specs.Amounts.{units_in}
use Rattle.tq_import.specs.Times.{bound_in, last_instant}
use Rattle.tq_report.specs.declared.format.Format.TheVariants.{Csv}
use Rattle.tq_report.specs.Texts.{end_in}
use Rattle.tq_table.specs.Amounts.{number_text}

-- numbers with a point, and without separators of thousands
abbrev pub plain_numbers : NumberFormat
plain_numbers = record { point = 46; thousands = None }

-- a number of 64 signed bits is what an import reads with the same number of digits after the point
abbrev pub AmountsAreReadBack : Type 0
AmountsAreReadBack = (places : ℕ) (number : ℤ) → has_exact_prefix (Int number) ≡ true → units_in plain_numbers places (number_text places number) ≡ Some number

-- periods with included ends, in the spelling of answers
abbrev pub answer_times : Form → TimeFormat
answer_times Numbers = record { dates = None; unit = Day; «open» = codes "forever" ∷ []; inclusive = true }
answer_times Dates = record { dates = Some (codes "yyyy-mm-dd"); unit = Day; «open» = codes "forever" ∷ []; inclusive = true }

-- an end that a period may have is what an import reads of its last instant
abbrev pub EndsAreReadBack : Type 0
EndsAreReadBack = (form : Form) (end : ℕ) → 0 < end → (end ≤ last_instant form) ⊎ (end ≡ FOREVER)
    → bound_in (answer_times form) (end_in Csv form true end) ≡ Some end
