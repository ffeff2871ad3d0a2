-- Consecutive parts of a table, and the events of rows. This project's own.
use Rattle.std.specs.Prelude.{◌≡◌, ◌==◌, ℕ, List, if◌then◌else◌, length}
use Rattle.tq_base.specs.declared.period.Period.{Period}
use Rattle.tq_base.specs.declared.period.TheConstants.{FOREVER}
use Rattle.tq_load.specs.declared.part.Part.{Part}
use Rattle.tq_load.specs.declared.part.PartRows.{PartRows}

-- the other part is of the same table, begins where this one ends, and has rows of the same width
pub record LeadsTo (read other : PartRows) : Type 0 where
  pub table : read.part.table ≡ other.part.table
  pub next : read.part.end ≡ other.part.start
  pub width : read.rows.width ≡ other.rows.width

-- the part is all of the table's bytes
pub record IsWhole (table : ℕ) (bytes : List ℕ) (part : Part) : Type 0 where
  pub same : part.table ≡ table
  pub first : part.start ≡ 0
  pub last : part.end ≡ length bytes

-- the number of events of a row that is valid in the period: a start, and an end unless that is `forever`
abbrev pub period_events : Period → ℕ
period_events period = if period.end == FOREVER then 1 else 2
