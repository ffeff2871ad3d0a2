-- What a record of a file holds. The form of files is this project's own.
use Rattle.std.specs.Prelude.{ℕ, List}
use Rattle.tq_base.specs.declared.value.Value.{Value}
use Rattle.tq_event.specs.declared.entry.Validity.{Validity}

-- a row as a record holds it: its table's number, its values, and the period from `from` to `to`
pub record Entry : Type 0 where
  pub table : ℕ
  pub values : List Value
  pub from : ℕ
  pub to : ℕ

-- the entry with these values, table number and period
abbrev pub entry_in : List Value × Validity → Entry
entry_in row = record { table = row.1.table; values = row.0; from = row.1.from; to = row.1.to }
