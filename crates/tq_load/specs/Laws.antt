-- Laws of records and of their rows. This project's own.
use Rattle.std.specs.Prelude.{◌≡◌, ◌≤◌, ◌++◌, ℕ, false, List, Ok, sum_by}
use Rattle.tq_base.specs.declared.form.Form.{Form}
use Rattle.tq_base.specs.declared.catalogue.Schema.{Schema}
use Rattle.tq_base.specs.RowLists.{RowList}
use Rattle.tq_event.specs.declared.file.TableFile.{TableFile}
use Rattle.tq_event.specs.Loading.{Contents, begins_with_bom, contents_of, csv_records, event_count}
use Rattle.tq_event.specs.Tables.{entries_from}
use Rattle.tq_load.specs.Parts.{AreHeaded, EndsRecords, HaveRows}

-- if a record begins after the bytes, the records of the whole are those of the bytes, then those of what follows
abbrev pub RecordsAreIndependent : Type 0
RecordsAreIndependent = (bytes more : List ℕ) → EndsRecords bytes → begins_with_bom more ≡ false → csv_records (bytes ++ more) ≡ csv_records bytes ++ csv_records more

-- files with valid names, headers and records hold the rows of their records, if the events stay within the limit
abbrev pub ParsedIsContents : Type 0
ParsedIsContents = (form : Form) (files : List TableFile) (limit : ℕ) (schemas : List Schema) (tables : List RowList) → AreHeaded files schemas → HaveRows form files schemas tables
    → sum_by event_count (entries_from 0 tables) ≤ limit → contents_of form files limit ≡ Ok (record { tables = schemas; entries = entries_from 0 tables })

-- the tables of files are those of their names and headers
abbrev pub HeadersAreCatalogue : Type 0
HeadersAreCatalogue = (form : Form) (files : List TableFile) (limit : ℕ) (schemas : List Schema) (contents : Contents) → AreHeaded files schemas → contents_of form files limit ≡ Ok contents → contents.tables ≡ schemas
