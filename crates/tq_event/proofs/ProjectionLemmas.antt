-- Rows that keep only the wanted values: one more value, row or table.
use Rattle.std.proofs.Common.{◌≡◌, ℕ, zero, suc, ◌+◌, Bool, List, [], ◌∷◌, ◌++◌, Ok, length, map, refl, sym, ap, subst, ◌∙◌, arith, sum_by}
use Rattle.std.proofs.lemmas.List.{map-append}
use Rattle.std.proofs.lemmas.List.Sums.{sum_by-append, sum_by-cons}
use Rattle.tq_base.specs.declared.value.Value.{Value}
use Rattle.tq_base.specs.declared.catalogue.Schema.{Schema}
use Rattle.tq_base.specs.declared.form.Form.{Form}
use Rattle.tq_base.specs.declared.fragment.Fragment.{Fragment}
use Rattle.tq_base.specs.declared.period.Period.{Period}
use Rattle.tq_base.specs.RowLists.{RowList}
use Rattle.tq_event.specs.declared.file.TableFile.{TableFile}
use Rattle.tq_event.specs.declared.file.Tables.{Tables}
use Rattle.tq_event.specs.Projection.{AreProjectedTables, is_wanted, projected_from, projected_row, projected_rows, projected_value, projected_values, wanted_of}
use Rattle.tq_event.specs.Loading.{contents_of, event_count}
use Rattle.tq_event.specs.Tables.{AreRead, AreTables, entries_from, lists_of, rows_in, row_entry}
use Rattle.tq_event.proofs.TableLemmas.{rows_are_told}

-- ---- values

-- an empty list of columns keeps all values
pub values_all : (values : List Value) → projected_values [] values ≡ values
unfolding projected_values
values_all [] = refl
values_all (v ∷ values) = refl

-- one more value is kept if its column is wanted
pub values_push : (wanted : List Bool) (whole : List Value) (value : Value) → projected_values wanted (whole ++ value ∷ []) ≡ projected_values wanted whole ++ projected_value (is_wanted wanted (length whole)) value ∷ []
unfolding projected_values
values_push [] [] value = refl
values_push [] (v ∷ whole) value = refl
values_push (w ∷ wanted) [] value = refl
values_push (w ∷ wanted) (v ∷ whole) value = ap (λ vs. projected_value w v ∷ vs) (values_push wanted whole value)

-- ---- rows

pub rows_all : (rows : List Fragment) → map (projected_row []) rows ≡ rows
rows_all [] = refl
rows_all (row ∷ rows) = rw (values_all row.values, rows_all rows) refl

-- one more row is kept as those before it
pub rows_push : (wanted : List Bool) (whole rows all : List Fragment) (values of_record : List Value) (period : Period) → rows ≡ map (projected_row wanted) whole → values ≡ projected_values wanted of_record
    → all ≡ rows ++ record { values = values; period = period } ∷ [] → all ≡ map (projected_row wanted) (whole ++ record { values = of_record; period = period } ∷ [])
rows_push wanted whole rows all values of_record period kept is put =
    put
    ∙ ap (λ l. l ++ record { values = values; period = period } ∷ []) kept
    ∙ ap (λ (vs : List Value). let row : Fragment = record { values = vs; period = period } in map (projected_row wanted) whole ++ row ∷ []) is
    ∙ sym (map-append (projected_row wanted) whole (record { values = of_record; period = period } ∷ []))

-- the events of rows depend only on their periods
pub rows_events : (wanted : List Bool) (table : ℕ) (rows : List Fragment) → sum_by event_count (map (row_entry table) (map (projected_row wanted) rows)) ≡ sum_by event_count (map (row_entry table) rows)
rows_events wanted table [] = refl
rows_events wanted table (row ∷ rows) =
    sum_by-cons event_count (row_entry table (projected_row wanted row)) (map (row_entry table) (map (projected_row wanted) rows))
    ∙ ap (λ n. event_count (row_entry table row) + n) (rows_events wanted table rows)
    ∙ sym (sum_by-cons event_count (row_entry table row) (map (row_entry table) rows))

-- ---- tables

pub tables_all : (table : ℕ) (tables : List RowList) → projected_from [] table tables ≡ tables
unfolding projected_from
tables_all table [] = refl
tables_all table (rows ∷ tables) = rw (rows_all rows.items, tables_all (table + 1) tables) refl

pub tables_push : (wanted : List (List Bool)) (table : ℕ) (tables : List RowList) (rows : RowList) → projected_from wanted table (tables ++ rows ∷ []) ≡ projected_from wanted table tables ++ projected_rows (wanted_of wanted (table + length tables)) rows ∷ []
unfolding projected_from
tables_push wanted table [] rows = let here : table + zero ≡ table = omega arith in rw here refl
tables_push wanted table (first ∷ tables) rows =
    let number : table + suc (length tables) ≡ table + 1 + length tables = omega arith in
    rw (number, tables_push wanted (table + 1) tables rows) refl

pub tables_many : (wanted : List (List Bool)) (table : ℕ) (tables : List RowList) → length (projected_from wanted table tables) ≡ length tables
unfolding projected_from
tables_many wanted table [] = refl
tables_many wanted table (rows ∷ tables) = ap suc (tables_many wanted (table + 1) tables)

pub tables_wide : (wanted : List (List Bool)) (table : ℕ) (tables : List RowList) → map (λ (rows : RowList). rows.width) (projected_from wanted table tables) ≡ map (λ (rows : RowList). rows.width) tables
unfolding projected_from
tables_wide wanted table [] = refl
tables_wide wanted table (rows ∷ tables) = ap (λ ws. rows.width ∷ ws) (tables_wide wanted (table + 1) tables)

pub tables_events : (wanted : List (List Bool)) (table : ℕ) (tables : List RowList) → sum_by event_count (entries_from table (projected_from wanted table tables)) ≡ sum_by event_count (entries_from table tables)
unfolding entries_from projected_from
tables_events wanted table [] = refl
tables_events wanted table (rows ∷ tables) =
    sum_by-append event_count (map (row_entry table) (map (projected_row (wanted_of wanted table)) rows.items)) (entries_from (table + 1) (projected_from wanted (table + 1) tables))
    ∙ ap (λ n. n + sum_by event_count (entries_from (table + 1) (projected_from wanted (table + 1) tables))) (rows_events (wanted_of wanted table) table rows.items)
    ∙ ap (λ n. sum_by event_count (map (row_entry table) rows.items) + n) (tables_events wanted (table + 1) tables)
    ∙ sym (sum_by-append event_count (map (row_entry table) rows.items) (entries_from (table + 1) tables))

pub tables_rows : (wanted : List (List Bool)) (table k : ℕ) (tables : List RowList) → rows_in (lists_of (projected_from wanted table tables)) k ≡ map (projected_row (wanted_of wanted (table + k))) (rows_in (lists_of tables) k)
unfolding projected_from
tables_rows wanted table zero [] = refl
tables_rows wanted table (suc k) [] = refl
tables_rows wanted table zero (rows ∷ tables) = let here : table + zero ≡ table = omega arith in rw here refl
tables_rows wanted table (suc k) (rows ∷ tables) = let number : table + suc k ≡ table + 1 + k = omega arith in rw number (tables_rows wanted (table + 1) k tables)

-- one more table is kept as those before it
pub table_put : (wanted : List (List Bool)) (whole tables new : List RowList) (rows of_file : RowList) (number : ℕ) → tables ≡ projected_from wanted 0 whole → new ≡ tables ++ rows ∷ [] → length tables ≡ number
    → rows.width ≡ of_file.width → rows.items ≡ map (projected_row (wanted_of wanted number)) of_file.items → new ≡ projected_from wanted 0 (whole ++ of_file ∷ [])
table_put wanted whole tables new rows of_file number kept put many wide are =
    let place : 0 + length whole ≡ number = omega (arith, many, ap length kept, tables_many wanted 0 whole) in
    let same : rows ≡ projected_rows (wanted_of wanted number) of_file = λ i. record { width = wide i; items = are i } in
    put
    ∙ ap (λ l. l ++ rows ∷ []) kept
    ∙ ap (λ (r : RowList). projected_from wanted 0 whole ++ r ∷ []) same
    ∙ ap (λ n. projected_from wanted 0 whole ++ projected_rows (wanted_of wanted n) of_file ∷ []) (sym place)
    ∙ sym (tables_push wanted 0 whole of_file)

-- the events of the tables are those of the whole ones
pub events_before : (wanted : List (List Bool)) (whole tables : List RowList) (events : ℕ) → tables ≡ projected_from wanted 0 whole → events ≡ sum_by event_count (entries_from 0 tables) → sum_by event_count (entries_from 0 whole) ≡ events
events_before wanted whole tables events kept counted = sym (counted ∙ ap (λ l. sum_by event_count (entries_from 0 l)) kept ∙ tables_events wanted 0 whole)

-- ---- files

-- tables whose whole rows are those of the files
pub are_wanted : (form : Form) (files : List TableFile) (limit : ℕ) (wanted : List (List Bool)) (schemas : List Schema) (whole : List RowList) (tables : Tables)
    → contents_of form files limit ≡ Ok (record { tables = schemas; entries = entries_from 0 whole }) → tables.catalogue.tables ≡ schemas → tables.rows ≡ projected_from wanted 0 whole → AreRead schemas tables.rows
    → AreProjectedTables form files limit wanted tables
are_wanted form files limit wanted schemas whole tables parsed catalogue kept read = record {
  whole = record { catalogue = tables.catalogue; rows = whole };
  of_files = record {
    contents = record { tables = schemas; entries = entries_from 0 whole };
    is_contents = parsed;
    catalogue = catalogue;
    read = sym (tables_wide wanted 0 whole) ∙ ap (map (λ (rows : RowList). rows.width)) (sym kept) ∙ read;
    rows = rows_are_told whole;
  };
  kept = record {
    catalogue = refl;
    rows = λ table.
        let number : 0 + table ≡ table = omega arith in
        ap (λ l. rows_in (lists_of l) table) kept ∙ subst (λ n. rows_in (lists_of (projected_from wanted 0 whole)) table ≡ map (projected_row (wanted_of wanted n)) (rows_in (lists_of whole) table)) number (tables_rows wanted 0 table whole);
  };
}

-- an empty list of tables keeps the whole tables
pub all_wanted : (form : Form) (files : List TableFile) (limit : ℕ) (tables : Tables) → AreRead tables.catalogue.tables tables.rows → AreProjectedTables form files limit [] tables → AreTables form files limit tables
all_wanted form files limit tables read wanted = record {
  contents = wanted.of_files.contents;
  is_contents = wanted.of_files.is_contents;
  catalogue = is_catalogue;
  read = subst (λ schemas. AreRead schemas tables.rows) is_catalogue read;
  rows = λ table. ap (map (row_entry table)) (wanted.kept.rows table ∙ rows_all (rows_in (lists_of wanted.whole.rows) table)) ∙ wanted.of_files.rows table;
}
  where
    is_catalogue : tables.catalogue.tables ≡ wanted.of_files.contents.tables
    is_catalogue = rw wanted.kept.catalogue wanted.of_files.catalogue
