-- The entries of tables, table by table.
use Rattle.std.proofs.Common.{◌≡◌, ◌≢◌, ℕ, zero, suc, ◌+◌, ◌<◌, Bool, true, false, ◌==◌, List, [], ◌∷◌, ◌++◌, length, map, refl, sym, ap, subst, ◌∙◌, arith, append_assoc, append-nil}
use Rattle.std.specs.Prelude.{filter}
use Rattle.std.proofs.lemmas.Bool.{eqb-true, eq-eqb}
use Rattle.std.proofs.lemmas.List.{length-map}
use Rattle.std.proofs.lemmas.List.Elements.{filter-append}
use Rattle.tq_base.specs.declared.fragment.Fragment.{Fragment}
use Rattle.tq_base.specs.declared.catalogue.Schema.{Schema}
use Rattle.tq_base.specs.RowLists.{RowList}
use Rattle.tq_event.specs.Entries.{Entry}
use Rattle.tq_event.specs.Tables.{AreRead, AreRowsOf, entries_from, lists_of, rows_in, row_entry}

-- the entries of one more table come last
pub entries_from-push : (table : ℕ) (tables : List RowList) (rows : RowList) → entries_from table (tables ++ rows ∷ []) ≡ entries_from table tables ++ map (row_entry (table + length tables)) rows.items
unfolding entries_from
entries_from-push table [] rows =
    let here : table + zero ≡ table = omega arith in
    rw here (append-nil (map (row_entry table) rows.items))
entries_from-push table (first ∷ tables) rows =
    let others : entries_from (table + 1) (tables ++ rows ∷ []) ≡ entries_from (table + 1) tables ++ map (row_entry (table + 1 + length tables)) rows.items = entries_from-push (table + 1) tables rows in
    let number : table + suc (length tables) ≡ table + 1 + length tables = omega arith in
    rw (number, others) (sym (append_assoc (map (row_entry table) first.items) (entries_from (table + 1) tables) (map (row_entry (table + 1 + length tables)) rows.items)))

-- whether the entry is of the table
abbrev of_table : ℕ → Entry → Bool
of_table table e = e.table == table

all_told : (table t : ℕ) (items : List Fragment) → (table == t) ≡ true → filter (of_table t) (map (row_entry table) items) ≡ map (row_entry table) items
all_told table t [] is = refl
all_told table t (row ∷ items) is = rw is (ap (λ es. row_entry table row ∷ es) (all_told table t items is))

none_told : (table t : ℕ) (items : List Fragment) → (table == t) ≡ false → filter (of_table t) (map (row_entry table) items) ≡ []
none_told table t [] is = refl
none_told table t (row ∷ items) is = rw is (none_told table t items is)

apart : (a b : ℕ) → a ≢ b → (a == b) ≡ false
apart a b differ = by (a == b) refl
  where
    by : (t : Bool) → (a == b) ≡ t → t ≡ false
    by true is = absurd (differ (eqb-true a b is))
    by false is = refl

-- no later table has entries of an earlier one
later_told : (table t : ℕ) (tables : List RowList) → t < table → filter (of_table t) (entries_from table tables) ≡ []
unfolding entries_from
later_told table t [] less = refl
later_told table t (rows ∷ tables) less =
    filter-append (of_table t) (map (row_entry table) rows.items) (entries_from (table + 1) tables)
    ∙ ap (λ es. es ++ filter (of_table t) (entries_from (table + 1) tables)) (none_told table t rows.items (apart table t (λ e. omega (arith, e, less))))
    ∙ later_told (table + 1) t tables (omega arith)

rows_told : (table k : ℕ) (tables : List RowList) → map (row_entry (table + k)) (rows_in (lists_of tables) k) ≡ filter (of_table (table + k)) (entries_from table tables)
unfolding entries_from
rows_told table zero [] = refl
rows_told table (suc k) [] = refl
rows_told table zero (rows ∷ tables) =
    let here : table + zero ≡ table = omega arith in
    rw here (sym (filter-append (of_table table) (map (row_entry table) rows.items) (entries_from (table + 1) tables)
    ∙ ap (λ es. es ++ filter (of_table table) (entries_from (table + 1) tables)) (all_told table table rows.items (eq-eqb table table refl))
    ∙ ap (λ es. map (row_entry table) rows.items ++ es) (later_told (table + 1) table tables (omega arith))
    ∙ append-nil (map (row_entry table) rows.items)))
rows_told table (suc k) (rows ∷ tables) =
    let number : table + suc k ≡ table + 1 + k = omega arith in
    rw number (rows_told (table + 1) k tables
    ∙ ap (λ es. es ++ filter (of_table (table + 1 + k)) (entries_from (table + 1) tables)) (sym (none_told table (table + 1 + k) rows.items (apart table (table + 1 + k) (λ e. omega (arith, e)))))
    ∙ sym (filter-append (of_table (table + 1 + k)) (map (row_entry table) rows.items) (entries_from (table + 1) tables)))

-- each table's rows are those of its records
pub rows_are_told : (tables : List RowList) → AreRowsOf (entries_from 0 tables) (lists_of tables)
rows_are_told tables table = let number : 0 + table ≡ table = omega arith in subst (λ n. map (row_entry n) (rows_in (lists_of tables) table) ≡ filter (of_table n) (entries_from 0 tables)) number (rows_told 0 table tables)

-- there are rows of each table
pub as_many_read : (schemas : List Schema) (tables : List RowList) → AreRead schemas tables → length tables ≡ length schemas
as_many_read schemas tables read =
    sym (length-map tables (λ (rows : RowList). rows.width)) ∙ ap length read ∙ length-map schemas (λ (s : Schema). length s.columns)

-- the entries after the rows of one more table were appended
pub entries_put : (tables new : List RowList) (rows : RowList) (number : ℕ) → new ≡ tables ++ rows ∷ [] → length tables ≡ number → entries_from 0 new ≡ entries_from 0 tables ++ map (row_entry number) rows.items
entries_put tables new rows number put many =
    let place : 0 + length tables ≡ number = omega (arith, many) in
    ap (entries_from 0) put ∙ entries_from-push 0 tables rows ∙ ap (λ n. entries_from 0 tables ++ map (row_entry n) rows.items) place
