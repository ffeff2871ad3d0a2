-- The contents of files whose records are read as the rows of their tables.
use Rattle.std.proofs.Common.{◌≡◌, ◌≤◌, ◌<◌, ◌+◌, ◌++◌, ◌∷◌, ℕ, zero, suc, Bool, List, [], Some, None, Ok, Err, Result, ◌⊎◌, inl, inr, drop, take, map, length, slice_get, sum_by, refl, sym, ap, subst, ◌∙◌, arith, append-nil, append_assoc}
use Rattle.std.proofs.lemmas.List.{drop_more, length-drop, length-take-le, take_all, take_more}
use Rattle.std.proofs.lemmas.List.Sums.{sum_by-append, sum_by-cons}
use Rattle.std.proofs.lemmas.Option.{get_or_from_slice_get, none-some, slice_get-get_or, slice_get_cases, slice_get_within}
use Rattle.std.specs.Prelude.{slice_index_or}
use Rattle.tq_base.specs.declared.form.Form.{Form}
use Rattle.tq_base.specs.declared.catalogue.Column.{Column}
use Rattle.tq_base.specs.declared.catalogue.Schema.{Schema}
use Rattle.tq_base.specs.declared.fragment.Fragment.{Fragment}
use Rattle.tq_base.specs.RowLists.{RowList}
use Rattle.tq_event.specs.declared.fault.LoadFault.{LoadFault}
use Rattle.tq_event.specs.declared.file.TableFile.{TableFile}
use Rattle.tq_event.specs.Entries.{Entry}
use Rattle.tq_event.specs.Projection.{projected_from, projected_rows, wanted_of}
use Rattle.tq_event.specs.Loading.{Contents, contents_after, contents_of, csv_records, entries_after, entry_of, event_count, next_contents, next_name, table_contents}
use Rattle.tq_event.specs.Tables.{AreRead, entries_from, row_entry}
use Rattle.tq_event.proofs.LoadLemmas.{add_ok, next_ok, read_fault, read_ok}
use Rattle.tq_event.proofs.ProjectionLemmas.{tables_many}
use Rattle.tq_event.proofs.TableLemmas.{entries_put}
use Rattle.tq_load.specs.Parts.{AreHeaded, HaveProjectedRows, AreRowsOfTable, HaveRows, HoldsAt, ParseRows}

-- ---- records

first_told : (form : Form) (table : ℕ) (columns : List Column) (fields : List (List ℕ)) (records : List (List (List ℕ))) (row : Fragment) (rows : List Fragment) → ParseRows form columns (fields ∷ records) (row ∷ rows)
    → entry_of form table columns fields ≡ Ok (row_entry table row)
first_told form table columns fields records row rows tell = cc (tell table)

rest_told : (form : Form) (columns : List Column) (fields : List (List ℕ)) (records : List (List (List ℕ))) (row : Fragment) (rows : List Fragment) → ParseRows form columns (fields ∷ records) (row ∷ rows) → ParseRows form columns records rows
rest_told form columns fields records row rows tell table = cc (tell table)

-- records that are read as rows make their entries, if the events stay within the limit
pub told_entries : (form : Form) (limit table : ℕ) (columns : List Column) (number : ℕ) (before : List Entry) (records : List (List (List ℕ))) (rows : List Fragment) → ParseRows form columns records rows
    → sum_by event_count (before ++ map (row_entry table) rows) ≤ limit → entries_after form limit table columns number before records ≡ Ok (before ++ map (row_entry table) rows)
told_entries form limit table columns number before [] [] tell within = ap (λ (es : List Entry). let r : Result (List Entry) LoadFault = Ok es in r) (sym (append-nil before))
told_entries form limit table columns number before [] (row ∷ rows) tell within = cc (tell table)
told_entries form limit table columns number before (fields ∷ records) [] tell within = cc (tell table)
told_entries form limit table columns number before (fields ∷ records) (row ∷ rows) tell within =
    let entry : Entry = row_entry table row in
    let parsed : List Entry = map (row_entry table) rows in
    let assoc : (before ++ entry ∷ []) ++ parsed ≡ before ++ entry ∷ parsed = append_assoc before (entry ∷ []) parsed in
    let counted : sum_by event_count before + event_count entry ≤ limit = omega (arith, sum_by-append event_count before (entry ∷ parsed), sum_by-cons event_count entry parsed, within) in
    add_ok form limit table columns number before fields records (fields ∷ records) refl entry (before ++ entry ∷ []) (first_told form table columns fields records row rows tell)
    (next_ok limit before entry (sum_by event_count before + event_count entry) refl counted)
    ∙ told_entries form limit table columns (number + 1) (before ++ entry ∷ []) records rows (rest_told form columns fields records row rows tell) (omega (arith, ap (sum_by event_count) assoc, within))
    ∙ ap (λ (es : List Entry). let r : Result (List Entry) LoadFault = Ok es in r) assoc

-- ---- files

-- the first tables have no more events than all tables
some_events : (number n : ℕ) (tables : List RowList) → sum_by event_count (entries_from number (take n tables)) ≤ sum_by event_count (entries_from number tables)
unfolding entries_from
some_events number zero tables = omega arith
some_events number (suc n) [] = omega arith
some_events number (suc n) (rows ∷ tables) =
    let parsed : List Entry = map (row_entry number) rows.items in
    omega (arith, sum_by-append event_count parsed (entries_from (number + 1) (take n tables)), sum_by-append event_count parsed (entries_from (number + 1) tables), some_events (number + 1) n tables)

one_more : {A : Type 0} (xs : List A) (t : ℕ) (x : A) → slice_get xs t ≡ Some x → t < length xs → take (t + 1) xs ≡ take t xs ++ x ∷ []
one_more {A} xs t x is within = take_more xs t x within ∙ ap (λ (y : A). take t xs ++ y ∷ []) (get_or_from_slice_get xs t x x is)

item_at : {A : Type 0} (xs : List A) (t : ℕ) → t < length xs → (x : A) × (slice_get xs t ≡ Some x)
item_at {A} xs t here = by (slice_get_cases xs t).1
  where
    by : ((x : A) × (t < length xs) × (slice_get xs t ≡ Some x) × (slice_index_or xs t x ≡ x)) ⊎ ((length xs ≤ t) × (slice_get xs t ≡ None)) → (x : A) × (slice_get xs t ≡ Some x)
    by (inl (x, less, is, same)) = (x, is)
    by (inr (past, none)) = absurd (omega (arith, past, here))

module _ (form : Form) (files : List TableFile) (limit : ℕ) (schemas : List Schema) (tables : List RowList) (headed : AreHeaded files schemas) (parsed : HaveRows form files schemas tables)
    (within : sum_by event_count (entries_from 0 tables) ≤ limit) where
  abbrev so_far : ℕ → Contents
  so_far t = record { tables = take t schemas; entries = entries_from 0 (take t tables) }

  step_on : (t : ℕ) (file : TableFile) (schema : Schema) (rows : RowList) → t < length files → slice_get files t ≡ Some file → slice_get schemas t ≡ Some schema → slice_get tables t ≡ Some rows
      → next_contents form limit (so_far t) file ≡ Ok (so_far (t + 1))
  step_on t file schema rows here is_file is_schema is_rows =
      let number : length (take t schemas) ≡ t = length-take-le t schemas (omega (arith, here, headed.many)) in
      let many : length (take t tables) ≡ t = length-take-le t tables (omega (arith, here, parsed.many)) in
      let more_schemas : take (t + 1) schemas ≡ take t schemas ++ schema ∷ [] = one_more schemas t schema is_schema (omega (arith, here, headed.many)) in
      let more_tables : take (t + 1) tables ≡ take t tables ++ rows ∷ [] = one_more tables t rows is_rows (omega (arith, here, parsed.many)) in
      let before : List Entry = entries_from 0 (take t tables) in
      let put : entries_from 0 (take (t + 1) tables) ≡ before ++ map (row_entry t) rows.items = entries_put (take t tables) (take (t + 1) tables) rows t more_tables many in
      let of_table : AreRowsOfTable form schema.columns file.bytes rows = parsed.each t rows is_rows file schema is_file is_schema in
      let few : sum_by event_count (before ++ map (row_entry t) rows.items) ≤ limit = omega (arith, ap (sum_by event_count) put, some_events 0 (t + 1) tables, within) in
      let contents : table_contents form limit t before file.bytes ≡ Ok (schema.columns, before ++ map (row_entry t) rows.items) =
      read_ok form limit t before file.bytes schema.columns (before ++ map (row_entry t) rows.items) (headed.headed t file schema is_file is_schema)
      (told_entries form limit t schema.columns 2 before (drop 1 (csv_records file.bytes)) rows.items of_table.parsed few) in
      let named : next_name (take t schemas) file.name ≡ Ok schema.name = headed.named t file schema is_file is_schema in
      rw (named, number, contents, more_schemas, put) refl

  rest_on : (left : List TableFile) (t : ℕ) → drop t files ≡ left → t ≤ length files → contents_after form limit (so_far t) left ≡ Ok (record { tables = schemas; entries = entries_from 0 tables })
  rest_on [] t is upto =
      let past : length files ≤ t = omega (arith, length-drop t files, ap length is) in
      rw (take_all t schemas (omega (arith, past, headed.many)), take_all t tables (omega (arith, past, parsed.many))) refl
  rest_on (file ∷ left) t is upto =
      let here : t < length files = omega (arith, length-drop t files, ap length is) in
      let split : slice_index_or files t file ∷ drop (t + 1) files ≡ file ∷ left = sym (drop_more files t file here) ∙ is in
      let same : slice_index_or files t file ≡ file = cc split in
      let is_file : slice_get files t ≡ Some file = slice_get-get_or files t file here ∙ ap Some same in
      let (schema, is_schema) = item_at schemas t (omega (arith, here, headed.many)) in
      let (rows, is_rows) = item_at tables t (omega (arith, here, parsed.many)) in
      rw (step_on t file schema rows here is_file is_schema is_rows) (rest_on left (t + 1) (cc split) (omega (arith, here)))

  pub all_contents : contents_of form files limit ≡ Ok (record { tables = schemas; entries = entries_from 0 tables })
  unfolding entries_from
  all_contents = rest_on files 0 refl (omega arith)

-- ---- widths

all_wide : (schemas : List Schema) (tables : List RowList) → length tables ≡ length schemas
    → ((t : ℕ) (s : Schema) (r : RowList) → slice_get schemas t ≡ Some s → slice_get tables t ≡ Some r → r.width ≡ length s.columns) → AreRead schemas tables
all_wide [] [] many wide = refl
all_wide [] (r ∷ tables) many wide = absurd (omega (arith, many))
all_wide (s ∷ schemas) [] many wide = absurd (omega (arith, many))
all_wide (s ∷ schemas) (r ∷ tables) many wide =
    let first : r.width ≡ length s.columns = wide zero s r refl refl in
    let rest : AreRead schemas tables = all_wide schemas tables (omega (arith, many)) (λ t. wide (suc t)) in
    rw (first, rest) refl

-- the rows of each table have the width of its schema
pub as_wide : (form : Form) (files : List TableFile) (schemas : List Schema) (tables : List RowList) → AreHeaded files schemas → HaveRows form files schemas tables → AreRead schemas tables
as_wide form files schemas tables headed parsed = all_wide schemas tables (parsed.many ∙ sym headed.many) (λ t s r is_schema is_rows.
    let (file, is_file) = item_at files t (omega (arith, slice_get_within tables t r is_rows, parsed.many)) in
    (parsed.each t r is_rows file s is_file is_schema).wide)

-- ---- kept values

-- the whole tables, each found by its number among those that were kept
gathered : (wanted : List (List Bool)) (holds : ℕ → RowList → Type 0) (number : ℕ) (tables : List RowList)
    → ((k : ℕ) (rows : RowList) → slice_get tables k ≡ Some rows → (whole : RowList) × holds (number + k) whole × (rows ≡ projected_rows (wanted_of wanted (number + k)) whole))
    → (all : List RowList) × (tables ≡ projected_from wanted number all) × ((k : ℕ) (rows : RowList) → slice_get all k ≡ Some rows → holds (number + k) rows)
unfolding projected_from
gathered wanted holds number [] each = ([], refl, λ k rows is. absurd (none-some rows is))
gathered wanted holds number (rows ∷ tables) each =
    let (first, held, kept) = each zero rows refl in
    let (all, are, rest) = gathered wanted holds (number + 1) tables (λ k r is. let next : number + 1 + k ≡ number + suc k = omega arith in rw next (each (suc k) r is)) in
    let here : number + zero ≡ number = omega arith in
    let one : rows ≡ projected_rows (wanted_of wanted number) first = rw here at kept in
    (first ∷ all, λ i. one i ∷ are i, by first all held rest)
  where
    by : (first : RowList) (all : List RowList) → holds (number + zero) first → ((k : ℕ) (r : RowList) → slice_get all k ≡ Some r → holds (number + 1 + k) r) → (k : ℕ) (r : RowList) → slice_get (first ∷ all) k ≡ Some r → holds (number + k) r
    by first all held rest zero r is = let same : first ≡ r = cc is in subst (holds (number + zero)) same held
    by first all held rest (suc k) r is = let next : number + 1 + k ≡ number + suc k = omega arith in subst (λ n. holds n r) next (rest k r is)

module _ (form : Form) (files : List TableFile) (wanted : List (List Bool)) (schemas : List Schema) (tables : List RowList) (headed : length schemas ≡ length files) (parsed : HaveProjectedRows form files wanted schemas tables) where
  abbrev holds : ℕ → RowList → Type 0
  holds table rows = HoldsAt files schemas table (λ file schema. AreRowsOfTable form schema.columns file.bytes rows)

  whole_at : (table : ℕ) (rows : RowList) → slice_get tables table ≡ Some rows → (whole : RowList) × holds table whole × (rows ≡ projected_rows (wanted_of wanted table) whole)
  whole_at table rows is =
      let here : table < length tables = slice_get_within tables table rows is in
      let (file, is_file) = item_at files table (omega (arith, here, parsed.many)) in
      let (schema, is_schema) = item_at schemas table (omega (arith, here, parsed.many, headed)) in
      let kept = parsed.each table rows is file schema is_file is_schema in (
        kept.whole,
        λ f s at_file at_schema.
            let files_agree : Some file ≡ Some f = sym is_file ∙ at_file in
            let schemas_agree : Some schema ≡ Some s = sym is_schema ∙ at_schema in
            let same : file ≡ f = cc files_agree in
            let like : schema ≡ s = cc schemas_agree in
            subst (λ (q : Schema). AreRowsOfTable form q.columns f.bytes kept.whole) like (subst (λ (q : TableFile). AreRowsOfTable form schema.columns q.bytes kept.whole) same kept.of_table),
        kept.kept,
      )

  -- the whole tables of the kept ones
  pub whole_told : (whole : List RowList) × (tables ≡ projected_from wanted 0 whole) × HaveRows form files schemas whole
  whole_told =
      let (all, are, each) = gathered wanted holds 0 tables (λ k rows is. let number : 0 + k ≡ k = omega arith in rw number (whole_at k rows is)) in (
        all,
        are,
        record {
          many = omega (arith, ap length are, tables_many wanted 0 all, parsed.many);
          each = λ table rows is. let number : 0 + table ≡ table = omega arith in subst (λ n. holds n rows) number (each table rows is);
        },
      )

-- ---- names and headers

module _ (form : Form) (files : List TableFile) (limit : ℕ) (schemas : List Schema) (headed : AreHeaded files schemas) where
  rest_headed : (left : List TableFile) (t : ℕ) (entries : List Entry) (contents : Contents) → drop t files ≡ left → t ≤ length files
      → contents_after form limit (record { tables = take t schemas; entries = entries }) left ≡ Ok contents → contents.tables ≡ schemas
  rest_headed [] t entries contents is upto held =
      let past : length files ≤ t = omega (arith, length-drop t files, ap length is) in
      let same : record { tables = take t schemas; entries = entries } ≡ contents = cc held in
      sym (ap (λ (c : Contents). c.tables) same) ∙ take_all t schemas (omega (arith, past, headed.many))
  rest_headed (file ∷ left) t entries contents is upto held =
      by (entries_after form limit t schema.columns 2 entries (drop 1 (csv_records file.bytes))) refl (λ more. rest_headed left (t + 1) more contents (cc split) (omega (arith, here)))
    where
      here : t < length files
      here = omega (arith, length-drop t files, ap length is)

      split : slice_index_or files t file ∷ drop (t + 1) files ≡ file ∷ left
      split = sym (drop_more files t file here) ∙ is

      is_file : slice_get files t ≡ Some file
      is_file = let same : slice_index_or files t file ≡ file = cc split in slice_get-get_or files t file here ∙ ap Some same

      at : (s : Schema) × (slice_get schemas t ≡ Some s)
      at = item_at schemas t (omega (arith, here, headed.many))

      schema : Schema
      schema = at.0

      number : length (take t schemas) ≡ t
      number = length-take-le t schemas (omega (arith, here, headed.many))

      named : next_name (take t schemas) file.name ≡ Ok schema.name
      named = headed.named t file schema is_file at.1

      by : (r : Result (List Entry) LoadFault) → entries_after form limit t schema.columns 2 entries (drop 1 (csv_records file.bytes)) ≡ r
          → ((more : List Entry) → contents_after form limit (record { tables = take (t + 1) schemas; entries = more }) left ≡ Ok contents → contents.tables ≡ schemas) → contents.tables ≡ schemas
      by (Err fault) parsed rest =
          let contents_fault : table_contents form limit t entries file.bytes ≡ Err fault = read_fault form limit t entries file.bytes schema.columns fault (headed.headed t file schema is_file at.1) parsed in
          let next : next_contents form limit (record { tables = take t schemas; entries = entries }) file ≡ Err fault = rw (named, number, contents_fault) refl in
          let none = rw next at held in
          cc none
      by (Ok more) parsed rest =
          let contents_read : table_contents form limit t entries file.bytes ≡ Ok (schema.columns, more) = read_ok form limit t entries file.bytes schema.columns more (headed.headed t file schema is_file at.1) parsed in
          let more_schemas : take (t + 1) schemas ≡ take t schemas ++ schema ∷ [] = one_more schemas t schema at.1 (omega (arith, here, headed.many)) in
          let next : next_contents form limit (record { tables = take t schemas; entries = entries }) file ≡ Ok (record { tables = take (t + 1) schemas; entries = more }) =
          rw (named, number, contents_read, more_schemas) refl in
          rest more (rw next at held)

  pub headers_held : (contents : Contents) → contents_of form files limit ≡ Ok contents → contents.tables ≡ schemas
  headers_held contents held = rest_headed files 0 [] contents refl (omega arith) held
