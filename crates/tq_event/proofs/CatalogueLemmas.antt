-- Loaded tables are a catalogue, and loaded rows fit them.
use Rattle.std.proofs.Common.{◌≡◌, ◌≢◌, ℕ, ℤ, suc, zero, ◌+◌, ◌-◌, ◌^◌, ◌<◌, ◌≤◌, ◌==◌, ◌&&◌, ◌||◌, not, Bool, true, false, if◌then◌else◌, List, [], ◌∷◌, ◌++◌, Option, Some, None, Ok, Err, length, map, drop, slice_get, nat_le, nat_lt, refl, sym, ap, subst, ◌∙◌, arith, length-append}
use Rattle.std.specs.Prelude.{All, AllPairs, IfSome, IsSomeAnd, FitsSigned, pos, neg_ℤ, option_map}
use Rattle.std.specs.Int.{w64}
use Rattle.std.specs.List.{after_first, before_first}
use Rattle.std.specs.Str.{bytes_eq, is_utf8}
use Rattle.std.specs.Str.Parse.{digits_value}
use Rattle.std.proofs.lemmas.Bool.{or_parts}
use Rattle.std.proofs.lemmas.Bool.Decides.{nat_tests}
use Rattle.std.proofs.lemmas.List.{length-take-le, map-append, append-nil, append_assoc}
use Rattle.std.proofs.lemmas.List.Elements.{All-nil, All-cons, All-push, All-weaker}
use Rattle.std.proofs.lemmas.List.Quantifiers.{all_pairs_push}
use Rattle.tq_base.specs.declared.catalogue.Catalogue.{Catalogue}
use Rattle.tq_base.specs.declared.catalogue.Column.{Column}
use Rattle.tq_base.specs.declared.catalogue.Kind.{Kind}
use Rattle.tq_base.specs.declared.catalogue.Kind.TheVariants as kind
use Rattle.tq_base.specs.declared.catalogue.Schema.{Schema}
use Rattle.tq_base.specs.declared.value.Value.{Value}
use Rattle.tq_base.specs.Contents.{Int, Text}
use Rattle.tq_base.specs.Catalogues.{Fit, IsCatalogue, IsOfKind, IsTable}
use Rattle.tq_base.specs.Names.{folded_name}
use Rattle.tq_base.specs.Numbers.{int_of, is_numeral, natural_up_to}
use Rattle.tq_base.specs.Results.{and_then}
use Rattle.tq_base.specs.declared.form.Form.{Form}
use Rattle.tq_event.specs.Entries.{Entry}
use Rattle.tq_event.specs.declared.fault.LoadFaultKind.TheVariants.{BadHeader, DuplicateName, FieldCount, NotUtf8, TextTooLong, TooManyColumns, TooManyTables}
use Rattle.tq_event.specs.declared.file.TableFile.{TableFile}
use Rattle.tq_event.specs.Loading.{Contents, at_record, kind_of, make_column, column_of, columns_after, columns_of, contents_after, contents_of, csv_records, entries_after, entry_of, first_header, has_column, has_table, header_of, has_two_boms, is_period_header, is_text, next_columns, next_contents, next_name, number_value, period_fields, period_of, table_contents, table_name, value_fields, value_of, values_after}
use Rattle.tq_event.specs.Laws.{HasFoldedNames, IsFoldedName}
use Rattle.tq_event.proofs.LoadedLemmas.{all_entries, at_record_passed, entry_is_of, passed}

bytes_eq-self : (bytes : List ℕ) → bytes_eq bytes bytes ≡ true
bytes_eq-self [] = refl
bytes_eq-self (b ∷ bs) = let same : (b == b) ≡ true = grind (arith, nat_tests) in rw (same, bytes_eq-self bs) refl

differs : (a b : List ℕ) → bytes_eq a b ≡ false → a ≢ b
differs a b e same =
    let yes : bytes_eq a b ≡ true = subst (λ c. bytes_eq a c ≡ true) same (bytes_eq-self a) in
    cc (yes, e)

-- ---- columns

abbrev column_names : List Column → List (List ℕ)
column_names columns = map (λ (c : Column). c.name) columns

no_column : (columns : List Column) (name : List ℕ) → has_column columns name ≡ false → All (λ n. n ≢ name) (column_names columns)
no_column [] name e = All-nil (λ n. n ≢ name)
no_column (c ∷ columns) name e =
    let parts = or_parts (bytes_eq c.name name) (has_column columns name) e in
    All-cons (λ n. n ≢ name) c.name (column_names columns) (differs c.name name parts.0) (no_column columns name parts.1)

-- columns with different names, the first an integer column
record AreColumns (columns : List Column) : Type 0 where
  pub names : AllPairs (λ a b. a ≢ b) (column_names columns)
  pub key : IfSome (slice_get columns 0) (λ c. c.kind ≡ kind.Int)
  pub folded : All (λ c. IsFoldedName c.name) columns

-- a column's name is folded
column_folded : (field : List ℕ) (c : Column) → column_of field ≡ Some c → IsFoldedName c.name
column_folded field c e = by (folded_name (before_first (λ b. b == 58) field)) refl (kind_of (after_first (λ b. b == 58) field)) e
  where
    by : (o : Option (List ℕ)) → folded_name (before_first (λ b. b == 58) field) ≡ o → (k : Option Kind) → make_column o k ≡ Some c → IsFoldedName c.name
    by None i k e = cc
    by (Some name) i None e = cc
    by (Some name) i (Some k) e =
        let same : record { name = name; kind = k } ≡ c = cc (e) in
        (before_first (λ b. b == 58) field, i ∙ ap (λ (x : Column). Some x.name) same)

pushed_names : (columns : List Column) (c : Column) → AllPairs (λ a b. a ≢ b) (column_names columns) → has_column columns c.name ≡ false → AllPairs (λ a b. a ≢ b) (column_names (columns ++ c ∷ []))
pushed_names columns c names none =
    subst (AllPairs (λ a b. a ≢ b)) (sym (map-append (λ (x : Column). x.name) columns (c ∷ [])))
    (all_pairs_push (λ a b. a ≢ b) (column_names columns) c.name names (no_column columns c.name none))

int_kind : (k : Kind) → is_text k ≡ false → k ≡ kind.Int
int_kind kind.Int e = refl
int_kind kind.Text e = cc

pushed_key : (columns : List Column) (c : Column) → IfSome (slice_get columns 0) (λ d. d.kind ≡ kind.Int) → ((length columns == 0) && is_text c.kind) ≡ false → IfSome (slice_get (columns ++ c ∷ []) 0) (λ d. d.kind ≡ kind.Int)
pushed_key [] c key e = int_kind c.kind e
pushed_key (d ∷ columns) c key e = key

column_step : (columns more : List Column) (o : Option Column) → ((c : Column) → o ≡ Some c → IsFoldedName c.name) → next_columns columns o ≡ Ok more → AreColumns columns → AreColumns more × (length more ≡ length columns + 1)
column_step columns more None folded e are = cc
column_step columns more (Some c) folded e are = by ((length columns == 0) && is_text c.kind) refl (has_column columns c.name) refl e
  where
    by : (t : Bool) → ((length columns == 0) && is_text c.kind) ≡ t → (u : Bool) → has_column columns c.name ≡ u
        → (if t then Err BadHeader else (if u then Err DuplicateName else Ok (columns ++ c ∷ []))) ≡ Ok more → AreColumns more × (length more ≡ length columns + 1)
    by true i u j e = cc
    by false i true j e = cc
    by false i false j e =
        let same : columns ++ c ∷ [] ≡ more = cc (e) in
        subst (λ cs. AreColumns cs × (length cs ≡ length columns + 1)) same
        (record { names = pushed_names columns c are.names j; key = pushed_key columns c are.key i; folded = All-push (λ (x : Column). IsFoldedName x.name) columns c are.folded (folded c refl) }, length-append columns (c ∷ []))

columns_step : (columns : List Column) (fields : List (List ℕ)) (out : List Column) → columns_after columns fields ≡ Ok out → AreColumns columns → AreColumns out × (length out ≡ length columns + length fields)
columns_step columns [] out e are =
    let same : columns ≡ out = cc (e) in
    subst (λ cs. AreColumns cs × (length cs ≡ length columns + 0)) same (are, omega arith)
columns_step columns (field ∷ fields) out e are =
    let p = passed (next_columns columns (column_of field)) _ out e in
    let one = column_step columns p.value (column_of field) (column_folded field) p.was are in
    let rest = columns_step p.value fields out p.then_is one.0 in
    (rest.0, omega (arith, one.1, rest.1))

no_columns : AreColumns []
no_columns = record { names = λ i j d lt below. absurd (omega arith); key = tt; folded = All-nil (λ (c : Column). IsFoldedName c.name) }

-- 1 to 16 columns
record AreTableColumns (columns : List Column) : Type 0 where
  pub are : AreColumns columns
  pub some : 0 < length columns
  pub few : length columns ≤ 16

header_columns : (fields : List (List ℕ)) (out : List Column) → header_of fields ≡ Ok out → AreTableColumns out
header_columns fields out e = by (nat_lt (length fields) 3) refl (is_period_header (period_fields fields)) (nat_lt 16 (length (value_fields fields))) refl e
  where
    by : (t : Bool) → nat_lt (length fields) 3 ≡ t → (u : Bool) (v : Bool) → nat_lt 16 (length (value_fields fields)) ≡ v
        → (if t || not u then Err BadHeader else (if v then Err TooManyColumns else columns_after [] (value_fields fields))) ≡ Ok out → AreTableColumns out
    by true i u v j e = cc
    by false i false v j e = cc
    by false i true true j e = cc
    by false i true false j e =
        let wide : 3 ≤ length fields = grind (arith, nat_tests) in
        let few : length (value_fields fields) ≤ 16 = grind (arith, nat_tests) in
        let read = columns_step [] (value_fields fields) out e no_columns in
        let len = length-take-le (length fields - 2) fields (omega (arith, wide)) in
        record { are = read.0; some = omega (arith, read.1, len, wide); few = omega (arith, read.1, few) }

file_columns : (bytes : List ℕ) (out : List Column) → columns_of bytes ≡ Ok out → AreTableColumns out
file_columns bytes out e = by (has_two_boms bytes) e
  where
    first : (records : List (List (List ℕ))) → first_header records ≡ Ok out → AreTableColumns out
    first [] e = cc
    first (fields ∷ rest) e = header_columns fields out e

    by : (t : Bool) → (if t then Err BadHeader else first_header (csv_records bytes)) ≡ Ok out → AreTableColumns out
    by true e = cc
    by false e = first (csv_records bytes) e

-- ---- tables

abbrev table_names : List Schema → List (List ℕ)
table_names tables = map (λ (s : Schema). s.name) tables

no_table : (tables : List Schema) (name : List ℕ) → has_table tables name ≡ false → All (λ n. n ≢ name) (table_names tables)
no_table [] name e = All-nil (λ n. n ≢ name)
no_table (s ∷ tables) name e =
    let parts = or_parts (bytes_eq s.name name) (has_table tables name) e in
    All-cons (λ n. n ≢ name) s.name (table_names tables) (differs s.name name parts.0) (no_table tables name parts.1)

record IsNewName (tables : List Schema) (name : List ℕ) : Type 0 where
  pub few : length tables < 16
  pub new : All (λ n. n ≢ name) (table_names tables)
  pub folded : IsFoldedName name

new_name : (tables : List Schema) (name read : List ℕ) → next_name tables name ≡ Ok read → IsNewName tables read
new_name tables name read e = by (nat_lt (length tables) 16) refl e
  where
    free : (n : List ℕ) (u : Bool) → has_table tables n ≡ u → (if u then Err DuplicateName else Ok n) ≡ Ok read → All (λ m. m ≢ read) (table_names tables)
    free n true j e = cc
    free n false j e = let same : n ≡ read = cc (e) in subst (λ m. All (λ x. x ≢ m) (table_names tables)) same (no_table tables n j)

    named : (o : Option (List ℕ)) → table_name tables o ≡ Ok read → All (λ m. m ≢ read) (table_names tables)
    named None e = cc
    named (Some n) e = free n (has_table tables n) refl e

    written : (o : Option (List ℕ)) → folded_name name ≡ o → table_name tables o ≡ Ok read → IsFoldedName read
    written None i e = cc
    written (Some n) i e = one (has_table tables n) e
      where
        one : (u : Bool) → (if u then Err DuplicateName else Ok n) ≡ Ok read → IsFoldedName read
        one true e = cc
        one false e = let same : n ≡ read = cc (e) in (name, i ∙ ap Some same)

    by : (t : Bool) → nat_lt (length tables) 16 ≡ t → (if t then table_name tables (folded_name name) else Err TooManyTables) ≡ Ok read → IsNewName tables read
    by true i e = record { few = grind (arith, nat_tests); new = named (folded_name name) e; folded = written (folded_name name) refl e }
    by false i e = cc

-- the tables of a catalogue
pub record AreTables (tables : List Schema) : Type 0 where
  pub few : length tables ≤ 16
  pub names : AllPairs (λ a b. a ≢ b) (table_names tables)
  pub each : All IsTable tables
  pub folded : All HasFoldedNames tables

pushed_table : (tables : List Schema) (s : Schema) → AreTables tables → IsNewName tables s.name → IsTable s → HasFoldedNames s → AreTables (tables ++ s ∷ [])
pushed_table tables s are new is names = record {
  few = omega (arith, length-append tables (s ∷ []), new.few);
  names = subst (AllPairs (λ a b. a ≢ b)) (sym (map-append (λ (x : Schema). x.name) tables (s ∷ [])))
      (all_pairs_push (λ a b. a ≢ b) (table_names tables) s.name are.names new.new);
  each = All-push IsTable tables s are.each is;
  folded = All-push HasFoldedNames tables s are.folded names;
}

-- ---- values

natural_below : (limit : ℕ) (bytes : List ℕ) (n : ℕ) → natural_up_to limit bytes ≡ Some n → n ≤ limit
natural_below limit bytes n e = by (is_numeral bytes) (nat_le (digits_value 10 bytes) limit) refl e
  where
    by : (t u : Bool) → nat_le (digits_value 10 bytes) limit ≡ u → (if t && u then Some (digits_value 10 bytes) else None) ≡ Some n → n ≤ limit
    by false u i e = cc
    by true false i e = cc
    by true true i e =
        let same : digits_value 10 bytes ≡ n = cc (e) in
        let le : digits_value 10 bytes ≤ limit = grind (arith, nat_tests) in
        omega (arith, same, le)

fits_up : (n : ℕ) → n ≤ 2 ^ 63 - 1 → FitsSigned w64 (pos n)
fits_up n le = record { sfits = omega (arith, le) }

fits_down : (n : ℕ) → n ≤ 2 ^ 63 → FitsSigned w64 (neg_ℤ (pos n))
fits_down zero le = record { sfits = omega arith }
fits_down (suc n) le = record { sfits = omega (arith, le) }

int_fits : (bytes : List ℕ) (z : ℤ) → int_of bytes ≡ Some z → FitsSigned w64 z
int_fits [] z e = cc
int_fits (b ∷ bs) z e = by (b == 45) e
  where
    down : (o : Option ℕ) → ((n : ℕ) → o ≡ Some n → n ≤ 2 ^ 63) → option_map (λ n. neg_ℤ (pos n)) o ≡ Some z → FitsSigned w64 z
    down None le e = cc
    down (Some n) le e = let same : neg_ℤ (pos n) ≡ z = cc (e) in subst (FitsSigned w64) same (fits_down n (le n refl))

    up : (o : Option ℕ) → ((n : ℕ) → o ≡ Some n → n ≤ 2 ^ 63 - 1) → option_map pos o ≡ Some z → FitsSigned w64 z
    up None le e = cc
    up (Some n) le e = let same : pos n ≡ z = cc (e) in subst (FitsSigned w64) same (fits_up n (le n refl))

    by : (t : Bool) → (if t then option_map (λ n. neg_ℤ (pos n)) (natural_up_to (2 ^ 63) bs) else option_map pos (natural_up_to (2 ^ 63 - 1) (b ∷ bs))) ≡ Some z → FitsSigned w64 z
    by true e = down (natural_up_to (2 ^ 63) bs) (natural_below (2 ^ 63) bs) e
    by false e = up (natural_up_to (2 ^ 63 - 1) (b ∷ bs)) (natural_below (2 ^ 63 - 1) (b ∷ bs)) e

value_fits : (k : Kind) (field : List ℕ) (v : Value) → value_of k field ≡ Ok v → IsOfKind k v
value_fits kind.Int field v e = by (int_of field) refl e
  where
    by : (o : Option ℤ) → int_of field ≡ o → number_value o ≡ Ok v → IsOfKind kind.Int v
    by None i e = cc
    by (Some z) i e = let same : Int z ≡ v = cc (e) in subst (IsOfKind kind.Int) same (int_fits field z i)
value_fits kind.Text field v e = by (is_utf8 field) (nat_lt 1000 (length field)) refl e
  where
    by : (t u : Bool) → nat_lt 1000 (length field) ≡ u → (if not t then Err NotUtf8 else (if u then Err TextTooLong else Ok (Text field))) ≡ Ok v → IsOfKind kind.Text v
    by false u i e = cc
    by true true i e = cc
    by true false i e =
        let same : Text field ≡ v = cc (e) in
        let le : length field ≤ 1000 = grind (arith, nat_tests) in
        subst (IsOfKind kind.Text) same le

-- the values after these fit the columns
record FitAfter (values : List Value) (columns : List Column) (out : List Value) : Type 0 where
  pub rest : List Value
  pub is : out ≡ values ++ rest
  pub fit : Fit columns rest

values_fit : (values : List Value) (columns : List Column) (fields : List (List ℕ)) (out : List Value) → length fields ≡ length columns → values_after values columns fields ≡ Ok out → FitAfter values columns out
values_fit values [] fields out len e =
    let same : values ≡ out = cc (e) in
    record { rest = []; is = sym same ∙ sym (append-nil values); fit = tt }
values_fit values (c ∷ columns) [] out len e = absurd (omega arith)
values_fit values (c ∷ columns) (field ∷ fields) out len e =
    let p = passed (value_of c.kind field) _ out e in
    let more = values_fit (values ++ p.value ∷ []) columns fields out (omega (arith, len)) p.then_is in
    record { rest = p.value ∷ more.rest; is = more.is ∙ append_assoc values (p.value ∷ []) more.rest; fit = (value_fits c.kind field p.value p.was, more.fit) }

entry_fits : (form : Form) (table : ℕ) (columns : List Column) (fields : List (List ℕ)) (e : Entry) → entry_of form table columns fields ≡ Ok e → Fit columns e.values
entry_fits form table columns fields e is = by (length fields == length columns + 2) refl is
  where
    made : (values : List Value) → Fit columns values → and_then (period_of form (period_fields fields)) (λ period. Ok (record { table = table; values = values; from = period.0; to = period.1 })) ≡ Ok e → Fit columns e.values
    made values fit m =
        let p = passed (period_of form (period_fields fields)) _ e m in
        let same : record { table = table; values = values; from = p.value.0; to = p.value.1 } ≡ e = cc (p.then_is) in
        subst (λ (x : Entry). Fit columns x.values) same fit

    by : (t : Bool) → (length fields == length columns + 2) ≡ t → (if not t then Err FieldCount else and_then (values_after [] columns (value_fields fields)) (λ values.
        and_then (period_of form (period_fields fields)) (λ period.
        Ok (record { table = table; values = values; from = period.0; to = period.1 })))) ≡ Ok e → Fit columns e.values
    by false i j = cc
    by true i j =
        let wide : length fields ≡ length columns + 2 = grind (arith, nat_tests) in
        let v = passed (values_after [] columns (value_fields fields)) _ e j in
        let len = length-take-le (length fields - 2) fields (omega arith) in
        let after = values_fit [] columns (value_fields fields) v.value (omega (arith, len, wide)) v.was in
        made v.value (subst (Fit columns) (sym after.is) after.fit) v.then_is

-- ---- rows

-- the catalogue has the row's table, and its columns accept the values
abbrev pub Stored : List Schema → Entry → Type 0
Stored tables e = IsSomeAnd (slice_get tables e.table) (λ (s : Schema). Fit s.columns e.values)

stored_more : (tables more : List Schema) (e : Entry) → Stored tables e → Stored (tables ++ more) e
stored_more tables more e is = kept tables e.table is
  where
    kept : (ts : List Schema) (n : ℕ) → IsSomeAnd (slice_get ts n) (λ (s : Schema). Fit s.columns e.values) → IsSomeAnd (slice_get (ts ++ more) n) (λ (s : Schema). Fit s.columns e.values)
    kept [] n is = absurd is
    kept (t ∷ ts) zero is = is
    kept (t ∷ ts) (suc n) is = kept ts n is

last_table : (tables : List Schema) (s : Schema) → slice_get (tables ++ s ∷ []) (length tables) ≡ Some s
last_table [] s = refl
last_table (t ∷ tables) s = last_table tables s

stored_last : (tables : List Schema) (s : Schema) (e : Entry) → e.table ≡ length tables → Fit s.columns e.values → Stored (tables ++ s ∷ []) e
stored_last tables s e at fit =
    subst (λ o. IsSomeAnd o (λ (x : Schema). Fit x.columns e.values)) (sym (ap (slice_get (tables ++ s ∷ [])) at ∙ last_table tables s)) fit

pub record AreLoaded (contents : Contents) : Type 0 where
  pub tables : AreTables contents.tables
  pub stored : All (Stored contents.tables) contents.entries

file_loaded : (form : Form) (limit : ℕ) (before after : Contents) (file : TableFile) → next_contents form limit before file ≡ Ok after → AreLoaded before → AreLoaded after
file_loaded form limit before after file is good =
    let table = length before.tables in
    let a = passed (at_record table 0 (next_name before.tables file.name)) _ after is in
    let b = passed (table_contents form limit table before.entries file.bytes) _ after a.then_is in
    let c = passed (at_record table 1 (columns_of file.bytes)) _ b.value b.was in
    let d = passed (entries_after form limit table c.value 2 before.entries (drop 1 (csv_records file.bytes))) _ b.value c.then_is in
    let read : (c.value, d.value) ≡ b.value = cc (d.then_is) in
    let same : record { tables = before.tables ++ record { name = a.value; columns = b.value.0 } ∷ []; entries = b.value.1 } ≡ after = cc (b.then_is) in
    subst AreLoaded same
    (subst (λ r. AreLoaded (record { tables = before.tables ++ record { name = a.value; columns = r.0 } ∷ []; entries = r.1 })) read
    (made a.value c.value d.value (new_name before.tables file.name a.value (at_record_passed table 0 _ a.value a.was)) (file_columns file.bytes c.value (at_record_passed table 1 _ c.value c.was)) d.was))
  where
    made : (name : List ℕ) (columns : List Column) (entries : List Entry) → IsNewName before.tables name → AreTableColumns columns
        → entries_after form limit (length before.tables) columns 2 before.entries (drop 1 (csv_records file.bytes)) ≡ Ok entries
        → AreLoaded (record { tables = before.tables ++ record { name = name; columns = columns } ∷ []; entries = entries })
    made name columns entries new are e =
        let s : Schema = record { name = name; columns = columns } in
        record {
          tables = pushed_table before.tables s good.tables new (record { some = are.some; few = are.few; names = are.are.names; key = are.are.key }) (new.folded, are.are.folded);
          stored = all_entries form limit (length before.tables) columns (Stored (before.tables ++ s ∷ []))
              (λ fields x parsed. stored_last before.tables s x (entry_is_of form (length before.tables) columns fields x parsed).1 (entry_fits form (length before.tables) columns fields x parsed))
              2 before.entries (drop 1 (csv_records file.bytes)) entries e
              (All-weaker (Stored before.tables) (Stored (before.tables ++ s ∷ [])) (λ x is. stored_more before.tables (s ∷ []) x is) before.entries good.stored);
        }

files_loaded : (form : Form) (limit : ℕ) (before after : Contents) (files : List TableFile) → contents_after form limit before files ≡ Ok after → AreLoaded before → AreLoaded after
files_loaded form limit before after [] is good = let same : before ≡ after = cc (is) in subst AreLoaded same good
files_loaded form limit before after (file ∷ files) is good =
    let a = passed (next_contents form limit before file) _ after is in
    files_loaded form limit a.value after files a.then_is (file_loaded form limit before a.value file a.was good)

pub contents_loaded : (form : Form) (limit : ℕ) (files : List TableFile) (contents : Contents) → contents_of form files limit ≡ Ok contents → AreLoaded contents
contents_loaded form limit files contents is =
    files_loaded form limit (record { tables = []; entries = [] }) contents files is
    (record { tables = record { few = omega arith; names = λ i j d lt below. absurd (omega arith); each = All-nil IsTable; folded = All-nil HasFoldedNames }; stored = All-nil (Stored []) })

pub is_catalogue : (catalogue : Catalogue) (tables : List Schema) → catalogue.tables ≡ tables → AreTables tables → IsCatalogue catalogue
is_catalogue catalogue tables same are =
    let there : AreTables catalogue.tables = subst AreTables (sym same) are in
    record { few = there.few; names = there.names; each = there.each }

pub are_folded : (catalogue : Catalogue) (tables : List Schema) → catalogue.tables ≡ tables → AreTables tables → All HasFoldedNames catalogue.tables
are_folded catalogue tables same are = subst (All HasFoldedNames) (sym same) are.folded
