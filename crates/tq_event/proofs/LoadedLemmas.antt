-- Facts about loaded entries.
use Rattle.std.proofs.Common.{◌≡◌, ℕ, ◌+◌, ◌*◌, ◌<◌, ◌≤◌, ◌==◌, Bool, true, false, not, if◌then◌else◌, List, [], ◌∷◌, ◌++◌, Option, Some, None, Result, Ok, Err, length, drop, nat_lt, sum_by, refl, sym, ap, subst, arith, length-append}
use Rattle.std.specs.Prelude.{All}
use Rattle.std.proofs.lemmas.Bool.Decides.{nat_tests}
use Rattle.std.proofs.lemmas.List.Elements.{All-nil, All-push, All-weaker}
use Rattle.std.proofs.lemmas.List.Sums.{sum_by-cons}
use Rattle.tq_base.specs.declared.catalogue.Column.{Column}
use Rattle.tq_base.specs.declared.period.TheConstants.{FOREVER}
use Rattle.tq_base.specs.declared.value.Value.{Value}
use Rattle.tq_base.specs.Numbers.{bound_of, instant_of}
use Rattle.tq_base.specs.Results.{and_then}
use Rattle.tq_base.specs.declared.form.Form.{Form}
use Rattle.tq_event.specs.Entries.{Entry}
use Rattle.tq_event.specs.declared.fault.LoadFaultKind.{LoadFaultKind}
use Rattle.tq_event.specs.declared.fault.LoadFaultKind.TheVariants.{FieldCount, TooManyEvents, BadPeriod}
use Rattle.tq_event.specs.declared.file.TableFile.{TableFile}
use Rattle.tq_event.specs.Loading.{Contents, at_record, columns_of, contents_after, contents_of, csv_records, entries_after, entry_of, event_count, make_period, next_contents, next_entries, next_name, period_fields, period_of, table_contents, value_fields, values_after}

-- a check that succeeded
pub record Passed {A B E : Type 0} (r : Result A E) (next : A → Result B E) (b : B) : Type 0 where
  pub value : A
  pub was : r ≡ Ok value
  pub then_is : next value ≡ Ok b

pub passed : {A B E : Type 0} (r : Result A E) (next : A → Result B E) (b : B) → and_then r next ≡ Ok b → Passed r next b
passed (Ok value) next b e = record { value = value; was = refl; then_is = e }
passed (Err fault) next b e = cc

pub at_record_passed : {A : Type 0} (table number : ℕ) (r : Result A LoadFaultKind) (a : A) → at_record table number r ≡ Ok a → r ≡ Ok a
at_record_passed table number (Ok value) a e = let same : value ≡ a = cc in ap Ok same
at_record_passed table number (Err fault) a e = cc

period_orders : (a b : Option ℕ) (p : ℕ × ℕ) → make_period a b ≡ Ok p → p.0 < p.1
period_orders None b p e = cc
period_orders (Some from) None p e = cc
period_orders (Some from) (Some to) p e = by (nat_lt from to) refl e
  where
    by : (t : Bool) → nat_lt from to ≡ t → (let r : Result (ℕ × ℕ) LoadFaultKind = if t then Ok (from, to) else Err BadPeriod in r ≡ Ok p) → p.0 < p.1
    by true t e =
        let first : from ≡ p.0 = cc in
        let second : to ≡ p.1 = cc in
        let less : from < to = grind (arith, nat_tests) in
        omega (arith, first, second, less)
    by false t e = cc

period_of_orders : (form : Form) (fields : List (List ℕ)) (p : ℕ × ℕ) → period_of form fields ≡ Ok p → p.0 < p.1
period_of_orders form [] p e = cc
period_of_orders form (a ∷ []) p e = cc
period_of_orders form (a ∷ b ∷ rest) p e = period_orders (instant_of form a) (bound_of form b) p e

-- an entry has a valid period, and its table is the one that was read
pub entry_is_of : (form : Form) (table : ℕ) (columns : List Column) (fields : List (List ℕ)) (e : Entry) → entry_of form table columns fields ≡ Ok e → (e.from < e.to) × (e.table ≡ table)
entry_is_of form table columns fields e is = by (not (length fields == length columns + 2)) is
  where
    made : (values : List Value) → and_then (period_of form (period_fields fields)) (λ period. Ok (record { table = table; values = values; from = period.0; to = period.1 })) ≡ Ok e → (e.from < e.to) × (e.table ≡ table)
    made values m =
        let p = passed (period_of form (period_fields fields)) _ e m in
        let less = period_of_orders form (period_fields fields) p.value p.was in
        let same : record { table = table; values = values; from = p.value.0; to = p.value.1 } ≡ e = cc (p.then_is) in
        (omega (arith, less, ap (λ (x : Entry). x.from) same, ap (λ (x : Entry). x.to) same), sym (ap (λ (x : Entry). x.table) same))

    by : (t : Bool) → (if t then Err FieldCount else and_then (values_after [] columns (value_fields fields)) (λ values.
        and_then (period_of form (period_fields fields)) (λ period.
        Ok (record { table = table; values = values; from = period.0; to = period.1 })))) ≡ Ok e → (e.from < e.to) × (e.table ≡ table)
    by true i = cc
    by false i = let v = passed (values_after [] columns (value_fields fields)) _ e i in made v.value v.then_is

-- what holds of the entry of each record holds of all entries that were read, and these stay within the limit
module _ (form : Form) (limit table : ℕ) (columns : List Column) (P : Entry → Type 0) (tells : (fields : List (List ℕ)) (e : Entry) → entry_of form table columns fields ≡ Ok e → P e) where
  pub all_entries : (number : ℕ) (before : List Entry) (records : List (List (List ℕ))) (after : List Entry)
      → entries_after form limit table columns number before records ≡ Ok after → All P before → All P after
  all_entries number before [] after is all = let same : before ≡ after = cc in subst (All P) same all
  all_entries number before (fields ∷ records) after is all =
      let step = passed (at_record table number (and_then (entry_of form table columns fields) (next_entries limit before))) _ after is in
      let inner = passed (entry_of form table columns fields) (next_entries limit before) step.value (at_record_passed table number _ step.value step.was) in
      all_entries (number + 1) step.value records after step.then_is (pushed inner.value step.value inner.then_is (tells fields inner.value inner.was))
    where
      by : (e : Entry) (more : List Entry) (t : Bool) → (if t then Err TooManyEvents else Ok (before ++ e ∷ [])) ≡ Ok more → P e → All P more
      by e more true i p = cc
      by e more false i p = let same : before ++ e ∷ [] ≡ more = cc in subst (All P) same (All-push P before e all p)

      pushed : (e : Entry) (more : List Entry) → next_entries limit before e ≡ Ok more → P e → All P more
      pushed e more i p = by e more (nat_lt limit (sum_by event_count before + event_count e)) i p

-- each entry has a valid period, and belongs to one of the tables
abbrev pub Placeable : ℕ → Entry → Type 0
Placeable tables e = (e.from < e.to) × (e.table < tables)

table_placeable : (form : Form) (limit table : ℕ) (before : List Entry) (bytes : List ℕ) (read : List Column × List Entry) → table_contents form limit table before bytes ≡ Ok read
    → All (Placeable table) before → All (Placeable (table + 1)) read.1
table_placeable form limit table before bytes read is good =
    let a = passed (at_record table 1 (columns_of bytes)) _ read is in
    let b = passed (entries_after form limit table a.value 2 before (drop 1 (csv_records bytes))) _ read a.then_is in
    let same : b.value ≡ read.1 = cc (b.then_is) in
    subst (All (Placeable (table + 1))) same
    (all_entries form limit table a.value (Placeable (table + 1)) (λ fields e parsed. let of = entry_is_of form table a.value fields e parsed in (of.0, omega (arith, of.1)))
    2 before (drop 1 (csv_records bytes)) b.value b.was
    (All-weaker (Placeable table) (Placeable (table + 1)) (λ e p. (p.0, omega (arith, p.1))) before good))

file_placeable : (form : Form) (limit : ℕ) (before after : Contents) (file : TableFile) → next_contents form limit before file ≡ Ok after
    → All (Placeable (length before.tables)) before.entries → All (Placeable (length after.tables)) after.entries
file_placeable form limit before after file is good =
    let table = length before.tables in
    let a = passed (at_record table 0 (next_name before.tables file.name)) _ after is in
    let b = passed (table_contents form limit table before.entries file.bytes) _ after a.then_is in
    let same : record { tables = before.tables ++ record { name = a.value; columns = b.value.0 } ∷ []; entries = b.value.1 } ≡ after = cc (b.then_is) in
    subst (λ (c : Contents). All (Placeable (length c.tables)) c.entries) same
    (All-weaker (Placeable (table + 1)) (Placeable (length (before.tables ++ record { name = a.value; columns = b.value.0 } ∷ [])))
    (λ e p. (p.0, omega (arith, p.1, length-append before.tables (record { name = a.value; columns = b.value.0 } ∷ [])))) b.value.1
    (table_placeable form limit table before.entries file.bytes b.value b.was good))

files_placeable : (form : Form) (limit : ℕ) (before after : Contents) (files : List TableFile) → contents_after form limit before files ≡ Ok after
    → All (Placeable (length before.tables)) before.entries → All (Placeable (length after.tables)) after.entries
files_placeable form limit before after [] is good = let same : before ≡ after = cc in subst (λ (c : Contents). All (Placeable (length c.tables)) c.entries) same good
files_placeable form limit before after (file ∷ files) is good =
    let a = passed (next_contents form limit before file) _ after is in
    files_placeable form limit a.value after files a.then_is (file_placeable form limit before a.value file a.was good)

pub contents_placeable : (form : Form) (limit : ℕ) (files : List TableFile) (contents : Contents) → contents_of form files limit ≡ Ok contents → All (Placeable (length contents.tables)) contents.entries
contents_placeable form limit files contents is =
    files_placeable form limit (record { tables = []; entries = [] }) contents files is (All-nil (Placeable 0))

-- n entries make at least n and at most 2n events
pub entries_within : (entries : List Entry) → (length entries ≤ sum_by event_count entries) × (sum_by event_count entries ≤ 2 * length entries)
entries_within [] = (omega arith, omega arith)
entries_within (e ∷ entries) =
    let rest = entries_within entries in
    let one = one_or_two (e.to == FOREVER) in
    (omega (arith, rest, one, sum_by-cons event_count e entries), omega (arith, rest, one, sum_by-cons event_count e entries))
  where
    one_or_two : (b : Bool) → (1 ≤ (if b then 1 else 2)) × ((if b then 1 else 2) ≤ 2)
    one_or_two true = (omega arith, omega arith)
    one_or_two false = (omega arith, omega arith)
