-- The times of events from files in dates have dates.
use Rattle.std.proofs.Common.{◌≡◌, ◌≢◌, ℕ, ◌+◌, ◌≤◌, ◌==◌, Bool, true, false, not, if◌then◌else◌, List, [], ◌∷◌, ◌++◌, Option, Some, None, Result, Ok, Err, length, drop, inl, inr, nat_lt, slice_get, refl, ap, subst, ◌∙◌, arith}
use Rattle.std.specs.Prelude.{All, IsSomeAnd}
use Rattle.std.specs.List.{AllZip}
use Rattle.std.proofs.lemmas.Bool.Decides.{nat_tests}
use Rattle.std.proofs.lemmas.List.Elements.{All-nil, All-cons, All-append, All-head, All-tail}
use Rattle.std.proofs.lemmas.List.Sorted.{All-permutation}
use Rattle.tq_base.specs.declared.catalogue.Column.{Column}
use Rattle.tq_base.specs.declared.form.Form.TheVariants.{Dates}
use Rattle.tq_base.specs.declared.dates.TheConstants.{LAST_DAY}
use Rattle.tq_base.specs.declared.period.TheConstants.{FOREVER}
use Rattle.tq_base.specs.declared.value.Value.{Value}
use Rattle.tq_base.specs.Numbers.{bound_of, instant_of, DatesRoundTrip, IsDated}
use Rattle.tq_base.specs.Results.{and_then}
use Rattle.tq_event.specs.Entries.{Entry}
use Rattle.tq_event.specs.declared.event.Event.{Event}
use Rattle.tq_event.specs.declared.event.Event.TheVariants.{Start, End}
use Rattle.tq_event.specs.declared.fault.LoadFaultKind.{LoadFaultKind}
use Rattle.tq_event.specs.declared.fault.LoadFaultKind.TheVariants.{FieldCount, BadPeriod}
use Rattle.tq_event.specs.declared.file.TableFile.{TableFile}
use Rattle.tq_event.specs.declared.endpoint.Endpoint.{Endpoint}
use Rattle.tq_event.specs.History.{time_of}
use Rattle.tq_event.specs.Laws.{LoadedAreDated}
use Rattle.tq_event.specs.Loading.{Contents, IsEventAt, at_record, columns_of, contents_after, csv_records, entries_after, entry_of, event_at, make_period, endpoints_from, endpoints_of_entry, next_contents, next_name, period_fields, period_of, table_contents, value_fields, values_after}
use Rattle.tq_event.proofs.LoadedLemmas.{all_entries, passed}

-- the entry begins at a day with a date, and ends at one or never
abbrev Dated : Entry → Type 0
Dated e = (e.from ≤ LAST_DAY) × ((e.to == FOREVER) ≡ false → e.to ≤ LAST_DAY)

-- ---- records

made_of : (a b : Option ℕ) (p : ℕ × ℕ) → make_period a b ≡ Ok p → (a ≡ Some p.0) × (b ≡ Some p.1)
made_of None b p e = absurd cc
made_of (Some from) None p e = absurd cc
made_of (Some from) (Some to) p e = by (nat_lt from to) e
  where
    by : (t : Bool) → (let r : Result (ℕ × ℕ) LoadFaultKind = if t then Ok (from, to) else Err BadPeriod in r ≡ Ok p) → (Some from ≡ Some p.0) × (Some to ≡ Some p.1)
    by true m =
        let same : (from, to) ≡ p = cc in
        (ap (λ (q : ℕ × ℕ). Some q.0) same, ap (λ (q : ℕ × ℕ). Some q.1) same)
    by false m = absurd cc

ends_dated : (to : ℕ) → IsDated to → (to == FOREVER) ≡ false → to ≤ LAST_DAY
ends_dated to (inl day) some = day
ends_dated to (inr never) some = absurd (let other : to ≢ FOREVER = grind (arith, nat_tests) in other never)

period_dated : DatesRoundTrip → (fields : List (List ℕ)) (p : ℕ × ℕ) → period_of Dates fields ≡ Ok p → (p.0 ≤ LAST_DAY) × ((p.1 == FOREVER) ≡ false → p.1 ≤ LAST_DAY)
period_dated parsed [] p e = absurd cc
period_dated parsed (a ∷ []) p e = absurd cc
period_dated parsed (a ∷ b ∷ rest) p e =
    let both = made_of (instant_of Dates a) (bound_of Dates b) p e in
    ((parsed.1 a p.0 both.0).0, ends_dated p.1 (parsed.2 b p.1 both.1))

entry_dated : DatesRoundTrip → (table : ℕ) (columns : List Column) (fields : List (List ℕ)) (e : Entry) → entry_of Dates table columns fields ≡ Ok e → Dated e
entry_dated parsed table columns fields e is = by (not (length fields == length columns + 2)) is
  where
    made : (values : List Value) → and_then (period_of Dates (period_fields fields)) (λ period. Ok (record { table = table; values = values; from = period.0; to = period.1 })) ≡ Ok e → Dated e
    made values m =
        let p = passed (period_of Dates (period_fields fields)) _ e m in
        let same : record { table = table; values = values; from = p.value.0; to = p.value.1 } ≡ e = cc (p.then_is) in
        subst Dated same (period_dated parsed (period_fields fields) p.value p.was)

    by : (t : Bool) → (if t then Err FieldCount else and_then (values_after [] columns (value_fields fields)) (λ values.
        and_then (period_of Dates (period_fields fields)) (λ period.
        Ok (record { table = table; values = values; from = period.0; to = period.1 })))) ≡ Ok e → Dated e
    by true i = absurd cc
    by false i = let v = passed (values_after [] columns (value_fields fields)) _ e i in made v.value v.then_is

-- ---- files

table_dated : DatesRoundTrip → (limit table : ℕ) (before : List Entry) (bytes : List ℕ) (read : List Column × List Entry) → table_contents Dates limit table before bytes ≡ Ok read
    → All Dated before → All Dated read.1
table_dated parsed limit table before bytes read is good =
    let a = passed (at_record table 1 (columns_of bytes)) _ read is in
    let b = passed (entries_after Dates limit table a.value 2 before (drop 1 (csv_records bytes))) _ read a.then_is in
    let same : b.value ≡ read.1 = cc (b.then_is) in
    subst (All Dated) same
    (all_entries Dates limit table a.value Dated (λ fields e tells. entry_dated parsed table a.value fields e tells) 2 before (drop 1 (csv_records bytes)) b.value b.was good)

file_dated : DatesRoundTrip → (limit : ℕ) (before after : Contents) (file : TableFile) → next_contents Dates limit before file ≡ Ok after → All Dated before.entries → All Dated after.entries
file_dated parsed limit before after file is good =
    let table = length before.tables in
    let a = passed (at_record table 0 (next_name before.tables file.name)) _ after is in
    let b = passed (table_contents Dates limit table before.entries file.bytes) _ after a.then_is in
    let same : record { tables = before.tables ++ record { name = a.value; columns = b.value.0 } ∷ []; entries = b.value.1 } ≡ after = cc (b.then_is) in
    subst (λ (c : Contents). All Dated c.entries) same (table_dated parsed limit table before.entries file.bytes b.value b.was good)

files_dated : DatesRoundTrip → (limit : ℕ) (before after : Contents) (files : List TableFile) → contents_after Dates limit before files ≡ Ok after → All Dated before.entries → All Dated after.entries
files_dated parsed limit before after [] is good = let same : before ≡ after = cc in subst (λ (c : Contents). All Dated c.entries) same good
files_dated parsed limit before after (file ∷ files) is good =
    let a = passed (next_contents Dates limit before file) _ after is in
    files_dated parsed limit a.value after files a.then_is (file_dated parsed limit before a.value file a.was good)

-- ---- the times of events

abbrev HasDate : Endpoint → Type 0
HasDate m = m.at ≤ LAST_DAY

marks_dated : (n : ℕ) (entries : List Entry) → All Dated entries → All HasDate (endpoints_from n entries)
marks_dated n [] all = All-nil HasDate
marks_dated n (e ∷ entries) all =
    let first = All-head Dated e entries all in
    All-append HasDate (endpoints_of_entry n e) (endpoints_from (n + 1) entries)
    (All-cons HasDate (record { at = e.from; starts = true; entry = n }) _ first.0 (ends (e.to == FOREVER) refl first.1))
    (marks_dated (n + 1) entries (All-tail Dated e entries all))
  where
    ends : (b : Bool) → (e.to == FOREVER) ≡ b → ((e.to == FOREVER) ≡ false → e.to ≤ LAST_DAY) → All HasDate (if b then [] else record { at = e.to; starts = false; entry = n } ∷ [])
    ends true i until = All-nil HasDate
    ends false i until = All-cons HasDate (record { at = e.to; starts = false; entry = n }) [] (until i) (All-nil HasDate)

module _ (entries : List Entry) (marks : List Endpoint) where
  time_is : (m : Endpoint) (event : Event) → IsEventAt entries marks m event → time_of event ≡ m.at
  time_is m event is = by_entry (slice_get entries m.entry) is
    where
      by_kind : (b : Bool) (x : Entry) (row : ℕ) → time_of (if b then Start x.table x.values m.at else End x.table row m.at) ≡ m.at
      by_kind true x row = refl
      by_kind false x row = refl

      by_entry : (o : Option Entry) → IsSomeAnd o (λ entry. event ≡ event_at entries marks m entry) → time_of event ≡ m.at
      by_entry None i = absurd i
      by_entry (Some x) i = ap time_of i ∙ by_kind m.starts x _

  events_dated : (ms : List Endpoint) (events : List Event) → AllZip (IsEventAt entries marks) ms events → All HasDate ms → All (λ e. time_of e ≤ LAST_DAY) events
  events_dated [] [] zip all = All-nil (λ e. time_of e ≤ LAST_DAY)
  events_dated [] (e ∷ events) zip all = absurd zip
  events_dated (m ∷ ms) [] zip all = absurd zip
  events_dated (m ∷ ms) (e ∷ events) zip all =
      All-cons (λ x. time_of x ≤ LAST_DAY) e events
      (omega (arith, time_is m e zip.0, All-head HasDate m ms all))
      (events_dated ms events zip.1 (All-tail HasDate m ms all))

pub loaded_dated : DatesRoundTrip → LoadedAreDated
loaded_dated parsed files limit loaded is =
    let entries = is.contents.entries in
    let dated = files_dated parsed limit (record { tables = []; entries = [] }) is.contents files is.is_contents (All-nil Dated) in
    let of = is.events in
    events_dated entries of.marks of.marks loaded.events of.events_are.each (All-permutation HasDate (endpoints_from 0 entries) of.marks of.all (marks_dated 0 entries dated))
