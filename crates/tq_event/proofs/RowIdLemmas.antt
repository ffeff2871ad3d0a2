-- Making the events one by one: the invariant after k endpoints, and that each endpoint preserves it.
use Rattle.std.proofs.Common.{◌≡◌, ◌≢◌, ℕ, ◌+◌, ◌<◌, ◌≤◌, Bool, true, false, cond, ◌&&◌, ◌||◌, ◌==◌, List, [], ◌∷◌, ◌++◌, Option, Some, length, get_or, set, take, slice_get, refl, sym, ap, subst, ◌∙◌, arith, inl, inr, ◌⊎◌, count_by, if◌then◌else◌, length-append, length-set, map}
use Rattle.std.specs.Prelude.{All, IsSorted, IsPermutation, IsSomeAnd}
use Rattle.std.specs.List.{AllZip, list_any}
use Rattle.std.proofs.lemmas.Bool.{cases_lt, eqb-true}
use Rattle.std.proofs.lemmas.Bool.Decides.{nat_tests}
use Rattle.std.proofs.lemmas.Option.{get_or_from_slice_get, slice_get_within}
use Rattle.std.proofs.lemmas.List.{length-take-le, take_more, get_or-map, get_or-set_same, get_or-set_other, map-set, set-get_or}
use Rattle.std.proofs.lemmas.List.Folds.{list_any_more}
use Rattle.std.proofs.lemmas.List.Sums.{sum_by-cons, sum_by_push}
use Rattle.tq_base.specs.declared.value.Value.{Value}
use Rattle.tq_event.specs.declared.entry.Validity.{Validity}
use Rattle.tq_event.specs.Entries.{Entry, entry_in}
use Rattle.tq_event.specs.declared.endpoint.Endpoint.{Endpoint}
use Rattle.tq_event.specs.declared.order.RowId.{RowId}
use Rattle.tq_event.specs.declared.event.Event.{Event}
use Rattle.tq_event.specs.declared.event.Event.TheVariants.{Start, End}
use Rattle.tq_event.specs.Loading.{IsEventAt, event_at, endpoint_cmp, endpoints_from, starts_entry, starts_in, row_number, table_at}
use Rattle.tq_event.proofs.EndpointLemmas.{marks_stand, not_before_start, row_number_at, start_before_end}

-- after k endpoints: their events, how many rows of each table have started, the numbers of these rows, and the entries
-- that have not started
pub record Placing (entries : List Entry) (marks : List Endpoint) (tables k : ℕ) (now : List Entry) (rows next : List ℕ) (events : List Event) : Type 0 where
  pub as_many : length events ≡ k
  pub each : AllZip (IsEventAt entries marks) (take k marks) events
  pub next_len : length next ≡ tables
  pub next_are : (t : ℕ) → t < tables → get_or next t 0 ≡ count_by (starts_in entries t) (take k marks)
  pub rows_len : length rows ≡ length entries
  pub rows_are : (j : ℕ) → j < length entries → list_any (starts_entry j) (take k marks) ≡ true → get_or rows j 0 ≡ row_number entries marks j
  pub now_len : length now ≡ length entries
  pub tables_are : (j : ℕ) (d e : Entry) → slice_get entries j ≡ Some e → (get_or now j d).table ≡ e.table
  pub now_are : (j : ℕ) (d : Entry) → j < length entries → list_any (starts_entry j) (take k marks) ≡ false → get_or now j d ≡ get_or entries j d

abbrev pub rows_in : List RowId → List ℕ
rows_in places = map (λ (p : RowId). p.row) places

abbrev pub tables_in : List RowId → List ℕ
tables_in places = map (λ (p : RowId). p.table) places

-- the place of an entry whose row has not started
abbrev pub place_of : List Value × Validity → RowId
place_of row = record { table = row.1.table; row = 0 }

pub tables_of_entries : (rows : List (List Value × Validity)) → tables_in (map place_of rows) ≡ map (λ (e : Entry). e.table) (map entry_in rows)
tables_of_entries [] = refl
tables_of_entries (row ∷ rows) = ap (λ l. row.1.table ∷ l) (tables_of_entries rows)

-- the row and the table at a place
pub row_in : (places : List RowId) (i : ℕ) (p : RowId) → i < length places → p ≡ get_or places i p → p.row ≡ get_or (rows_in places) i 0
row_in places i p here is = ap (λ (q : RowId). q.row) is ∙ sym (get_or-map (λ (q : RowId). q.row) places i p 0 here)

pub table_in : (places : List RowId) (tables : List ℕ) (i : ℕ) (p : RowId) → tables_in places ≡ tables → i < length places → p ≡ get_or places i p → p.table ≡ get_or tables i p.table
table_in places tables i p same here is =
    ap (λ (q : RowId). q.table) is ∙ sym (get_or-map (λ (q : RowId). q.table) places i p p.table here) ∙ ap (λ l. get_or l i p.table) same

-- a row is set at a place, and its table stays the same
pub rows_put : (places new : List RowId) (i : ℕ) (p : RowId) (row : ℕ) → new ≡ set places i (record { table = p.table; row = row }) → rows_in new ≡ set (rows_in places) i row
rows_put places new i p row put = ap rows_in put ∙ map-set (λ (q : RowId). q.row) places i (record { table = p.table; row = row })

pub tables_put : (places new : List RowId) (i : ℕ) (p : RowId) (row : ℕ) → new ≡ set places i (record { table = p.table; row = row }) → i < length places → p ≡ get_or places i p → tables_in new ≡ tables_in places
tables_put places new i p row put here is =
    ap tables_in put ∙ map-set (λ (q : RowId). q.table) places i (record { table = p.table; row = row })
    ∙ ap (set (tables_in places) i) (table_in places (tables_in places) i p refl here is) ∙ set-get_or (tables_in places) i p.table

all_zip_push : (P : Endpoint → Event → Type 0) (ms : List Endpoint) (es : List Event) (m : Endpoint) (e : Event) → length es ≡ length ms → AllZip P ms es → P m e → AllZip P (ms ++ m ∷ []) (es ++ e ∷ [])
all_zip_push P [] [] m e len all new = (new, tt)
all_zip_push P [] (x ∷ es) m e len all new = absurd (omega arith)
all_zip_push P (y ∷ ms) [] m e len all new = absurd (omega arith)
all_zip_push P (y ∷ ms) (x ∷ es) m e len all new = (all.0, all_zip_push P ms es m e (omega arith) all.1 new)

abbrev tally : Bool → ℕ
tally b = cond b 1 0

tally_le : (b : Bool) → tally b ≤ 1
tally_le true = omega arith
tally_le false = omega arith

eqb-same : (n : ℕ) → (n == n) ≡ true
eqb-same n = grind (arith, nat_tests)

eqb-other : (a b : ℕ) → b ≢ a → (a == b) ≡ false
eqb-other a b other = by (a == b) refl
  where
    by : (t : Bool) → (a == b) ≡ t → t ≡ false
    by true e = absurd (other (sym (eqb-true a b e)))
    by false e = refl

same_or_not : (i j : ℕ) → (i ≡ j) ⊎ (i ≢ j)
same_or_not i j = elim (cases_lt i j) [
  | inl less ↦ inr (λ same. absurd (omega arith))
  | inr ge ↦ elim (cases_lt j i) [
    | inl more ↦ inr (λ same. absurd (omega arith))
    | inr le ↦ inl (omega arith)
  ]
]

some_and : (o : Option Entry) (x : Entry) (P : Entry → Type 0) → o ≡ Some x → P x → IsSomeAnd o P
some_and o x P e p = subst (λ q. IsSomeAnd q P) (sym e) p

table_of_entry : (entries : List Entry) (j : ℕ) (e : Entry) → slice_get entries j ≡ Some e → table_at entries j ≡ e.table
table_of_entry entries j e is = rw is refl

-- whether a list with one more endpoint starts the entry
started_more : (marks : List Endpoint) (k j : ℕ) (d : Endpoint) → k < length marks → (b : Bool) → starts_entry j (get_or marks k d) ≡ b → list_any (starts_entry j) (take (k + 1) marks) ≡ (list_any (starts_entry j) (take k marks) || b)
started_more marks k j d here b is = list_any_more (starts_entry j) marks k d here ∙ ap (λ x. list_any (starts_entry j) (take k marks) || x) is

or_false : (b c : Bool) → b ≡ (c || false) → c ≡ b
or_false b true e = sym e
or_false b false e = sym e

or_true : (b c : Bool) → b ≡ (c || true) → b ≡ true
or_true b true e = e
or_true b false e = e

other_entry : (m : Endpoint) (j : ℕ) → j ≢ m.entry → starts_entry j m ≡ false
other_entry m j other = by m.starts (m.entry == j) refl
  where
    by : (s b : Bool) → (m.entry == j) ≡ b → (s && b) ≡ false
    by true true e = absurd (other (sym (eqb-true m.entry j e)))
    by true false e = refl
    by false b e = refl

module _ (entries : List Entry) (marks : List Endpoint) (tables : ℕ) (all : IsPermutation (endpoints_from 0 entries) marks) where
  pub within : (k : ℕ) (d : Endpoint) → k < length marks → (get_or marks k d).entry < length entries
  within k d here =
      let stand = marks_stand entries marks all k d here in
      omega (arith, stand.numbered, slice_get_within entries stand.place stand.entry stand.stands)

  -- the entry of an endpoint
  entry_of_mark : (k : ℕ) (d : Endpoint) → k < length marks → (e : Entry) × (slice_get entries (get_or marks k d).entry ≡ Some e)
  entry_of_mark k d here =
      let stand = marks_stand entries marks all k d here in
      let place : (get_or marks k d).entry ≡ stand.place = omega (arith, stand.numbered) in
      (stand.entry, ap (slice_get entries) place ∙ stand.stands)

  pub table_below : (k : ℕ) (d : Endpoint) (e : Entry) (now : List Entry) (rows next : List ℕ) (events : List Event) → k < length marks → All (λ x. x.table < tables) entries
      → Placing entries marks tables k now rows next events → (get_or now (get_or marks k d).entry e).table < tables
  table_below k d e now rows next events here bounded w =
      let (entry, stands) = entry_of_mark k d here in
      let below = bounded (get_or marks k d).entry e (slice_get_within entries (get_or marks k d).entry entry stands) in
      let same = get_or_from_slice_get entries (get_or marks k d).entry entry e stands in
      omega (arith, ap (λ (x : Entry). x.table) same, below, w.tables_are (get_or marks k d).entry e entry stands)

  pub within_by : (k : ℕ) (d m : Endpoint) → k < length marks → m ≡ get_or marks k d → m.entry < length entries
  within_by k d m here is = omega (arith, within k d here, ap (λ (x : Endpoint). x.entry) is)

  pub table_below_by : (k : ℕ) (d m : Endpoint) (e : Entry) (now : List Entry) (rows next : List ℕ) (events : List Event) → k < length marks → m ≡ get_or marks k d → All (λ x. x.table < tables) entries
      → Placing entries marks tables k now rows next events → (get_or now m.entry e).table < tables
  table_below_by k d m e now rows next events here is bounded w =
      subst (λ (x : Endpoint). (get_or now x.entry e).table < tables) (sym is) (table_below k d e now rows next events here bounded w)

  -- the table stored for an entry is the entry's table
  pub table_by : (k : ℕ) (d m : Endpoint) (now : List Entry) (rows next : List ℕ) (events : List Event) (t : ℕ) → k < length marks → m ≡ get_or marks k d
      → Placing entries marks tables k now rows next events → t ≡ get_or (map (λ x. x.table) entries) m.entry t → (e : Entry) × (t ≡ (get_or now m.entry e).table)
  table_by k d m now rows next events t here is w stood =
      let (entry, of_mark) = entry_of_mark k d here in
      let stands : slice_get entries m.entry ≡ Some entry = ap (λ (x : Endpoint). slice_get entries x.entry) is ∙ of_mark in
      let table = λ (x : Entry). x.table in
      (entry, stood ∙ get_or-map table entries m.entry entry t (slice_get_within entries m.entry entry stands) ∙ ap table (get_or_from_slice_get entries m.entry entry entry stands) ∙ sym (w.tables_are m.entry entry entry stands))

  -- no more rows have started than endpoints were handled
  pub few_started : (k t : ℕ) → k ≤ length marks → count_by (starts_in entries t) (take k marks) ≤ k
  few_started k t short = omega (arith, count_le (take k marks), length-take-le k marks short)
    where
      count_le : (ms : List Endpoint) → count_by (starts_in entries t) ms ≤ length ms
      count_le [] = omega arith
      count_le (m ∷ ms) = omega (arith, sum_by-cons (λ x. tally (starts_in entries t x)) m ms, count_le ms, tally_le (starts_in entries t m))

  module _ (k : ℕ) (d : Endpoint) (here : k < length marks) (now : List Entry) (rows next : List ℕ) (events : List Event) (w : Placing entries marks tables k now rows next events) where
    -- the start of an entry
    pub places_start : (e e2 : Entry) → (get_or marks k d).starts ≡ true → (get_or now (get_or marks k d).entry e).table < tables
        → e2.table ≡ (get_or now (get_or marks k d).entry e).table
        → Placing entries marks tables (k + 1) (set now (get_or marks k d).entry e2)
        (set rows (get_or marks k d).entry (get_or next (get_or now (get_or marks k d).entry e).table 0))
        (set next (get_or now (get_or marks k d).entry e).table (get_or next (get_or now (get_or marks k d).entry e).table 0 + 1))
        (events ++ Start (get_or now (get_or marks k d).entry e).table (get_or now (get_or marks k d).entry e).values (get_or marks k d).at ∷ [])
    places_start e e2 starts small table_same = record {
      as_many = omega (arith, length-append events (event ∷ []), w.as_many);
      each = rw (take_more marks k d here) (all_zip_push (IsEventAt entries marks) (take k marks) events m event (omega (arith, w.as_many, length-take-le k marks (omega arith))) w.each is_event);
      next_len = omega (arith, length-set next t (get_or next t 0 + 1), w.next_len);
      next_are = λ u below. elim (same_or_not u t) [
        | inl same ↦ omega (arith, counts u, own_count u same, ap (λ x. get_or (set next t (get_or next t 0 + 1)) x 0) same, get_or-set_same next t (get_or next t 0 + 1) 0 in_next, w.next_are t small, ap (λ x. count_by (starts_in entries x) (take k marks)) same)
        | inr other ↦ omega (arith, counts u, other_count u other, get_or-set_other next t u (get_or next t 0 + 1) 0 other, w.next_are u below)
      ];
      rows_len = omega (arith, length-set rows m.entry (get_or next t 0), w.rows_len);
      rows_are = λ j below started. elim (same_or_not j m.entry) [
        | inl same ↦ omega (arith, ap (λ x. get_or (set rows m.entry (get_or next t 0)) x 0) same, get_or-set_same rows m.entry (get_or next t 0) 0 in_rows, w.next_are t small, row_here, ap (row_number entries marks) same)
        | inr other ↦ get_or-set_other rows m.entry j (get_or next t 0) 0 other ∙ w.rows_are j below (or_false true _ (sym started ∙ started_more marks k j d here false (other_entry m j other)))
      ];
      now_len = omega (arith, length-set now m.entry e2, w.now_len);
      tables_are = λ j x y stands. elim (same_or_not j m.entry) [
        | inl same ↦ ap (λ i. (get_or (set now m.entry e2) i x).table) same ∙ ap (λ (z : Entry). z.table) (get_or-set_same now m.entry e2 x in_now) ∙ table_same ∙ w.tables_are m.entry e y (ap (slice_get entries) (sym same) ∙ stands)
        | inr other ↦ ap (λ (z : Entry). z.table) (get_or-set_other now m.entry j e2 x other) ∙ w.tables_are j x y stands
      ];
      now_are = λ j x below none. elim (same_or_not j m.entry) [
        | inl same ↦ absurd (started_now j same none)
        | inr other ↦ get_or-set_other now m.entry j e2 x other ∙ w.now_are j x below (or_false false _ (sym none ∙ started_more marks k j d here false (other_entry m j other)))
      ];
    }
      where
        m : Endpoint
        m = get_or marks k d

        t : ℕ
        t = (get_or now (get_or marks k d).entry e).table

        event : Event
        event = Start (get_or now (get_or marks k d).entry e).table (get_or now (get_or marks k d).entry e).values (get_or marks k d).at

        own_start : starts_entry (get_or marks k d).entry (get_or marks k d) ≡ true
        own_start = rw (starts, eqb-same (get_or marks k d).entry) refl

        in_now : (get_or marks k d).entry < length now
        in_now = omega (arith, within k d here, w.now_len)

        in_rows : (get_or marks k d).entry < length rows
        in_rows = omega (arith, within k d here, w.rows_len)

        in_next : (get_or now (get_or marks k d).entry e).table < length next
        in_next = omega (arith, small, w.next_len)

        table_is : table_at entries (get_or marks k d).entry ≡ (get_or now (get_or marks k d).entry e).table
        table_is =
            let (entry, stands) = entry_of_mark k d here in
            table_of_entry entries (get_or marks k d).entry entry stands ∙ sym (w.tables_are (get_or marks k d).entry e entry stands)

        row_here : row_number entries marks (get_or marks k d).entry ≡ count_by (starts_in entries (get_or now (get_or marks k d).entry e).table) (take k marks)
        row_here = row_number_at entries marks all k (get_or marks k d).entry d (within k d here) here own_start ∙ ap (λ u. count_by (starts_in entries u) (take k marks)) table_is

        counts : (u : ℕ) → count_by (starts_in entries u) (take (k + 1) marks) ≡ count_by (starts_in entries u) (take k marks) + tally (starts_in entries u (get_or marks k d))
        counts u = ap (count_by (starts_in entries u)) (take_more marks k d here) ∙ sum_by_push (λ x. tally (starts_in entries u x)) (take k marks) (get_or marks k d)

        own_count : (u : ℕ) → u ≡ (get_or now (get_or marks k d).entry e).table → tally (starts_in entries u (get_or marks k d)) ≡ 1
        own_count u same = rw (starts, same, table_is, eqb-same (get_or now (get_or marks k d).entry e).table) refl

        other_count : (u : ℕ) → u ≢ (get_or now (get_or marks k d).entry e).table → tally (starts_in entries u (get_or marks k d)) ≡ 0
        other_count u other = rw (starts, table_is, eqb-other (get_or now (get_or marks k d).entry e).table u other) refl

        started_now : (j : ℕ) → j ≡ (get_or marks k d).entry → list_any (starts_entry j) (take (k + 1) marks) ≡ false → ⊥
        started_now j same none =
            let yes = or_true (list_any (starts_entry j) (take (k + 1) marks)) (list_any (starts_entry j) (take k marks)) (started_more marks k j d here true (ap (λ i. starts_entry i (get_or marks k d)) same ∙ own_start)) in
            cc (yes, none)

        is_event : IsEventAt entries marks (get_or marks k d) (Start (get_or now (get_or marks k d).entry e).table (get_or now (get_or marks k d).entry e).values (get_or marks k d).at)
        is_event =
            let (entry, stands) = entry_of_mark k d here in
            let whole : get_or now (get_or marks k d).entry e ≡ entry = w.now_are (get_or marks k d).entry e (within k d here) (not_before_start entries marks all k (get_or marks k d).entry d (within k d here) here own_start) ∙ get_or_from_slice_get entries (get_or marks k d).entry entry e stands in
            some_and (slice_get entries (get_or marks k d).entry) entry (λ x. Start (get_or now (get_or marks k d).entry e).table (get_or now (get_or marks k d).entry e).values (get_or marks k d).at ≡ event_at entries marks (get_or marks k d) x) stands
            (rw whole (sym (ap (λ b. if b then Start entry.table entry.values (get_or marks k d).at else End entry.table (row_number entries marks (get_or marks k d).entry) (get_or marks k d).at) starts)))

    -- the end of an entry
    pub places_end : (e : Entry) → (get_or marks k d).starts ≡ false → IsSorted endpoint_cmp marks → All (λ x. x.from < x.to) entries
        → Placing entries marks tables (k + 1) now rows next (events ++ End (get_or now (get_or marks k d).entry e).table (get_or rows (get_or marks k d).entry 0) (get_or marks k d).at ∷ [])
    places_end e ends sorted periods = record {
      as_many = omega (arith, length-append events (event ∷ []), w.as_many);
      each = rw (take_more marks k d here) (all_zip_push (IsEventAt entries marks) (take k marks) events m event (omega (arith, w.as_many, length-take-le k marks (omega arith))) w.each is_event);
      next_len = w.next_len;
      next_are = λ t below. omega (arith, w.next_are t below, ap (count_by (starts_in entries t)) (take_more marks k d here), sum_by_push (λ x. tally (starts_in entries t x)) (take k marks) m, none_in t);
      rows_len = w.rows_len;
      rows_are = λ j below started. w.rows_are j below (or_false true _ (sym started ∙ started_more marks k j d here false (none_entry j)));
      now_len = w.now_len;
      tables_are = w.tables_are;
      now_are = λ j x below none. w.now_are j x below (or_false false _ (sym none ∙ started_more marks k j d here false (none_entry j)));
    }
      where
        m : Endpoint
        m = get_or marks k d

        event : Event
        event = End (get_or now m.entry e).table (get_or rows m.entry 0) m.at

        none_entry : (j : ℕ) → starts_entry j (get_or marks k d) ≡ false
        none_entry j = ap (λ b. b && ((get_or marks k d).entry == j)) ends

        none_in : (t : ℕ) → tally (starts_in entries t (get_or marks k d)) ≡ 0
        none_in t = ap (λ b. tally (b && (table_at entries (get_or marks k d).entry == t))) ends

        is_event : IsEventAt entries marks (get_or marks k d) (End (get_or now (get_or marks k d).entry e).table (get_or rows (get_or marks k d).entry 0) (get_or marks k d).at)
        is_event =
            let (entry, stands) = entry_of_mark k d here in
            let table = w.tables_are (get_or marks k d).entry e entry stands in
            let row = w.rows_are (get_or marks k d).entry (within k d here) (start_before_end entries marks all k d here ends sorted periods) in
            some_and (slice_get entries (get_or marks k d).entry) entry (λ x. End (get_or now (get_or marks k d).entry e).table (get_or rows (get_or marks k d).entry 0) (get_or marks k d).at ≡ event_at entries marks (get_or marks k d) x) stands
            (rw (table, row) (sym (ap (λ b. if b then Start entry.table entry.values (get_or marks k d).at else End entry.table (row_number entries marks (get_or marks k d).entry) (get_or marks k d).at) ends)))

    -- the same, for parts that are given by equations
    module _ (m : Endpoint) (is : m ≡ get_or marks k d) (e : Entry) where
      pub start_by : (now2 : List Entry) (rows2 next2 : List ℕ) (events2 : List Event) (e2 : Entry) → m.starts ≡ true → (get_or now m.entry e).table < tables
          → e2.table ≡ (get_or now m.entry e).table
          → now2 ≡ set now m.entry e2
          → rows2 ≡ set rows m.entry (get_or next (get_or now m.entry e).table 0)
          → next2 ≡ set next (get_or now m.entry e).table (get_or next (get_or now m.entry e).table 0 + 1)
          → events2 ≡ events ++ Start (get_or now m.entry e).table (get_or now m.entry e).values m.at ∷ []
          → Placing entries marks tables (k + 1) now2 rows2 next2 events2
      start_by now2 rows2 next2 events2 e2 = subst (λ (x : Endpoint). x.starts ≡ true → (get_or now x.entry e).table < tables
          → e2.table ≡ (get_or now x.entry e).table
          → now2 ≡ set now x.entry e2
          → rows2 ≡ set rows x.entry (get_or next (get_or now x.entry e).table 0)
          → next2 ≡ set next (get_or now x.entry e).table (get_or next (get_or now x.entry e).table 0 + 1)
          → events2 ≡ events ++ Start (get_or now x.entry e).table (get_or now x.entry e).values x.at ∷ []
          → Placing entries marks tables (k + 1) now2 rows2 next2 events2) (sym is)
          (λ starts small same a b c f. rw (a, b, c, f) (places_start e e2 starts small same))

      pub end_by : (events2 : List Event) → m.starts ≡ false → IsSorted endpoint_cmp marks → All (λ x. x.from < x.to) entries
          → events2 ≡ events ++ End (get_or now m.entry e).table (get_or rows m.entry 0) m.at ∷ []
          → Placing entries marks tables (k + 1) now rows next events2
      end_by events2 = subst (λ (x : Endpoint). x.starts ≡ false → IsSorted endpoint_cmp marks → All (λ y. y.from < y.to) entries
          → events2 ≡ events ++ End (get_or now x.entry e).table (get_or rows x.entry 0) x.at ∷ []
          → Placing entries marks tables (k + 1) now rows next events2) (sym is)
          (λ ends sorted periods f. rw f (places_end e ends sorted periods))
