-- The tables of files hold at each instant what is valid by the events of the entries.
use Rattle.std.proofs.Common.{◌≡◌, ℕ, suc, zero, ◌+◌, ◌-◌, ◌<◌, ◌==◌, ◌&&◌, ◌||◌, ◌⊎◌, not, Bool, true, false, cond, if◌then◌else◌, List, [], ◌∷◌, Option, Some, None, length, map, filter, take, drop, get_or, slice_get, sum_by, count_by, nat_le, nat_lt, refl, sym, ap, subst, ◌∙◌, arith, inl, inr}
use Rattle.std.specs.Prelude.{All, IsSomeAnd, IsSorted, IsPermutation}
use Rattle.std.specs.List.{AllZip, list_any}
use Rattle.std.specs.Option.{option_map_or}
use Rattle.std.specs.Ordering.{eq_by_cmp}
use Rattle.std.proofs.lemmas.Bool.{and_parts, cases_lt, eqb-true}
use Rattle.std.proofs.lemmas.Option.{slice_get_within}
use Rattle.std.proofs.lemmas.List.{drop_all, drop_more, take_more, get_or-drop, get_or-take, get_or_default, length-drop, length-map, length-take-le}
use Rattle.std.proofs.Math.Seq.{take-length}
use Rattle.std.proofs.lemmas.List.Elements.{All-drop, All-head, All-tail}
use Rattle.std.proofs.lemmas.List.Folds.{Any-from_list_any, list_any_at}
use Rattle.std.proofs.lemmas.List.Sums.{sum_by-append, sum_by-cons, sum_by_push}
use Rattle.std.proofs.lemmas.List.Sorted.{sum_by-IsPermutation}
use Rattle.tq_base.specs.declared.catalogue.Catalogue.{Catalogue}
use Rattle.tq_base.specs.declared.fragment.Fragment.{Fragment}
use Rattle.tq_base.specs.declared.period.TheConstants.{FOREVER}
use Rattle.tq_base.specs.declared.value.Value.{Value}
use Rattle.tq_base.specs.Fragments.{at, occurrences}
use Rattle.tq_base.specs.Periods.{holds}
use Rattle.tq_base.specs.ValueOrder.{values_cmp}
use Rattle.tq_event.specs.Entries.{Entry}
use Rattle.tq_event.specs.declared.event.Event.{Event}
use Rattle.tq_event.specs.declared.event.Event.TheVariants.{Start, End}
use Rattle.tq_event.specs.declared.endpoint.Endpoint.{Endpoint}
use Rattle.tq_event.specs.History.{Row, end_of, rows_from, rows_of, time_of, valid_at}
use Rattle.tq_event.specs.Loading.{AreEventsOf, IsEventAt, event_at, endpoint_cmp, endpoints_from, endpoints_of_entry, row_number, starts_entry, starts_in, table_at}
use Rattle.tq_event.specs.Tables.{AreRowsOf, HoldsRows, rows_in, row_entry}
use Rattle.tq_event.proofs.CatalogueLemmas.{Stored}
use Rattle.tq_event.proofs.HistoryLemmas.{at_place, counted, end_is, ends_entry, eqb-same, passes_over, same_entry, start_is, starts_row, table_is}
use Rattle.tq_event.proofs.EndpointLemmas.{IsMarkFrom, mark_total, marks_stand, not_before_start, row_number_at, start_before_end}
use Rattle.tq_event.proofs.SortLemmas.{has_sorted}

abbrev tally : Bool → ℕ
tally b = cond b 1 0

-- ---- counts as sums

-- how many chosen elements of a list pass the test
kept : {X Y : Type 0} (f : X → Y) (p : X → Bool) (q : Y → Bool) (xs : List X) → count_by q (map f (filter p xs)) ≡ sum_by (λ x. cond (p x) (tally (q (f x))) 0) xs
kept f p q [] = refl
kept f p q (x ∷ xs) = by (p x) refl (kept f p q xs)
  where
    by : (b : Bool) → p x ≡ b → count_by q (map f (filter p xs)) ≡ sum_by (λ y. cond (p y) (tally (q (f y))) 0) xs
        → count_by q (map f (cond b (x ∷ filter p xs) (filter p xs))) ≡ sum_by (λ y. cond (p y) (tally (q (f y))) 0) (x ∷ xs)
    by true e rest =
        let here : cond (p x) (tally (q (f x))) 0 ≡ tally (q (f x)) = rw e refl in
        omega (arith, rest, here, sum_by-cons (λ y. tally (q y)) (f x) (map f (filter p xs)), sum_by-cons (λ y. cond (p y) (tally (q (f y))) 0) x xs)
    by false e rest =
        let here : cond (p x) (tally (q (f x))) 0 ≡ 0 = rw e refl in
        omega (arith, rest, here, sum_by-cons (λ y. cond (p y) (tally (q (f y))) 0) x xs)

chosen : {X : Type 0} (p : X → Bool) (g : X → ℕ) (xs : List X) → sum_by g (filter p xs) ≡ sum_by (λ x. cond (p x) (g x) 0) xs
chosen p g [] = refl
chosen p g (x ∷ xs) = by (p x) refl (chosen p g xs)
  where
    by : (b : Bool) → p x ≡ b → sum_by g (filter p xs) ≡ sum_by (λ y. cond (p y) (g y) 0) xs
        → sum_by g (cond b (x ∷ filter p xs) (filter p xs)) ≡ sum_by (λ y. cond (p y) (g y) 0) (x ∷ xs)
    by true e rest =
        let here : cond (p x) (g x) 0 ≡ g x = rw e refl in
        omega (arith, rest, here, sum_by-cons g x (filter p xs), sum_by-cons (λ y. cond (p y) (g y) 0) x xs)
    by false e rest =
        let here : cond (p x) (g x) 0 ≡ 0 = rw e refl in
        omega (arith, rest, here, sum_by-cons (λ y. cond (p y) (g y) 0) x xs)

mapped : {X Y : Type 0} (f : X → Y) (g : Y → ℕ) (xs : List X) → sum_by g (map f xs) ≡ sum_by (λ x. g (f x)) xs
mapped f g [] = refl
mapped f g (x ∷ xs) = omega (arith, mapped f g xs, sum_by-cons g (f x) (map f xs), sum_by-cons (λ y. g (f y)) x xs)

some_pass : {X : Type 0} (p : X → Bool) (xs : List X) → 0 < sum_by (λ x. tally (p x)) xs → list_any p xs ≡ true
some_pass p [] some = absurd (omega (arith, some))
some_pass p (x ∷ xs) some = by (p x) refl (λ more. some_pass p xs more)
  where
    sum : sum_by (λ y. tally (p y)) (x ∷ xs) ≡ tally (p x) + sum_by (λ y. tally (p y)) xs
    sum = sum_by-cons (λ y. tally (p y)) x xs

    by : (b : Bool) → p x ≡ b → (0 < sum_by (λ y. tally (p y)) xs → list_any p xs ≡ true) → (b || list_any p xs) ≡ true
    by true e rest = refl
    by false e rest = let none : tally (p x) ≡ 0 = rw e refl in rest (omega (arith, some, sum, none))

-- ---- what is valid at an instant

module _ (t : ℕ) (v : List Value) where
  -- whether values that are valid from one instant until another are the given values, at the given instant
  abbrev pub valid : List Value → ℕ → ℕ → ℕ
  valid values from to = cond (nat_le from t && nat_lt t to) (tally (eq_by_cmp values_cmp values v)) 0

  abbrev pub valid_entry : Entry → ℕ
  valid_entry e = valid e.values e.from e.to

  abbrev pub valid_in : ℕ → Entry → ℕ
  valid_in table e = cond (e.table == table) (valid_entry e) 0

  abbrev pub valid_row : Row → ℕ
  valid_row row = valid row.values row.from row.to

  rows_valid : (rows : List Row) → occurrences (map (λ (row : Row). row.values) (filter (λ (row : Row). nat_le row.from t && nat_lt t row.to) rows)) v ≡ sum_by valid_row rows
  rows_valid rows = kept (λ (row : Row). row.values) (λ (row : Row). nat_le row.from t && nat_lt t row.to) (λ u. eq_by_cmp values_cmp u v) rows

  fragments_valid : (table : ℕ) (rows : List Fragment) → occurrences (at rows t) v ≡ sum_by valid_entry (map (row_entry table) rows)
  fragments_valid table rows =
      kept (λ (f : Fragment). f.values) (λ (f : Fragment). holds f.period t) (λ u. eq_by_cmp values_cmp u v) rows
      ∙ sym (mapped (row_entry table) valid_entry rows)

  pub table_valid : (entries : List Entry) (tables : List (List Fragment)) (table : ℕ) → AreRowsOf entries tables
      → occurrences (at (rows_in tables table) t) v ≡ sum_by (valid_in table) entries
  table_valid entries tables table are =
      fragments_valid table (rows_in tables table) ∙ ap (sum_by valid_entry) (are table)
      ∙ chosen (λ (e : Entry). e.table == table) valid_entry entries

  -- what an endpoint that starts an entry of the table adds to the count
  abbrev pub valid_mark : List Entry → ℕ → Endpoint → ℕ
  valid_mark entries table m = cond m.starts (option_map_or (valid_in table) (slice_get entries m.entry) 0) 0

  own_mark : (entries : List Entry) (table n : ℕ) (e : Entry) → slice_get entries n ≡ Some e → (b : Bool)
      → sum_by (valid_mark entries table) (record { at = e.from; starts = true; entry = n } ∷ (if b then [] else record { at = e.to; starts = false; entry = n } ∷ [])) ≡ valid_in table e
  own_mark entries table n e stands b = by b
    where
      first : Endpoint
      first = record { at = e.from; starts = true; entry = n }

      last : Endpoint
      last = record { at = e.to; starts = false; entry = n }

      here : valid_mark entries table first ≡ valid_in table e
      here = ap (λ o. option_map_or (valid_in table) o 0) stands

      by : (c : Bool) → sum_by (valid_mark entries table) (first ∷ (if c then [] else last ∷ [])) ≡ valid_in table e
      by true = omega (arith, here, sum_by-cons (valid_mark entries table) first [])
      by false = omega (arith, here, sum_by-cons (valid_mark entries table) first (last ∷ []), sum_by-cons (valid_mark entries table) last [])

  marks_valid : (all : List Entry) (table n : ℕ) (entries : List Entry) → ((i : ℕ) (e : Entry) → slice_get entries i ≡ Some e → slice_get all (n + i) ≡ Some e)
      → sum_by (valid_mark all table) (endpoints_from n entries) ≡ sum_by (valid_in table) entries
  marks_valid all table n [] same = refl
  marks_valid all table n (e ∷ entries) same =
      let at_n : n + 0 ≡ n = omega arith in
      let rest = marks_valid all table (n + 1) entries (λ i x is. let place : n + suc i ≡ n + 1 + i = omega arith in subst (λ k. slice_get all k ≡ Some x) place (same (suc i) x is)) in
      omega (
        arith,
        rest,
        own_mark all table n e (subst (λ k. slice_get all k ≡ Some e) at_n (same 0 e refl)) (e.to == FOREVER),
        sum_by-append (valid_mark all table) (endpoints_of_entry n e) (endpoints_from (n + 1) entries),
        sum_by-cons (valid_in table) e entries,
      )

  pub all_marks_valid : (entries : List Entry) (marks : List Endpoint) (table : ℕ) → IsPermutation (endpoints_from 0 entries) marks
      → sum_by (valid_mark entries table) marks ≡ sum_by (valid_in table) entries
  all_marks_valid entries marks table all =
      sum_by-IsPermutation (valid_mark entries table) (endpoints_from 0 entries) marks all
      ∙ marks_valid entries table 0 entries (λ i e is. let place : i ≡ 0 + i = omega arith in subst (λ k. slice_get entries k ≡ Some e) place is)

-- ---- when a row ends

-- whether the event ends the row of the table
abbrev closes : ℕ → ℕ → Event → Bool
closes t r (Start u v at) = false
closes t r (End u s at) = (u == t) && (s == r)

ends_by : (t r a : ℕ) (es : List Event) → All (λ e. closes t r e ≡ true → time_of e ≡ a) es → (list_any (closes t r) es ≡ true) ⊎ (a ≡ FOREVER) → end_of t r es ≡ a
ends_by t r a [] all (inl some) = cc (some)
ends_by t r a [] all (inr forever) = sym forever
ends_by t r a (Start u v at ∷ es) all how = ends_by t r a es (All-tail (λ e. closes t r e ≡ true → time_of e ≡ a) (Start u v at) es all) how
ends_by t r a (End u s at ∷ es) all how = by ((u == t) && (s == r)) refl (ends_by t r a es (All-tail (λ e. closes t r e ≡ true → time_of e ≡ a) (End u s at) es all)) how
  where
    by : (b : Bool) → ((u == t) && (s == r)) ≡ b → ((list_any (closes t r) es ≡ true) ⊎ (a ≡ FOREVER) → end_of t r es ≡ a)
        → ((b || list_any (closes t r) es) ≡ true) ⊎ (a ≡ FOREVER) → (if b then at else end_of t r es) ≡ a
    by true e rest how = All-head (λ x. closes t r x ≡ true → time_of x ≡ a) (End u s at) es all e
    by false e rest how = rest how

-- an entry with a bound has an end among the endpoints
own_end : (n : ℕ) (e : Entry) (b : Bool) → b ≡ false → 0 < sum_by (counted n) (record { at = e.from; starts = true; entry = n } ∷ (if b then [] else record { at = e.to; starts = false; entry = n } ∷ []))
own_end n e true bounded = cc (bounded)
own_end n e false bounded =
    let last : Endpoint = record { at = e.to; starts = false; entry = n } in
    let one : counted n last ≡ 1 = rw (eqb-same n) refl in
    omega (arith, one, sum_by-cons (counted n) (record { at = e.from; starts = true; entry = n }) (last ∷ []), sum_by-cons (counted n) last [])

some_end : (n i : ℕ) (entries : List Entry) (x : Entry) → slice_get entries i ≡ Some x → (x.to == FOREVER) ≡ false → 0 < sum_by (counted (n + i)) (endpoints_from n entries)
some_end n i [] x stands ends = cc (stands)
some_end n zero (e ∷ entries) x stands ends =
    let same : e ≡ x = cc (stands) in
    let at_n : n + 0 ≡ n = omega arith in
    let own = own_end n e (e.to == FOREVER) (ap (λ (z : Entry). z.to == FOREVER) same ∙ ends) in
    subst (λ k. 0 < sum_by (counted k) (endpoints_from n (e ∷ entries))) (sym at_n)
    (omega (arith, own, sum_by-append (counted n) (endpoints_of_entry n e) (endpoints_from (n + 1) entries)))
some_end n (suc i) (e ∷ entries) x stands ends =
    let place : n + 1 + i ≡ n + suc i = omega arith in
    let rest = subst (λ k. 0 < sum_by (counted k) (endpoints_from (n + 1) entries)) place (some_end (n + 1) i entries x stands ends) in
    omega (arith, rest, sum_by-append (counted (n + suc i)) (endpoints_of_entry n e) (endpoints_from (n + 1) entries))

module _ (catalogue : Catalogue) (entries : List Entry) (marks : List Endpoint) (events : List Event) (all : IsPermutation (endpoints_from 0 entries) marks) (sorted : IsSorted endpoint_cmp marks) (periods : All (λ e. e.from < e.to) entries) (stored : All (Stored catalogue.tables) entries)
    (as_many : length events ≡ length marks) (zip : AllZip (IsEventAt entries marks) marks events) where
  -- the entry of an endpoint, and its times
  same_read : (a b : ℕ) (e f : Entry) → a ≡ b → slice_get entries a ≡ Some e → slice_get entries b ≡ Some f → e ≡ f
  same_read a b e f i g h = cc (i, g, h)

  time_from : (k : ℕ) (d : Endpoint) (x : Entry) → k < length marks → slice_get entries (get_or marks k d).entry ≡ Some x → (get_or marks k d).starts ≡ true → (get_or marks k d).at ≡ x.from
  time_from k d x here stands starts =
      let is = marks_stand entries marks all k d here in
      is.at_start starts ∙ ap (λ (e : Entry). e.from) (same_read is.place (get_or marks k d).entry is.entry x (omega (arith, is.numbered)) is.stands stands)

  time_to : (k : ℕ) (d : Endpoint) (x : Entry) → k < length marks → slice_get entries (get_or marks k d).entry ≡ Some x → (get_or marks k d).starts ≡ false → (get_or marks k d).at ≡ x.to
  time_to k d x here stands ends =
      let is = marks_stand entries marks all k d here in
      is.at_end ends ∙ ap (λ (e : Entry). e.to) (same_read is.place (get_or marks k d).entry is.entry x (omega (arith, is.numbered)) is.stands stands)

  -- the event that ends an entry's row happens when the entry ends
  closed_in_time : (j : ℕ) (x : Entry) → slice_get entries j ≡ Some x → All (λ e. closes x.table (row_number entries marks j) e ≡ true → time_of e ≡ x.to) events
  closed_in_time j x stands i b below = by (get_or events i b) (get_or marks i d).starts refl (at_place entries marks marks events i d b zip below)
    where
      d : Endpoint
      d = record { at = 0; starts = true; entry = 0 }

      by : (e : Event) (s : Bool) → (get_or marks i d).starts ≡ s → IsEventAt entries marks (get_or marks i d) e → closes x.table (row_number entries marks j) e ≡ true → time_of e ≡ x.to
      by e true starts at closed =
          let is = start_is entries marks (get_or marks i d) e at starts in
          let no : closes x.table (row_number entries marks j) e ≡ false = rw (is.is) refl in
          cc (no, closed)
      by e false ends at closed =
          let is = end_is entries marks (get_or marks i d) e at ends in
          let m = get_or marks i d in
          let yes : ((is.entry.table == x.table) && (row_number entries marks m.entry == row_number entries marks j)) ≡ true = sym (ap (closes x.table (row_number entries marks j)) is.is) ∙ closed in
          let parts = and_parts (is.entry.table == x.table) (row_number entries marks m.entry == row_number entries marks j) yes in
          let table_j : table_at entries j ≡ x.table = rw stands refl in
          let tables = table_is entries marks m is.entry is.stands ∙ eqb-true is.entry.table x.table parts.0 ∙ sym table_j in
          let rows = eqb-true (row_number entries marks m.entry) (row_number entries marks j) parts.1 in
          let within : i < length marks = omega (arith, below, as_many) in
          let same = same_entry catalogue entries marks all sorted periods stored m.entry j d (slice_get_within entries m.entry is.entry is.stands) (slice_get_within entries j x stands) tables rows in
          ap time_of is.is ∙ time_to i d x within (ap (slice_get entries) same ∙ stands) ends

  -- an entry with a bound is ended after its start
  closed_later : (k j : ℕ) (d : Endpoint) (x : Entry) → slice_get entries j ≡ Some x → k < length marks → starts_entry j (get_or marks k d) ≡ true → (x.to == FOREVER) ≡ false
      → list_any (closes x.table (row_number entries marks j)) (drop (k + 1) events) ≡ true
  closed_later k j d x stands here is bounded =
      let within_j = slice_get_within entries j x stands in
      let place_j : 0 + j ≡ j = omega arith in
      let some_first = subst (λ n. 0 < sum_by (counted n) (endpoints_from 0 entries)) place_j (some_end 0 j entries x stands bounded) in
      let some : 0 < sum_by (counted j) marks = omega (arith, sum_by-IsPermutation (counted j) (endpoints_from 0 entries) marks all, some_first) in
      let (p, y, below, is_y, ends_y) = Any-from_list_any (ends_entry j) marks (some_pass (ends_entry j) marks some) in
      let at_p : ends_entry j (get_or marks p d) ≡ true = rw (get_or_default marks p d y below ∙ is_y) ends_y in
      let parts = and_parts (not (get_or marks p d).starts) ((get_or marks p d).entry == j) at_p in
      let ends_p : (get_or marks p d).starts ≡ false = turned (get_or marks p d).starts parts.0 in
      let entry_p = eqb-true (get_or marks p d).entry j parts.1 in
      elim (cases_lt k p) [
        | inl later ↦
            let stands_p : slice_get entries (get_or marks p d).entry ≡ Some x = ap (slice_get entries) entry_p ∙ stands in
            let in_events : p < length events = omega (arith, below, as_many) in
            let e : Event = End 0 0 0 in
            let ev = end_is entries marks (get_or marks p d) (get_or events p e) (at_place entries marks marks events p d e zip in_events) ends_p in
            let same = same_read (get_or marks p d).entry j ev.entry x entry_p ev.stands stands in
            let closed : closes x.table (row_number entries marks j) (get_or events p e) ≡ true
            = ap (closes x.table (row_number entries marks j)) ev.is ∙ rw (same, entry_p, eqb-same x.table, eqb-same (row_number entries marks j)) refl in
            let place : k + 1 + (p - (k + 1)) ≡ p = omega (arith, later) in
            let read : get_or (drop (k + 1) events) (p - (k + 1)) e ≡ get_or events p e = get_or-drop (k + 1) events (p - (k + 1)) e ∙ ap (λ n. get_or events n e) place in
            list_any_at (closes x.table (row_number entries marks j)) (drop (k + 1) events) (p - (k + 1)) e
            (omega (arith, length-drop (k + 1) events, in_events, later))
            (ap (closes x.table (row_number entries marks j)) read ∙ closed)
        | inr sooner ↦
            let before = subst (λ n. list_any (starts_entry n) (take p marks) ≡ true) entry_p (start_before_end entries marks all p d below ends_p sorted periods) in
            let (q, z, below_q, is_z, starts_z) = Any-from_list_any (starts_entry j) (take p marks) before in
            let at_q : starts_entry j (get_or (take p marks) q d) ≡ true = rw (get_or_default (take p marks) q d z below_q ∙ is_z) starts_z in
            let less : q < p = omega (arith, below_q, length-take-le p marks (let lt = below in omega arith)) in
            let in_marks : starts_entry j (get_or marks q d) ≡ true = ap (starts_entry j) (sym (get_or-take p marks q d less)) ∙ at_q in
            let less_k : q < k = omega (arith, less, sooner) in
            let none = not_before_start entries marks all k j d within_j here is in
            let found = list_any_at (starts_entry j) (take k marks) q d (omega (arith, less_k, length-take-le k marks (let lt = here in omega arith))) (ap (starts_entry j) (get_or-take k marks q d less_k) ∙ in_marks) in
            absurd (never (list_any (starts_entry j) (take k marks)) none found)
      ]
    where
      turned : (b : Bool) → not b ≡ true → b ≡ false
      turned true e = cc (e)
      turned false e = refl

      never : (b : Bool) → b ≡ false → b ≡ true → ⊥
      never b e f = cc (e, f)

  -- an entry's row ends when the entry does
  row_ends : (k j : ℕ) (d : Endpoint) (x : Entry) → slice_get entries j ≡ Some x → k < length marks → starts_entry j (get_or marks k d) ≡ true
      → end_of x.table (row_number entries marks j) (drop (k + 1) events) ≡ x.to
  row_ends k j d x stands here is =
      ends_by x.table (row_number entries marks j) x.to (drop (k + 1) events)
      (All-drop (λ e. closes x.table (row_number entries marks j) e ≡ true → time_of e ≡ x.to) (k + 1) events (closed_in_time j x stands))
      (by (x.to == FOREVER) refl)
    where
      by : (b : Bool) → (x.to == FOREVER) ≡ b → (list_any (closes x.table (row_number entries marks j)) (drop (k + 1) events) ≡ true) ⊎ (x.to ≡ FOREVER)
      by true e = inr (eqb-true x.to FOREVER e)
      by false e = inl (closed_later k j d x stands here is e)

  -- the rows of the remaining events are those of the remaining endpoints
  module _ (t : ℕ) (v : List Value) (table : ℕ) where
    abbrev gone : ℕ → ℕ
    gone k = count_by (starts_in entries table) (take k marks)

    abbrev rows_left : ℕ → ℕ
    rows_left k = sum_by (valid_row t v) (rows_from table (gone k) (drop k events))

    abbrev marks_left : ℕ → ℕ
    marks_left k = sum_by (valid_mark t v entries table) (drop k marks)

    gone_more : (k : ℕ) (d : Endpoint) → k < length marks → gone (k + 1) ≡ gone k + tally (starts_in entries table (get_or marks k d))
    gone_more k d here =
        ap (count_by (starts_in entries table)) (take_more marks k d here) ∙ sum_by_push (λ m. tally (starts_in entries table m)) (take k marks) (get_or marks k d)

    marks_sum : (k : ℕ) (d : Endpoint) → k < length marks → marks_left k ≡ valid_mark t v entries table (get_or marks k d) + marks_left (k + 1)
    marks_sum k d here = ap (sum_by (valid_mark t v entries table)) (drop_more marks k d here) ∙ sum_by-cons (valid_mark t v entries table) (get_or marks k d) (drop (k + 1) marks)

    -- an endpoint that starts a row of the table adds what its row adds
    row_adds : (k : ℕ) (d : Endpoint) (e : Event) → k < length marks → starts_in entries table (get_or marks k d) ≡ true → IsEventAt entries marks (get_or marks k d) (get_or events k e)
        → rows_left k ≡ valid_mark t v entries table (get_or marks k d) + rows_left (k + 1)
    row_adds k d e here starts is_event =
        let m = get_or marks k d in
        let left = drop (k + 1) events in
        let parts = and_parts m.starts (table_at entries m.entry == table) starts in
        let s = start_is entries marks m (get_or events k e) is_event parts.0 in
        let x = s.entry in
        let table_m : table_at entries m.entry ≡ table = eqb-true (table_at entries m.entry) table parts.1 in
        let own : x.table ≡ table = sym (table_is entries marks m x s.stands) ∙ table_m in
        let own_is : (x.table == table) ≡ true = ap (λ n. n == table) own ∙ eqb-same table in
        let own_start : starts_entry m.entry m ≡ true = ap (λ b. b && (m.entry == m.entry)) parts.0 ∙ eqb-same m.entry in
        let number : row_number entries marks m.entry ≡ gone k
        = row_number_at entries marks all k m.entry d (slice_get_within entries m.entry x s.stands) here own_start ∙ ap (λ n. count_by (starts_in entries n) (take k marks)) table_m in
        let from_is : m.at ≡ x.from = time_from k d x here s.stands parts.0 in
        let to_is : end_of table (gone k) left ≡ x.to
        = ap (λ n. end_of n (gone k) left) (sym own) ∙ ap (λ r. end_of x.table r left) (sym number) ∙ row_ends k m.entry d x s.stands here own_start in
        let first : Row = record { number = gone k; values = x.values; from = m.at; to = end_of table (gone k) left } in
        let rows : rows_from table (gone k) (drop k events) ≡ first ∷ rows_from table (gone k + 1) left
        = ap (rows_from table (gone k)) (drop_more events k e (omega (arith, here, as_many))) ∙ starts_row entries marks table (gone k) x m.at (get_or events k e) left s.is own in
        let row_is : valid_row t v first ≡ valid_entry t v x
        = ap (λ a. valid t v x.values a (end_of table (gone k) left)) from_is ∙ ap (λ b. valid t v x.values x.from b) to_is in
        let mark_is : valid_mark t v entries table m ≡ valid_entry t v x
        = ap (λ b. cond b (option_map_or (valid_in t v table) (slice_get entries m.entry) 0) 0) parts.0
        ∙ ap (λ o. option_map_or (valid_in t v table) o 0) s.stands ∙ ap (λ b. cond b (valid_entry t v x) 0) own_is in
        let one : tally (starts_in entries table m) ≡ 1 = ap tally starts in
        let more : gone (k + 1) ≡ gone k + 1 = gone_more k d here ∙ ap (λ n. gone k + n) one in
        let later : sum_by (valid_row t v) (rows_from table (gone k + 1) left) ≡ rows_left (k + 1) = ap (λ n. sum_by (valid_row t v) (rows_from table n left)) (sym more) in
        ap (sum_by (valid_row t v)) rows ∙ sum_by-cons (valid_row t v) first (rows_from table (gone k + 1) left)
        ∙ ap (λ n. n + sum_by (valid_row t v) (rows_from table (gone k + 1) left)) (row_is ∙ sym mark_is) ∙ ap (λ n. valid_mark t v entries table m + n) later

    -- other endpoints add nothing
    none_adds : (k : ℕ) (d : Endpoint) (e : Event) → k < length marks → starts_in entries table (get_or marks k d) ≡ false → IsEventAt entries marks (get_or marks k d) (get_or events k e)
        → rows_left k ≡ valid_mark t v entries table (get_or marks k d) + rows_left (k + 1)
    none_adds k d e here other is_event =
        let m = get_or marks k d in
        let left = drop (k + 1) events in
        let rows : rows_from table (gone k) (drop k events) ≡ rows_from table (gone k) left
        = ap (rows_from table (gone k)) (drop_more events k e (omega (arith, here, as_many))) ∙ passes_over entries marks table m (get_or events k e) is_event other (gone k) left in
        let none : tally (starts_in entries table m) ≡ 0 = ap tally other in
        let more : gone (k + 1) ≡ gone k = gone_more k d here ∙ ap (λ n. gone k + n) none ∙ omega arith in
        let same : sum_by (valid_row t v) (rows_from table (gone k) left) ≡ rows_left (k + 1) = ap (λ n. sum_by (valid_row t v) (rows_from table n left)) (sym more) in
        omega (arith, ap (sum_by (valid_row t v)) rows, same, nothing m.starts refl (slice_get entries m.entry) refl)
      where
        nothing : (b : Bool) → (get_or marks k d).starts ≡ b → (o : Option Entry) → slice_get entries (get_or marks k d).entry ≡ o → cond b (option_map_or (valid_in t v table) o 0) 0 ≡ 0
        nothing false i o f = refl
        nothing true i None f = refl
        nothing true i (Some x) f =
            let m = get_or marks k d in
            let apart : (x.table == table) ≡ false
            = ap (λ n. n == table) (sym (table_is entries marks m x f)) ∙ sym (ap (λ b. b && (table_at entries m.entry == table)) i) ∙ other in
            ap (λ b. cond b (valid_entry t v x) 0) apart

    all_left : (left k : ℕ) → k + left ≡ length marks → rows_left k ≡ marks_left k
    all_left zero k whole =
        let none : drop k marks ≡ [] = drop_all k marks (omega (arith, whole)) in
        let over : drop k events ≡ [] = drop_all k events (omega (arith, whole, as_many)) in
        ap (λ es. sum_by (valid_row t v) (rows_from table (gone k) es)) over ∙ sym (ap (sum_by (valid_mark t v entries table)) none)
    all_left (suc left) k whole =
        let d : Endpoint = record { at = 0; starts = true; entry = 0 } in
        let e : Event = End 0 0 0 in
        let here : k < length marks = omega (arith, whole) in
        let rest = all_left left (k + 1) (omega (arith, whole)) in
        let is_event = at_place entries marks marks events k d e zip (omega (arith, here, as_many)) in
        omega (arith, rest, marks_sum k d here, step d e here (starts_in entries table (get_or marks k d)) refl is_event)
      where
        step : (d : Endpoint) (e : Event) → k < length marks → (b : Bool) → starts_in entries table (get_or marks k d) ≡ b → IsEventAt entries marks (get_or marks k d) (get_or events k e)
            → rows_left k ≡ valid_mark t v entries table (get_or marks k d) + rows_left (k + 1)
        step d e here true i is_event = row_adds k d e here i is_event
        step d e here false i is_event = none_adds k d e here i is_event

    -- how often a row is valid by all events
    pub events_valid : occurrences (valid_at events (length events) table t) v ≡ sum_by (valid_in t v table) entries
    events_valid =
        rows_valid t v (rows_of events (length events) table)
        ∙ ap (λ es. sum_by (valid_row t v) (rows_from table 0 es)) (take-length events)
        ∙ all_left (length marks) 0 (omega arith)
        ∙ all_marks_valid t v entries marks table all

-- ---- the events of entries

-- the event of an endpoint
abbrev event_of : List Entry → List Endpoint → Endpoint → Event
event_of entries marks m = option_map_or (event_at entries marks m) (slice_get entries m.entry) (End 0 0 0)

event_is : (entries : List Entry) (marks : List Endpoint) (m : Endpoint) → IsMarkFrom 0 entries m → IsEventAt entries marks m (event_of entries marks m)
event_is entries marks m is =
    let place : is.place ≡ m.entry = omega (arith, is.numbered) in
    by (slice_get entries m.entry) (ap (slice_get entries) (sym place) ∙ is.stands)
  where
    by : (o : Option Entry) → o ≡ Some is.entry → IsSomeAnd o (λ x. option_map_or (event_at entries marks m) o (End 0 0 0) ≡ event_at entries marks m x)
    by None e = cc (e)
    by (Some x) e = refl

have_events : (entries : List Entry) (marks ms : List Endpoint) → All (IsMarkFrom 0 entries) ms → AllZip (IsEventAt entries marks) ms (map (event_of entries marks) ms)
have_events entries marks [] are = tt
have_events entries marks (m ∷ ms) are =
    (event_is entries marks m (All-head (IsMarkFrom 0 entries) m ms are), have_events entries marks ms (All-tail (IsMarkFrom 0 entries) m ms are))

-- entries have events
pub record HaveSome (entries : List Entry) : Type 0 where
  pub events : List Event
  pub are : AreEventsOf entries events

pub entries_have_some : (entries : List Entry) → HaveSome entries
entries_have_some entries =
    let s = has_sorted endpoint_cmp mark_total (endpoints_from 0 entries) in
    record {
      events = map (event_of entries s.order) s.order;
      are = record {
        marks = s.order;
        all = s.same;
        ordered = s.sorted;
        events_are = record {
          as_many = length-map s.order (event_of entries s.order);
          each = have_events entries s.order s.order (marks_stand entries s.order s.same);
        };
      };
    }

-- ---- tables hold what their history holds

pub tables_hold : (catalogue : Catalogue) (entries : List Entry) (events : List Event) (tables : List (List Fragment)) (table : ℕ) → AreEventsOf entries events → AreRowsOf entries tables
    → All (λ e. e.from < e.to) entries → All (Stored catalogue.tables) entries → HoldsRows tables events (length events) table
tables_hold catalogue entries events tables table are rows periods stored t v =
    table_valid t v entries tables table rows
    ∙ sym (events_valid catalogue entries are.marks events are.all are.ordered periods stored are.events_are.as_many are.events_are.each t v table)
