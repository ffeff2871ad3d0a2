-- The events of entries that fit their tables are a history.
use Rattle.std.proofs.Common.{◌≡◌, ℕ, suc, zero, ◌+◌, ◌-◌, ◌<◌, ◌≤◌, ◌==◌, ◌&&◌, not, Bool, true, false, cond, if◌then◌else◌, List, [], ◌∷◌, ◌++◌, Option, Some, None, length, take, get_or, slice_get, sum_by, refl, sym, ap, subst, ◌∙◌, arith, inl, inr}
use Rattle.std.specs.Prelude.{All, Contains, IfSome, IsSomeAnd, IsSorted, IsPermutation}
use Rattle.std.specs.List.{AllZip}
use Rattle.std.specs.Ordering.{is_lt, nat_cmp, bool_cmp, ordering_then}
use Rattle.std.specs.declared.cmp.Ordering.TheVariants.{Less}
use Rattle.std.specs.Cmp.{nat_cmp_is}
use Rattle.std.proofs.lemmas.Bool.{and_parts, cases_lt, eqb-true}
use Rattle.std.proofs.lemmas.Bool.Decides.{nat_tests}
use Rattle.std.proofs.lemmas.Option.{get_or_from_slice_get, slice_get-get_or, slice_get_within}
use Rattle.std.proofs.lemmas.List.{get_or-take, get_or_default, length-take-le, take_more}
use Rattle.std.proofs.Math.Seq.{take-length}
use Rattle.std.proofs.lemmas.List.Elements.{All-tail}
use Rattle.std.proofs.lemmas.List.Folds.{Any-from_list_any}
use Rattle.std.proofs.lemmas.List.Sums.{sum_by-append, sum_by-cons, sum_by_push}
use Rattle.std.proofs.lemmas.List.Sorted.{sum_by-IsPermutation, sorted_far, ranks_by}
use Rattle.tq_base.specs.declared.catalogue.Catalogue.{Catalogue}
use Rattle.tq_base.specs.declared.catalogue.Schema.{Schema}
use Rattle.tq_base.specs.declared.period.TheConstants.{FOREVER}
use Rattle.tq_base.specs.Catalogues.{Fit}
use Rattle.tq_event.specs.Entries.{Entry}
use Rattle.tq_event.specs.declared.event.Event.{Event}
use Rattle.tq_event.specs.declared.event.Event.TheVariants.{Start, End}
use Rattle.tq_event.specs.declared.endpoint.Endpoint.{Endpoint}
use Rattle.tq_event.specs.History.{CanHappen, IsHistory, IsNotBefore, IsOpenBefore, Row, end_of, rows_from, rows_of, time_of}
use Rattle.tq_event.specs.Loading.{AreEventsOf, IsEventAt, event_at, endpoint_cmp, endpoints_from, endpoints_of_entry, row_number, starts_entry, starts_in, table_at}
use Rattle.tq_event.proofs.CatalogueLemmas.{Stored}
use Rattle.tq_event.proofs.EndpointLemmas.{mark_total, marks_stand, row_number_at, start_before_end, starts_listed}

abbrev tally : Bool → ℕ
tally b = cond b 1 0

pub eqb-same : (n : ℕ) → (n == n) ≡ true
eqb-same n = grind (arith, nat_tests)

-- ---- counting

module _ {X : Type 0} (p : X → Bool) where
  abbrev passes : List X → ℕ
  passes xs = sum_by (λ x. tally (p x)) xs

  take_le : (xs : List X) (a b : ℕ) → a ≤ b → passes (take a xs) ≤ passes (take b xs)
  take_le [] zero zero le = omega arith
  take_le [] zero (suc b) le = omega arith
  take_le [] (suc a) zero le = omega arith
  take_le [] (suc a) (suc b) le = omega arith
  take_le (x ∷ xs) zero b le = omega arith
  take_le (x ∷ xs) (suc a) zero le = absurd (omega arith)
  take_le (x ∷ xs) (suc a) (suc b) le =
      omega (arith, sum_by-cons (λ y. tally (p y)) x (take a xs), sum_by-cons (λ y. tally (p y)) x (take b xs), take_le xs a b (omega arith))

  pub take_one_more : (xs : List X) (i : ℕ) (d : X) → i < length xs → p (get_or xs i d) ≡ true → passes (take (i + 1) xs) ≡ passes (take i xs) + 1
  take_one_more xs i d here is =
      let one : tally (p (get_or xs i d)) ≡ 1 = rw is refl in
      omega (arith, ap passes (take_more xs i d here), sum_by_push (λ x. tally (p x)) (take i xs) (get_or xs i d), one)

  -- if an element passes and a later one does, more pass before the later one
  pub fewer_before : (xs : List X) (i k : ℕ) (d : X) → i < k → i < length xs → p (get_or xs i d) ≡ true → passes (take i xs) < passes (take k xs)
  fewer_before xs i k d less here is = omega (arith, take_one_more xs i d here is, take_le xs (i + 1) k (omega arith))

  pub two_pass : (xs : List X) (i k : ℕ) (d : X) → i < k → k < length xs → p (get_or xs i d) ≡ true → p (get_or xs k d) ≡ true → 1 < passes xs
  two_pass xs i k d less here first second =
      omega (arith, fewer_before xs i k d less (omega arith) first, take_one_more xs k d here second, take_le xs (k + 1) (length xs) (omega arith), ap passes (take-length xs))

-- ---- each entry ends at most once

abbrev pub ends_entry : ℕ → Endpoint → Bool
ends_entry j m = not m.starts && (m.entry == j)

abbrev pub counted : ℕ → Endpoint → ℕ
counted j m = tally (ends_entry j m)

ends_own : (n j : ℕ) (e : Entry) (b : Bool) → sum_by (counted j) (record { at = e.from; starts = true; entry = n } ∷ (if b then [] else record { at = e.to; starts = false; entry = n } ∷ [])) ≤ tally (n == j)
ends_own n j e true = omega (arith, sum_by-cons (counted j) (record { at = e.from; starts = true; entry = n }) [])
ends_own n j e false =
    omega (arith, sum_by-cons (counted j) (record { at = e.from; starts = true; entry = n }) (record { at = e.to; starts = false; entry = n } ∷ []), sum_by-cons (counted j) (record { at = e.to; starts = false; entry = n }) [])

pub no_end : (n j : ℕ) (entries : List Entry) → j < n → sum_by (counted j) (endpoints_from n entries) ≡ 0
no_end n j [] below = refl
no_end n j (e ∷ entries) below =
    let other : tally (n == j) ≡ 0 = grind (arith, nat_tests) in
    omega (arith, sum_by-append (counted j) (endpoints_of_entry n e) (endpoints_from (n + 1) entries), ends_own n j e (e.to == FOREVER), other, no_end (n + 1) j entries (omega arith))

few_ends : (n j : ℕ) (entries : List Entry) → sum_by (counted j) (endpoints_from n entries) ≤ 1
few_ends n j [] = omega arith
few_ends n j (e ∷ entries) = elim (cases_lt j (n + 1)) [
  | inl below ↦
      let one : tally (n == j) ≤ 1 = grind (arith, nat_tests) in
      omega (arith, sum_by-append (counted j) (endpoints_of_entry n e) (endpoints_from (n + 1) entries), ends_own n j e (e.to == FOREVER), one, no_end (n + 1) j entries below)
  | inr above ↦
      let other : tally (n == j) ≡ 0 = grind (arith, nat_tests) in
      omega (arith, sum_by-append (counted j) (endpoints_of_entry n e) (endpoints_from (n + 1) entries), ends_own n j e (e.to == FOREVER), other, few_ends (n + 1) j entries)
]

-- ---- the event of an endpoint

module _ (entries : List Entry) (marks : List Endpoint) where
  pub record IsStart (m : Endpoint) (e : Event) : Type 0 where
    pub entry : Entry
    pub stands : slice_get entries m.entry ≡ Some entry
    pub is : e ≡ Start entry.table entry.values m.at

  pub record IsEnd (m : Endpoint) (e : Event) : Type 0 where
    pub entry : Entry
    pub stands : slice_get entries m.entry ≡ Some entry
    pub is : e ≡ End entry.table (row_number entries marks m.entry) m.at

  pub start_is : (m : Endpoint) (e : Event) → IsEventAt entries marks m e → m.starts ≡ true → IsStart m e
  start_is m e at starts = by (slice_get entries m.entry) refl at
    where
      by : (o : Option Entry) → slice_get entries m.entry ≡ o → IsSomeAnd o (λ x. e ≡ event_at entries marks m x) → IsStart m e
      by None i at = absurd at
      by (Some x) i at = record { entry = x; stands = i; is = at ∙ ap (λ b. if b then Start x.table x.values m.at else End x.table (row_number entries marks m.entry) m.at) starts }

  pub end_is : (m : Endpoint) (e : Event) → IsEventAt entries marks m e → m.starts ≡ false → IsEnd m e
  end_is m e at ends = by (slice_get entries m.entry) refl at
    where
      by : (o : Option Entry) → slice_get entries m.entry ≡ o → IsSomeAnd o (λ x. e ≡ event_at entries marks m x) → IsEnd m e
      by None i at = absurd at
      by (Some x) i at = record { entry = x; stands = i; is = at ∙ ap (λ b. if b then Start x.table x.values m.at else End x.table (row_number entries marks m.entry) m.at) ends }

  pub table_is : (m : Endpoint) (x : Entry) → slice_get entries m.entry ≡ Some x → table_at entries m.entry ≡ x.table
  table_is m x i = rw i refl

  time_is : (m : Endpoint) (e : Event) → IsEventAt entries marks m e → time_of e ≡ m.at
  time_is m e at = by m.starts refl
    where
      by : (b : Bool) → m.starts ≡ b → time_of e ≡ m.at
      by true i = ap time_of ((start_is m e at i).is)
      by false i = ap time_of ((end_is m e at i).is)

  -- an event that does not start a row of the table leaves the following rows unchanged
  pub passes_over : (t : ℕ) (m : Endpoint) (e : Event) → IsEventAt entries marks m e → starts_in entries t m ≡ false → (next : ℕ) (es : List Event) → rows_from t next (e ∷ es) ≡ rows_from t next es
  passes_over t m e at none next es = by m.starts refl
    where
      by : (b : Bool) → m.starts ≡ b → rows_from t next (e ∷ es) ≡ rows_from t next es
      by true i =
          let s = start_is m e at i in
          let other : (s.entry.table == t) ≡ false = ap (λ u. u == t) (sym (table_is m s.entry s.stands)) ∙ sym (ap (λ b. b && (table_at entries m.entry == t)) i) ∙ none in
          rw (s.is, other) refl
      by false i = rw ((end_is m e at i).is) refl

  -- a row with no end among the events lasts forever
  abbrev ends_row : ℕ → ℕ → Event → Bool
  ends_row t r (Start u v at) = false
  ends_row t r (End u s at) = (u == t) && (s == r)

  lasts : (t r : ℕ) (es : List Event) → All (λ e. ends_row t r e ≡ false) es → end_of t r es ≡ FOREVER
  lasts t r [] none = refl
  lasts t r (Start u v at ∷ es) none = lasts t r es (All-tail (λ e. ends_row t r e ≡ false) (Start u v at) es none)
  lasts t r (End u s at ∷ es) none =
      let first : ((u == t) && (s == r)) ≡ false = none 0 (End u s at) (omega arith) in
      rw first (lasts t r es (All-tail (λ e. ends_row t r e ≡ false) (End u s at) es none))

  record IsThere (t next : ℕ) (es : List Event) (number from : ℕ) : Type 0 where
    pub row : Row
    pub there : Contains (rows_from t next es) row
    pub number_is : row.number ≡ number
    pub to_is : row.to ≡ FOREVER
    pub from_is : row.from ≡ from

  there_later : (r row : Row) (rows : List Row) → Contains rows row → Contains (r ∷ rows) row
  there_later r row rows (k, below, is) = (suc k, omega (arith, below), is)

  pub starts_row : (t next : ℕ) (x : Entry) (at : ℕ) (e : Event) (es : List Event) → e ≡ Start x.table x.values at → x.table ≡ t
      → rows_from t next (e ∷ es) ≡ record { number = next; values = x.values; from = at; to = end_of t next es } ∷ rows_from t (next + 1) es
  starts_row t next x at e es is own = rw (is, own, eqb-same t) refl

  -- the row that an endpoint starts is among the rows, open if no event ends it
  row_there : (t r : ℕ) (ms : List Endpoint) (es : List Event) (p next : ℕ) (d : Endpoint) → AllZip (IsEventAt entries marks) ms es → p < length ms
      → starts_in entries t (get_or ms p d) ≡ true → r ≡ next + sum_by (λ m. tally (starts_in entries t m)) (take p ms) → All (λ e. ends_row t r e ≡ false) es
      → IsThere t next es r (get_or ms p d).at
  row_there t r [] es p next d zip here starts number none = absurd (omega arith)
  row_there t r (m ∷ ms) [] p next d zip here starts number none = absurd zip
  row_there t r (m ∷ ms) (e ∷ es) zero next d zip here starts number none =
      let parts = and_parts m.starts (table_at entries m.entry == t) starts in
      let s = start_is m e zip.0 parts.0 in
      let own : s.entry.table ≡ t = sym (table_is m s.entry s.stands) ∙ eqb-true (table_at entries m.entry) t parts.1 in
      let first : Row = record { number = next; values = s.entry.values; from = m.at; to = end_of t next es } in
      let same : rows_from t next (e ∷ es) ≡ first ∷ rows_from t (next + 1) es = starts_row t next s.entry m.at e es s.is own in
      let is_next : r ≡ next = omega (arith, number) in
      record {
        row = first;
        there = subst (λ rows. Contains rows first) (sym same) (0, omega arith, refl);
        number_is = sym is_next;
        to_is = lasts t next es (subst (λ n. All (λ x. ends_row t n x ≡ false) es) is_next (All-tail (λ x. ends_row t r x ≡ false) e es none));
        from_is = refl;
      }
  row_there t r (m ∷ ms) (e ∷ es) (suc p) next d zip here starts number none =
      by (starts_in entries t m) refl (λ after is. row_there t r ms es p after d zip.1 (omega (arith, here)) starts is (All-tail (λ x. ends_row t r x ≡ false) e es none))
    where
      sum : sum_by (λ x. tally (starts_in entries t x)) (take (suc p) (m ∷ ms)) ≡ tally (starts_in entries t m) + sum_by (λ x. tally (starts_in entries t x)) (take p ms)
      sum = sum_by-cons (λ x. tally (starts_in entries t x)) m (take p ms)

      by : (b : Bool) → starts_in entries t m ≡ b → ((after : ℕ) → r ≡ after + sum_by (λ x. tally (starts_in entries t x)) (take p ms) → IsThere t after es r (get_or ms p d).at) → IsThere t next (e ∷ es) r (get_or ms p d).at
      by true i go =
          let parts = and_parts m.starts (table_at entries m.entry == t) i in
          let s = start_is m e zip.0 parts.0 in
          let own : s.entry.table ≡ t = sym (table_is m s.entry s.stands) ∙ eqb-true (table_at entries m.entry) t parts.1 in
          let first : Row = record { number = next; values = s.entry.values; from = m.at; to = end_of t next es } in
          let same : rows_from t next (e ∷ es) ≡ first ∷ rows_from t (next + 1) es = starts_row t next s.entry m.at e es s.is own in
          let one : tally (starts_in entries t m) ≡ 1 = rw i refl in
          let later = go (next + 1) (omega (arith, number, sum, one)) in
          record {
            row = later.row;
            there = subst (λ rows. Contains rows later.row) (sym same) (there_later first later.row (rows_from t (next + 1) es) later.there);
            number_is = later.number_is;
            to_is = later.to_is;
            from_is = later.from_is;
          }
      by false i go =
          let none_here : tally (starts_in entries t m) ≡ 0 = rw i refl in
          let later = go next (omega (arith, number, sum, none_here)) in
          record {
            row = later.row;
            there = subst (λ rows. Contains rows later.row) (sym (passes_over t m e zip.0 i next es)) later.there;
            number_is = later.number_is;
            to_is = later.to_is;
            from_is = later.from_is;
          }

  -- facts about the parts of a list
  record IsSplit (ms : List Endpoint) (before : List Event) (event : Event) (d : Endpoint) : Type 0 where
    pub front : AllZip (IsEventAt entries marks) (take (length before) ms) before
    pub here : IsEventAt entries marks (get_or ms (length before) d) event
    pub within : length before < length ms

  split_at : (ms : List Endpoint) (before : List Event) (event : Event) (after : List Event) (d : Endpoint) → AllZip (IsEventAt entries marks) ms (before ++ event ∷ after) → IsSplit ms before event d
  split_at [] [] event after d zip = absurd zip
  split_at [] (b ∷ before) event after d zip = absurd zip
  split_at (m ∷ ms) [] event after d zip = record { front = tt; here = zip.0; within = omega arith }
  split_at (m ∷ ms) (b ∷ before) event after d zip =
      let rest = split_at ms before event after d zip.1 in
      record { front = (zip.0, rest.front); here = rest.here; within = omega (arith, rest.within) }

  pub at_place : (ms : List Endpoint) (es : List Event) (i : ℕ) (d : Endpoint) (x : Event) → AllZip (IsEventAt entries marks) ms es → i < length es → IsEventAt entries marks (get_or ms i d) (get_or es i x)
  at_place [] [] i d x zip here = absurd (omega arith)
  at_place [] (e ∷ es) i d x zip here = absurd zip
  at_place (m ∷ ms) [] i d x zip here = absurd zip
  at_place (m ∷ ms) (e ∷ es) zero d x zip here = zip.0
  at_place (m ∷ ms) (e ∷ es) (suc i) d x zip here = at_place ms es i d x zip.1 (omega (arith, here))

-- ---- each event is admissible

module _ (catalogue : Catalogue) (entries : List Entry) (marks : List Endpoint) (all : IsPermutation (endpoints_from 0 entries) marks) (sorted : IsSorted endpoint_cmp marks) (periods : All (λ e. e.from < e.to) entries) (stored : All (Stored catalogue.tables) entries) where
  stored_at : (m : Endpoint) (x : Entry) → slice_get entries m.entry ≡ Some x → Stored catalogue.tables x
  stored_at m x i = subst (Stored catalogue.tables) (get_or_from_slice_get entries m.entry x x i) (stored m.entry x (slice_get_within entries m.entry x i))

  in_time : (i k : ℕ) (d : Endpoint) → i ≤ k → k < length marks → (get_or marks i d).at ≤ (get_or marks k d).at
  in_time i k d le here = elim (cases_lt (get_or marks k d).at (get_or marks i d).at) [
    | inr up ↦ up
    | inl less ↦
        let a = get_or marks k d in
        let b = get_or marks i d in
        let far = sorted_far (λ x y. is_lt (endpoint_cmp x y)) (ranks_by mark_total (λ x. x)) marks sorted i k d le here in
        let yes : is_lt (endpoint_cmp a b) ≡ true = ap (λ r. is_lt (ordering_then (ordering_then r (bool_cmp a.starts b.starts)) (nat_cmp a.entry b.entry))) (sym (nat_cmp_is a.at b.at Less less)) in
        absurd (never (is_lt (endpoint_cmp a b)) far yes)
  ]
    where
      never : (b : Bool) → b ≡ false → b ≡ true → ⊥
      never b e f = cc (e, f)

  -- two entries of a table with the same row number are the same
  pub same_entry : (i j : ℕ) (d : Endpoint) → i < length entries → j < length entries → table_at entries i ≡ table_at entries j → row_number entries marks i ≡ row_number entries marks j → i ≡ j
  same_entry i j d below_i below_j tables rows =
      let (p, x, here_p, is_p, starts_p) = Any-from_list_any (starts_entry i) marks (starts_listed entries marks all i below_i) in
      let (q, y, here_q, is_q, starts_q) = Any-from_list_any (starts_entry j) marks (starts_listed entries marks all j below_j) in
      let at_p : starts_entry i (get_or marks p d) ≡ true = rw (get_or_default marks p d x here_p ∙ is_p) starts_p in
      let at_q : starts_entry j (get_or marks q d) ≡ true = rw (get_or_default marks q d y here_q ∙ is_q) starts_q in
      let number_p = row_number_at entries marks all p i d below_i here_p at_p in
      let number_q = row_number_at entries marks all q j d below_j here_q at_q in
      let counts : sum_by (λ m. tally (starts_in entries (table_at entries j) m)) (take p marks) ≡ sum_by (λ m. tally (starts_in entries (table_at entries j) m)) (take q marks)
      = ap (λ t. sum_by (λ m. tally (starts_in entries t m)) (take p marks)) (sym tables) ∙ sym number_p ∙ rows ∙ number_q in
      let parts_p = and_parts (get_or marks p d).starts ((get_or marks p d).entry == i) at_p in
      let parts_q = and_parts (get_or marks q d).starts ((get_or marks q d).entry == j) at_q in
      let entry_p = eqb-true (get_or marks p d).entry i parts_p.1 in
      let entry_q = eqb-true (get_or marks q d).entry j parts_q.1 in
      let in_p : starts_in entries (table_at entries j) (get_or marks p d) ≡ true = rw (parts_p.0, entry_p, tables, eqb-same (table_at entries j)) refl in
      let in_q : starts_in entries (table_at entries j) (get_or marks q d) ≡ true = rw (parts_q.0, entry_q, eqb-same (table_at entries j)) refl in
      elim (cases_lt p q) [
        | inl less ↦ absurd (omega (arith, counts, fewer_before (starts_in entries (table_at entries j)) marks p q d less here_p in_p))
        | inr ge ↦ elim (cases_lt q p) [
          | inl less ↦ absurd (omega (arith, counts, fewer_before (starts_in entries (table_at entries j)) marks q p d less here_q in_q))
          | inr le ↦ sym entry_p ∙ ap (λ n. (get_or marks n d).entry) (let same : p ≡ q = omega arith in same) ∙ entry_q
        ]
      ]

  module _ (before : List Event) (event : Event) (d : Endpoint) (s : IsSplit entries marks marks before event d) where
    not_before : IsNotBefore before (time_of event)
    not_before = by before refl
      where
        by : (es : List Event) → before ≡ es → IfSome (slice_get es (length es - 1)) (λ last. time_of last ≤ time_of event)
        by [] i = tt
        by (e ∷ es) i =
            let n = length (e ∷ es) - 1 in
            let len : length before ≡ length (e ∷ es) = ap length i in
            let zip : AllZip (IsEventAt entries marks) (take (length before) marks) (e ∷ es) = subst (λ xs. AllZip (IsEventAt entries marks) (take (length before) marks) xs) i s.front in
            let last = at_place entries marks (take (length before) marks) (e ∷ es) n d e zip (omega arith) in
            let time = time_is entries marks (get_or (take (length before) marks) n d) (get_or (e ∷ es) n e) last in
            let place : get_or (take (length before) marks) n d ≡ get_or marks n d = get_or-take (length before) marks n d (omega (arith, len)) in
            let up = in_time n (length before) d (omega (arith, len)) s.within in
            let now = time_is entries marks (get_or marks (length before) d) event s.here in
            subst (λ o. IfSome o (λ x. time_of x ≤ time_of event)) (sym (slice_get-get_or (e ∷ es) n e (omega arith)))
            (omega (arith, time, ap (λ (m : Endpoint). m.at) place, up, now))

    ends_once : (i : ℕ) → i < length before → (get_or marks i d).starts ≡ false → (get_or marks i d).entry ≡ (get_or marks (length before) d).entry → (get_or marks (length before) d).starts ≡ false → ⊥
    ends_once i less first same second =
        let j = (get_or marks (length before) d).entry in
        let one : ends_entry j (get_or marks i d) ≡ true = rw (first, same, eqb-same j) refl in
        let two : ends_entry j (get_or marks (length before) d) ≡ true = rw (second, eqb-same j) refl in
        omega (arith, two_pass (ends_entry j) marks i (length before) d less s.within one two, sum_by-IsPermutation (counted j) (endpoints_from 0 entries) marks all, few_ends 0 j entries)

    -- no earlier event ends the row that ends now
    unended : (x : Entry) → slice_get entries (get_or marks (length before) d).entry ≡ Some x → (get_or marks (length before) d).starts ≡ false
        → All (λ e. ends_row entries marks x.table (row_number entries marks (get_or marks (length before) d).entry) e ≡ false) before
    unended x stands ends i b below =
        by (get_or before i b) (get_or marks i d).starts refl
        (subst (λ m. IsEventAt entries marks m (get_or before i b)) (get_or-take (length before) marks i d below) (at_place entries marks (take (length before) marks) before i d b s.front below))
      where
        j : ℕ
        j = (get_or marks (length before) d).entry

        by : (e : Event) (t : Bool) → (get_or marks i d).starts ≡ t → IsEventAt entries marks (get_or marks i d) e → ends_row entries marks x.table (row_number entries marks (get_or marks (length before) d).entry) e ≡ false
        by e true starts at = let is = start_is entries marks (get_or marks i d) e at starts in rw (is.is) refl
        by e false starts at =
            let is = end_is entries marks (get_or marks i d) e at starts in
            rw (is.is) (apart is.entry is.stands (is.entry.table == x.table) refl (row_number entries marks (get_or marks i d).entry == row_number entries marks (get_or marks (length before) d).entry) refl)
          where
            apart : (y : Entry) → slice_get entries (get_or marks i d).entry ≡ Some y → (u : Bool) → (y.table == x.table) ≡ u → (v : Bool)
                → (row_number entries marks (get_or marks i d).entry == row_number entries marks (get_or marks (length before) d).entry) ≡ v → (u && v) ≡ false
            apart y is false e v f = refl
            apart y is true e false f = refl
            apart y is true e true f =
                let tables = table_is entries marks (get_or marks i d) y is ∙ eqb-true y.table x.table e ∙ sym (table_is entries marks (get_or marks (length before) d) x stands) in
                let rows = eqb-true (row_number entries marks (get_or marks i d).entry) (row_number entries marks (get_or marks (length before) d).entry) f in
                absurd (ends_once i below starts
                (same_entry (get_or marks i d).entry (get_or marks (length before) d).entry d (slice_get_within entries (get_or marks i d).entry y is) (slice_get_within entries (get_or marks (length before) d).entry x stands) tables rows)
                ends)

    open_before : (x : Entry) → slice_get entries (get_or marks (length before) d).entry ≡ Some x → (get_or marks (length before) d).starts ≡ false
        → IsOpenBefore before x.table (row_number entries marks (get_or marks (length before) d).entry) (get_or marks (length before) d).at
    open_before x stands ends =
        let k = length before in
        let m = get_or marks k d in
        let j = m.entry in
        let t = x.table in
        let within_j = slice_get_within entries j x stands in
        let (p, y, below, is, starts) = Any-from_list_any (starts_entry j) (take k marks) (start_before_end entries marks all k d s.within ends sorted periods) in
        let len : length (take k marks) ≡ k = length-take-le k marks (let lt = s.within in omega arith) in
        let less : p < k = omega (arith, below, len) in
        let place : get_or (take k marks) p d ≡ get_or marks p d = get_or-take k marks p d less in
        let at_p : starts_entry j (get_or marks p d) ≡ true = rw (sym place ∙ get_or_default (take k marks) p d y below ∙ is) starts in
        let parts = and_parts (get_or marks p d).starts ((get_or marks p d).entry == j) at_p in
        let entry_p = eqb-true (get_or marks p d).entry j parts.1 in
        let table_j = table_is entries marks m x stands in
        let number = row_number_at entries marks all p j d within_j (let lt = s.within in omega arith) at_p in
        let in_p : starts_in entries t (get_or (take k marks) p d) ≡ true = rw (place, parts.0, entry_p, table_j, eqb-same t) refl in
        let cut : take p (take k marks) ≡ take p marks = take_less marks p k (let lt = less in omega arith) in
        let number_is : row_number entries marks j ≡ 0 + sum_by (λ z. tally (starts_in entries t z)) (take p (take k marks))
        = omega (arith, number, ap (λ u. sum_by (λ z. tally (starts_in entries u z)) (take p marks)) table_j, ap (λ ms. sum_by (λ z. tally (starts_in entries t z)) ms) cut) in
        let there = row_there entries marks t (row_number entries marks j) (take k marks) before p 0 d s.front below in_p number_is (unended x stands ends) in
        let start = marks_stand entries marks all p d (let lt = s.within in omega arith) in
        let end = marks_stand entries marks all k d s.within in
        let from_is : (get_or marks p d).at ≡ x.from = start.at_start parts.0 ∙ ap (λ (e : Entry). e.from) (same_read start.place j start.entry x (omega (arith, start.numbered, entry_p)) start.stands stands) in
        let to_is : m.at ≡ x.to = end.at_end ends ∙ ap (λ (e : Entry). e.to) (same_read end.place j end.entry x (omega (arith, end.numbered)) end.stands stands) in
        let period : x.from < x.to = rw (get_or_from_slice_get entries j x x stands) at (periods j x within_j) in
        let rows : rows_of before (length before) t ≡ rows_from t 0 before = ap (rows_from t 0) (take-length before) in
        (there.row, subst (λ rs. Contains rs there.row) (sym rows) there.there, there.number_is, there.to_is, omega (arith, there.from_is, ap (λ (z : Endpoint). z.at) place, from_is, to_is, period))
      where
        same_read : (a b : ℕ) (e f : Entry) → a ≡ b → slice_get entries a ≡ Some e → slice_get entries b ≡ Some f → e ≡ f
        same_read a b e f i g h = cc (i, g, h)

        take_less : (ms : List Endpoint) (a b : ℕ) → a ≤ b → take a (take b ms) ≡ take a ms
        take_less [] zero zero le = refl
        take_less [] zero (suc b) le = refl
        take_less [] (suc a) zero le = refl
        take_less [] (suc a) (suc b) le = refl
        take_less (z ∷ ms) zero b le = refl
        take_less (z ∷ ms) (suc a) zero le = absurd (omega arith)
        take_less (z ∷ ms) (suc a) (suc b) le = ap (λ ns. z ∷ ns) (take_less ms a b (omega arith))

    can_happen : CanHappen catalogue before event
    can_happen = by (get_or marks (length before) d).starts refl
      where
        by : (b : Bool) → (get_or marks (length before) d).starts ≡ b → CanHappen catalogue before event
        by true i =
            let is = start_is entries marks (get_or marks (length before) d) event s.here i in
            subst (CanHappen catalogue before) (sym is.is) (stored_at (get_or marks (length before) d) is.entry is.stands)
        by false i =
            let is = end_is entries marks (get_or marks (length before) d) event s.here i in
            subst (CanHappen catalogue before) (sym is.is) (table_below is.entry (stored_at (get_or marks (length before) d) is.entry is.stands), open_before is.entry is.stands i)
          where
            table_below : (x : Entry) → Stored catalogue.tables x → x.table < length catalogue.tables
            table_below x st = there (slice_get catalogue.tables x.table) refl st
              where
                there : (o : Option Schema) → slice_get catalogue.tables x.table ≡ o → IsSomeAnd o (λ (z : Schema). Fit z.columns x.values) → x.table < length catalogue.tables
                there None i st = absurd st
                there (Some z) i st = slice_get_within catalogue.tables x.table z i

pub is_history : (catalogue : Catalogue) (entries : List Entry) (events : List Event) → AreEventsOf entries events → All (λ e. e.from < e.to) entries → All (Stored catalogue.tables) entries → IsHistory catalogue events
is_history catalogue entries events are periods stored before event after is =
    let zip = subst (AllZip (IsEventAt entries are.marks) are.marks) is are.events_are.each in
    let d : Endpoint = record { at = 0; starts = true; entry = 0 } in
    let s = split_at entries are.marks are.marks before event after d zip in
    (not_before catalogue entries are.marks are.all are.ordered periods stored before event d s, can_happen catalogue entries are.marks are.all are.ordered periods stored before event d s)
