-- The events of a log, while the indexes that have their values change.
use Rattle.std.proofs.Common.{◌≡◌, ℕ, zero, suc, ◌+◌, ◌<◌, ◌≤◌, ◌==◌, Bool, true, false, if◌then◌else◌, List, [], ◌∷◌, ◌++◌, Option, Some, None, length, map, take, get_or, slice_get, nat_le, refl, sym, ap, subst, ◌∙◌, inl, inr, arith, count_by, length-append}
use Rattle.std.specs.Prelude.{All, IsSomeAnd}
use Rattle.std.specs.Cmp.Lexicographic.{slice_cmp}
use Rattle.std.specs.List.Sorted.{IsNonDecreasingBy}
use Rattle.std.specs.Option.{option_map, option_map_or}
use Rattle.std.specs.Ordering.{eq_by_cmp, is_eq, ordering_then}
use Rattle.std.specs.declared.cmp.Ordering.{Ordering}
use Rattle.std.specs.declared.cmp.Ordering.TheVariants.{Less, Equal, Greater}
use Rattle.std.proofs.lemmas.Bool.{eqb-true}
use Rattle.std.proofs.lemmas.List.{get_or-map, length-map, map-append, take-map}
use Rattle.std.proofs.lemmas.Option.{get_or_from_slice_get, slice_get-get_or, slice_get-map, slice_get_within}
use Rattle.tq_base.specs.declared.fragment.Fragment.{Fragment}
use Rattle.tq_base.specs.declared.value.Value.{Value}
use Rattle.tq_base.specs.Keys.{no_row}
use Rattle.tq_base.specs.Relations.{values_at_number}
use Rattle.tq_base.specs.RowValues.{value_at}
use Rattle.tq_base.specs.ValueOrder.{value_cmp, values_cmp}
use Rattle.tq_event.specs.declared.event.Event.{Event}
use Rattle.tq_event.specs.declared.event.Event.TheVariants.{Start, End}
use Rattle.tq_base.specs.declared.catalogue.Catalogue.{Catalogue}
use Rattle.tq_event.specs.History.{IsAdmissible, time_of}
use Rattle.tq_event.specs.Recorded.{table_of}
use Rattle.tq_event.specs.Versions.{Life, row_lives, version_at}
use Rattle.tq_store.specs.declared.index.Index.{Index}
use Rattle.tq_store.specs.declared.log.LoggedEvent.{LoggedEvent}
use Rattle.tq_store.specs.Index.{AreIndexes, CanTake, IsDb, stored_values, values_of, widths_of}
use Rattle.tq_store.specs.Log.{AreLogged, IsLogged, IsLoggedAs, IsLoggedDb, event_of, logged, row_values}
use Rattle.tq_store.specs.Stored.{IsStart, values_at, values_in}
use Rattle.tq_store.proofs.AdmissibleLemmas.{history_push, ordered_push}
use Rattle.tq_store.proofs.IndexLemmas.{get_before, get_last, get_push, map_set, set_same}
use Rattle.tq_store.proofs.LifeLemmas.{ended_at, lives_end, lives_other, lives_start}
use Rattle.tq_store.proofs.ReadLemmas.{map_where}
use Rattle.tq_store.proofs.VersionLemmas.{count_cons, tally}

-- ---- times

abbrev pub no_later : ℕ → LoggedEvent → Bool
no_later t e = nat_le e.at t

pub time_is : (indexes : List Index) (e : LoggedEvent) → time_of (event_of indexes e) ≡ e.at
time_is indexes e = by e.is_end
  where
    by : (b : Bool) → time_of (if b then End e.table e.row e.at else Start e.table (row_values indexes e.table e.row) e.at) ≡ e.at
    by true = refl
    by false = refl

counted : (indexes : List Index) (t : ℕ) (log : List LoggedEvent) → count_by (λ e. nat_le (time_of e) t) (logged indexes log) ≡ count_by (no_later t) log
counted indexes t [] = refl
counted indexes t (e ∷ log) =
    count_cons (λ x. nat_le (time_of x) t) (event_of indexes e) (logged indexes log)
    ∙ ap (λ n. tally (nat_le n t) + count_by (λ x. nat_le (time_of x) t) (logged indexes log)) (time_is indexes e)
    ∙ ap (λ n. tally (no_later t e) + n) (counted indexes t log)
    ∙ sym (count_cons (no_later t) e log)

pub version_is : (indexes : List Index) (n t : ℕ) (log : List LoggedEvent) → version_at (logged indexes log) n t ≡ count_by (no_later t) (take n log)
version_is indexes n t log = ap (count_by (λ e. nat_le (time_of e) t)) (take-map (event_of indexes) n log) ∙ counted indexes t (take n log)

pub ordered_log : (indexes : List Index) (log : List LoggedEvent) → IsNonDecreasingBy time_of (logged indexes log) → IsNonDecreasingBy (λ (e : LoggedEvent). e.at) log
ordered_log indexes log ordered i j d le less =
    let event = event_of indexes in
    let at : (k : ℕ) → k < length log → time_of (get_or (logged indexes log) k (event d)) ≡ (get_or log k d).at =
    λ k within. ap time_of (get_or-map event log k d (event d) within) ∙ time_is indexes (get_or log k d) in
    let below : j < length (logged indexes log) = let len = length-map log event in omega (arith, less, len) in
    let times = ordered i j (event d) le below in
    omega (arith, times, at i (omega (arith, le, less)), at j less)

-- ---- the row that an event starts

pub record IsStarted (indexes : List Index) (log : List LoggedEvent) (number : ℕ) (e : LoggedEvent) : Type 0 where
  pub index : Index
  pub there : slice_get indexes e.table ≡ Some index
  pub row : e.row < length index.kept.items
  pub values : values_at (logged indexes log) number ≡ values_at_number index.kept.items e.row

abbrev as_event : List Index → LoggedEvent → Bool → Event
as_event indexes e is_end = if is_end then End e.table e.row e.at else Start e.table (row_values indexes e.table e.row) e.at

pub started : (indexes : List Index) (log : List LoggedEvent) (number : ℕ) (e : LoggedEvent) → AreLogged indexes log → e ≡ get_or log number e
    → IsSomeAnd (slice_get (logged indexes log) number) IsStart → IsStarted indexes log number e
started indexes log number e are at is = by_log (slice_get log number) refl (subst (λ o. IsSomeAnd o IsStart) (slice_get-map (event_of indexes) log number) is)
  where
    by_end : (b : Bool) → e.is_end ≡ b → slice_get log number ≡ Some e → IsStart (as_event indexes e b) → IsStarted indexes log number e
    by_end true ends here starts = absurd starts
    by_end false not_end here starts = by_index (slice_get indexes e.table) refl (are.each number e here not_end)
      where
        by_index : (o : Option Index) → slice_get indexes e.table ≡ o → IsSomeAnd o (λ (index : Index). e.row < length index.kept.items) → IsStarted indexes log number e
        by_index None there less = absurd less
        by_index (Some index) there less = record {
          index = index;
          there = there;
          row = less;
          values = ap (λ o. option_map_or values_in o []) (slice_get-map (event_of indexes) log number ∙ ap (option_map (event_of indexes)) here)
              ∙ ap (λ b. values_in (as_event indexes e b)) not_end
              ∙ ap (λ o. option_map_or (λ (i : Index). values_at_number i.kept.items e.row) o []) there;
        }

    by_log : (o : Option LoggedEvent) → slice_get log number ≡ o → IsSomeAnd (option_map (event_of indexes) o) IsStart → IsStarted indexes log number e
    by_log None there starts = absurd starts
    by_log (Some x) there starts =
        let same : x ≡ e = sym (get_or_from_slice_get log number x e there) ∙ sym at in
        by_end e.is_end refl (there ∙ ap (λ y. Some y) same) (subst (λ y. IsStart (event_of indexes y)) same starts)

-- ---- the log while indexes change

there_value : (items : List Fragment) (row : ℕ) → row < length items → slice_get (values_of items) row ≡ Some (values_at_number items row)
there_value items row less =
    slice_get-map (λ (f : Fragment). f.values) items row ∙ ap (option_map (λ (f : Fragment). f.values)) (slice_get-get_or items row no_row less)

value_there : (items : List Fragment) (row : ℕ) (v : List Value) → slice_get (values_of items) row ≡ Some v → (row < length items) × (values_at_number items row ≡ v)
value_there items row v here = by (slice_get items row) refl (sym (slice_get-map (λ (f : Fragment). f.values) items row) ∙ here)
  where
    by : (o : Option Fragment) → slice_get items row ≡ o → option_map (λ (f : Fragment). f.values) o ≡ Some v → (row < length items) × (values_at_number items row ≡ v)
    by None there same = absurd (cc)
    by (Some f) there same =
        let values : f.values ≡ v = cc in
        (slice_get_within items row f there, ap (λ (x : Fragment). x.values) (get_or_from_slice_get items row f no_row there) ∙ values)

-- rows keep their numbers and their values
abbrev pub Grown : List Event → List Event → Type 0
Grown es more = (t row : ℕ) (v : List Value) → slice_get (stored_values es t) row ≡ Some v → slice_get (stored_values more t) row ≡ Some v

index_there : (indexes : List Index) (t : ℕ) → t < length indexes → (index : Index) × (slice_get indexes t ≡ Some index)
index_there [] t less = absurd (omega (arith, less))
index_there (i ∷ indexes) zero less = (i, refl)
index_there (i ∷ indexes) (suc t) less = index_there indexes t (omega (arith, less))

module _ (es more : List Event) (old new : List Index) (are : AreIndexes es old) (after : AreIndexes more new) (same : length new ≡ length old) (grown : Grown es more) where
  abbrev IsSame : LoggedEvent → Type 0
  IsSame e = (event_of new e ≡ event_of old e) × IsLogged new e

  same_event : (e : LoggedEvent) → IsLogged old e → IsSame e
  same_event e is = by_end e.is_end refl
    where
      by_end : (b : Bool) → e.is_end ≡ b → IsSame e
      by_end true ends = (ap (as_event new e) ends ∙ sym (ap (as_event old e) ends), λ not_end. absurd (let wrong : true ≡ false = sym ends ∙ not_end in cc))
      by_end false not_end = by_index (slice_get old e.table) refl (is not_end)
        where
          by_index : (o : Option Index) → slice_get old e.table ≡ o → IsSomeAnd o (λ (index : Index). e.row < length index.kept.items) → IsSame e
          by_index None there less = absurd less
          by_index (Some index) there less =
              let next = index_there new e.table (let within = slice_get_within old e.table index there in omega (arith, within, same)) in
              let v = values_at_number index.kept.items e.row in
              let before : slice_get (stored_values es e.table) e.row ≡ Some v =
              ap (λ vs. slice_get vs e.row) (sym (are.each e.table index there).kept) ∙ there_value index.kept.items e.row less in
              let behind = value_there next.0.kept.items e.row v (ap (λ vs. slice_get vs e.row) (after.each e.table next.0 next.1).kept ∙ grown e.table e.row v before) in
              let values : row_values new e.table e.row ≡ row_values old e.table e.row =
              ap (λ o. option_map_or (λ (i : Index). values_at_number i.kept.items e.row) o []) next.1 ∙ behind.1
              ∙ sym (ap (λ o. option_map_or (λ (i : Index). values_at_number i.kept.items e.row) o []) there) in (
                ap (as_event new e) not_end ∙ ap (λ x. Start e.table x e.at) values ∙ sym (ap (as_event old e) not_end),
                λ yes. subst (λ o. IsSomeAnd o (λ (i : Index). e.row < length i.kept.items)) (sym next.1) behind.0,
              )

  pub same_log : (log : List LoggedEvent) → AreLogged old log → logged new log ≡ logged old log
  same_log log stored = map_where (event_of new) (event_of old) log (λ k d less. (same_event (get_or log k d) (stored.each k (get_or log k d) (slice_get-get_or log k d less))).0)

  pub still_logged : (log : List LoggedEvent) → AreLogged old log → (i : ℕ) (e : LoggedEvent) → slice_get log i ≡ Some e → IsLogged new e
  still_logged log stored i e here = (same_event e (stored.each i e here)).1

-- ---- one more event

pub values_start : (es : List Event) (t : ℕ) (v : List Value) (at : ℕ) → stored_values (es ++ Start t v at ∷ []) t ≡ stored_values es t ++ v ∷ []
values_start es t v at =
    ap (map (λ (x : Life). x.values)) (lives_start t 0 0 (length es) es v at (omega arith))
    ∙ map-append (λ (x : Life). x.values) (row_lives es t) (record { values = v; start = length es; from = at; ending = None } ∷ [])

pub grown_same : (es : List Event) → Grown es es
grown_same es t row v here = here

pub grown_more : (es : List Event) (e : Event) → CanTake es e → Grown es (es ++ e ∷ [])
grown_more es e can u row x here = by (table_of e == u) refl
  where
    at_table : (f : Event) → CanTake es f → slice_get (stored_values es (table_of f)) row ≡ Some x → slice_get (stored_values (es ++ f ∷ []) (table_of f)) row ≡ Some x
    at_table (Start t v at) takes before = ap (λ vs. slice_get vs row) (values_start es t v at) ∙ get_before (stored_values es t) (v ∷ []) row x before
    at_table (End t r at) takes before = by_life (slice_get (row_lives es t) r) refl takes.0
      where
        by_life : (o : Option Life) → slice_get (row_lives es t) r ≡ o → IsSomeAnd o (λ (l : Life). (l.ending ≡ None) × (l.from < at)) → slice_get (stored_values (es ++ End t r at ∷ []) t) row ≡ Some x
        by_life None stands is = absurd is
        by_life (Some l) stands is =
            ap (λ ls. slice_get (map (λ (y : Life). y.values) ls) row) (lives_end t 0 0 (length es) r r at l es (omega arith) (omega arith) stands is.0)
            ∙ ap (λ vs. slice_get vs row)
            (map_set (λ (y : Life). y.values) (row_lives es t) r (ended_at (length es) at l)
            ∙ set_same (stored_values es t) r l.values (slice_get-map (λ (y : Life). y.values) (row_lives es t) r ∙ ap (option_map (λ (y : Life). y.values)) stands))
            ∙ before

    by : (b : Bool) → (table_of e == u) ≡ b → slice_get (stored_values (es ++ e ∷ []) u) row ≡ Some x
    by true is =
        let same : table_of e ≡ u = eqb-true (table_of e) u is in
        subst (λ n. slice_get (stored_values (es ++ e ∷ []) n) row ≡ Some x) same
        (at_table e can (subst (λ n. slice_get (stored_values es n) row ≡ Some x) (sym same) here))
    by false other = ap (λ ls. slice_get (map (λ (y : Life). y.values) ls) row) (lives_other u 0 0 es e other) ∙ here

-- the new event is the one that was applied
pub next_event : (es : List Event) (old new : List Index) (event : Event) (e : LoggedEvent) → AreIndexes es old → AreIndexes (es ++ event ∷ []) new → length new ≡ length old → IsLoggedAs old event e
    → (event_of new e ≡ event) × IsLogged new e
next_event es old new (End t r at) e are after same is = (
  ap (as_event new e) is.0 ∙ ap (λ n. End n e.row e.at) is.1 ∙ ap (λ n. End t n e.at) is.3 ∙ ap (End t r) is.2,
  λ not_end. absurd (let wrong : true ≡ false = sym is.0 ∙ not_end in cc),
)
next_event es old new (Start t v at) e are after same is = by_index (slice_get old t) refl is.3
  where
    by_index : (o : Option Index) → slice_get old t ≡ o → IsSomeAnd o (λ (index : Index). e.row ≡ length index.kept.items) → (event_of new e ≡ Start t v at) × IsLogged new e
    by_index None there row = absurd row
    by_index (Some index) there row =
        let next = index_there new t (let within = slice_get_within old t index there in omega (arith, within, same)) in
        let kept : values_of next.0.kept.items ≡ values_of index.kept.items ++ v ∷ [] =
        (after.each t next.0 next.1).kept ∙ values_start es t v at ∙ sym (ap (λ vs. vs ++ v ∷ []) (are.each t index there).kept) in
        let place : e.row ≡ length (values_of index.kept.items) = row ∙ sym (length-map index.kept.items (λ (f : Fragment). f.values)) in
        let found = value_there next.0.kept.items e.row v
        (ap (λ vs. slice_get vs e.row) kept ∙ ap (slice_get (values_of index.kept.items ++ v ∷ [])) place ∙ get_last (values_of index.kept.items) v) in
        let table : slice_get new e.table ≡ Some next.0 = ap (slice_get new) is.1 ∙ next.1 in
        let values : row_values new e.table e.row ≡ v = ap (λ o. option_map_or (λ (i : Index). values_at_number i.kept.items e.row) o []) table ∙ found.1 in (
          ap (as_event new e) is.0 ∙ ap (λ x. Start e.table x e.at) values ∙ ap (λ n. Start n v e.at) is.1 ∙ ap (Start t v) is.2,
          λ not_end. subst (λ o. IsSomeAnd o (λ (i : Index). e.row < length i.kept.items)) (sym table) found.0,
        )

pub logged_push : (indexes : List Index) (log : List LoggedEvent) (e : LoggedEvent) → logged indexes (log ++ e ∷ []) ≡ logged indexes log ++ event_of indexes e ∷ []
logged_push indexes log e = map-append (event_of indexes) log (e ∷ [])

-- ---- equal values

pub other_length : (xs ys : List Value) → (length xs ≡ length ys → ⊥) → eq_by_cmp values_cmp xs ys ≡ false
other_length [] [] differ = absurd (differ refl)
other_length [] (y ∷ ys) differ = refl
other_length (x ∷ xs) [] differ = refl
other_length (x ∷ xs) (y ∷ ys) differ = by (value_cmp x y) (other_length xs ys (λ same. differ (ap suc same)))
  where
    by : (o : Ordering) → is_eq (slice_cmp value_cmp xs ys) ≡ false → is_eq (ordering_then o (slice_cmp value_cmp xs ys)) ≡ false
    by Less rest = refl
    by Equal rest = rest
    by Greater rest = refl

then_equal : (o rest : Ordering) → is_eq o ≡ true → is_eq (ordering_then o rest) ≡ is_eq rest
then_equal Less rest is = absurd (let wrong : false ≡ true = is in cc)
then_equal Equal rest is = refl
then_equal Greater rest is = absurd (let wrong : false ≡ true = is in cc)

then_other : (o rest : Ordering) → is_eq o ≡ false → is_eq (ordering_then o rest) ≡ false
then_other Less rest is = refl
then_other Equal rest is = absurd (let wrong : true ≡ false = is in cc)
then_other Greater rest is = refl

then_rest : (o rest : Ordering) → is_eq rest ≡ false → is_eq (ordering_then o rest) ≡ false
then_rest Less rest is = refl
then_rest Equal rest is = is
then_rest Greater rest is = refl

pub all_same : (xs ys : List Value) → length xs ≡ length ys → ((k : ℕ) (d : Value) → k < length ys → eq_by_cmp value_cmp (value_at xs k) (get_or ys k d) ≡ true) → eq_by_cmp values_cmp xs ys ≡ true
all_same [] [] long same = refl
all_same [] (y ∷ ys) long same = absurd (omega (arith, long))
all_same (x ∷ xs) [] long same = absurd (omega (arith, long))
all_same (x ∷ xs) (y ∷ ys) long same =
    then_equal (value_cmp x y) (slice_cmp value_cmp xs ys) (same 0 x (omega arith))
    ∙ all_same xs ys (omega (arith, long)) (λ k d less. same (suc k) d (omega (arith, less)))

pub one_other : (xs ys : List Value) (k : ℕ) (d : Value) → length xs ≡ length ys → k < length ys → eq_by_cmp value_cmp (value_at xs k) (get_or ys k d) ≡ false → eq_by_cmp values_cmp xs ys ≡ false
one_other [] [] k d long less other = absurd (omega (arith, less))
one_other [] (y ∷ ys) k d long less other = absurd (omega (arith, long))
one_other (x ∷ xs) [] k d long less other = absurd (omega (arith, long))
one_other (x ∷ xs) (y ∷ ys) zero d long less other = then_other (value_cmp x y) (slice_cmp value_cmp xs ys) other
one_other (x ∷ xs) (y ∷ ys) (suc k) d long less other =
    then_rest (value_cmp x y) (slice_cmp value_cmp xs ys) (one_other xs ys k d (omega (arith, long)) (omega (arith, less)) other)

-- ---- a history after a call

-- indexes that did not change for contracts
pub kept_db : (catalogue : Catalogue) (log : List LoggedEvent) (old new : List Index) → IsLoggedDb catalogue log old → AreIndexes (logged old log) new → length new ≡ length old → widths_of new ≡ widths_of old
    → IsLoggedDb catalogue log new × (logged new log ≡ logged old log)
kept_db catalogue log old new before are len widths =
    let es = logged old log in
    let db = before.db in
    let same = same_log es es old new db.indexed are len (grown_same es) log before.stored in
    let next : IsDb catalogue es new = record {
      history = db.history;
      ordered = db.ordered;
      few = db.few;
      tables = len ∙ db.tables;
      widths = widths ∙ db.widths;
      indexed = are;
    } in (
      record {
        db = subst (λ l. IsDb catalogue l new) (sym same) next;
        stored = record {
          few = before.stored.few;
          narrow = subst (All (λ width. width ≤ 4294967295)) (sym widths) before.stored.narrow;
          each = still_logged es es old new db.indexed are len (grown_same es) log before.stored;
        };
      },
      same,
    )

-- one more event
pub pushed_db : (catalogue : Catalogue) (log : List LoggedEvent) (old new : List Index) (event : Event) (e : LoggedEvent) → IsLoggedDb catalogue log old → length log < 16777216
    → IsAdmissible catalogue (logged old log) event → CanTake (logged old log) event → AreIndexes (logged old log ++ event ∷ []) new → length new ≡ length old → widths_of new ≡ widths_of old → IsLoggedAs old event e
    → IsLoggedDb catalogue (log ++ e ∷ []) new × (logged new (log ++ e ∷ []) ≡ logged old log ++ event ∷ [])
pushed_db catalogue log old new event e before small fits takes are len widths as_logged =
    let es = logged old log in
    let db = before.db in
    let more = es ++ event ∷ [] in
    let grown = grown_more es event takes in
    let found = next_event es old new event e db.indexed are len as_logged in
    let pushed : logged new (log ++ e ∷ []) ≡ more =
    logged_push new log e ∙ ap (λ l. l ++ event_of new e ∷ []) (same_log es more old new db.indexed are len grown log before.stored) ∙ ap (λ x. es ++ x ∷ []) found.0 in
    let counted : length es ≡ length log = length-map log (event_of old) in
    let next : IsDb catalogue more new = record {
      history = history_push catalogue es event db.history fits;
      ordered = ordered_push es event db.ordered fits.0;
      few = let long = length-append es (event ∷ []) in omega (arith, long, counted, small);
      tables = len ∙ db.tables;
      widths = widths ∙ db.widths;
      indexed = are;
    } in (
      record {
        db = subst (λ l. IsDb catalogue l new) (sym pushed) next;
        stored = record {
          few = let long = length-append log (e ∷ []) in omega (arith, long, small);
          narrow = subst (All (λ width. width ≤ 4294967295)) (sym widths) before.stored.narrow;
          each = λ i x here. elim (get_push log e i x here) [
            | inl w ↦ subst (IsLogged new) (sym w.1) found.1
            | inr w ↦ still_logged es more old new db.indexed are len grown log before.stored i x w
          ];
        };
      },
      pushed,
    )
