-- Files determine one list of events.
use Rattle.std.proofs.Common.{◌≡◌, ◌≢◌, ℕ, ◌+◌, ◌≤◌, ◌==◌, Bool, true, false, cond, if◌then◌else◌, List, [], ◌∷◌, ◌++◌, Option, Some, None, Result, Ok, Err, length, drop, get_or, slice_get, nat_lt, sum_by, refl, sym, ap, subst, ◌∙◌, arith, length-append}
use Rattle.std.specs.Prelude.{All, IsSorted, IsSomeAnd}
use Rattle.std.specs.List.{AllZip}
use Rattle.std.specs.Ordering.{eq_by_cmp, is_lt, nat_cmp, bool_cmp, ordering_reverse, ordering_then}
use Rattle.std.specs.declared.cmp.Ordering.{Ordering}
use Rattle.std.specs.declared.cmp.Ordering.TheVariants.{Less, Equal, Greater}
use Rattle.std.specs.Cmp.{IsTotalOrder, Equal-is, eq_by_cmp_equiv, ranked}
use Rattle.std.proofs.lemmas.Bool.Decides.{nat_tests}
use Rattle.std.proofs.lemmas.List.Elements.{All-head, All-tail}
use Rattle.std.proofs.lemmas.List.Sums.{sum_by-cons, sum_by_push}
use Rattle.std.proofs.lemmas.List.Sorted.{sum_by-IsPermutation, length_permutation, sorted_far, ranks_by}
use Rattle.tq_base.specs.declared.catalogue.Column.{Column}
use Rattle.tq_base.specs.declared.period.TheConstants.{FOREVER}
use Rattle.tq_base.specs.declared.form.Form.{Form}
use Rattle.tq_event.specs.Entries.{Entry}
use Rattle.tq_event.specs.declared.event.Event.{Event}
use Rattle.tq_event.specs.declared.fault.LoadFaultKind.TheVariants.{TooManyEvents}
use Rattle.tq_event.specs.declared.file.TableFile.{TableFile}
use Rattle.tq_event.specs.declared.file.Loaded.{Loaded}
use Rattle.tq_event.specs.declared.endpoint.Endpoint.{Endpoint}
use Rattle.tq_event.specs.Loading.{AreEventsOf, Contents, HaveEvents, IsEventAt, IsLoaded, at_record, columns_of, contents_after, contents_of, csv_records, entries_after, entry_of, event_at, event_count, endpoint_cmp, endpoints_from, endpoints_of_entry, next_contents, next_entries, next_name, table_contents}
use Rattle.tq_event.proofs.LoadedLemmas.{at_record_passed, passed}
use Rattle.tq_event.proofs.EndpointLemmas.{mark_total}
use Rattle.tq_event.proofs.SortLemmas.{sorted_tail}

abbrev tally : Bool → ℕ
tally b = cond b 1 0

-- two sorted lists with the same count of each element are equal
module _ {X : Type 0} (R : X → X → Ordering) (o : IsTotalOrder R) (same : (x y : X) → R x y ≡ Equal → x ≡ y) where
  abbrev counted : X → X → ℕ
  counted m x = tally (eq_by_cmp R x m)

  none_alike : (m : X) (xs : List X) → All (λ x. eq_by_cmp R x m ≡ false) xs → sum_by (counted m) xs ≡ 0
  none_alike m [] h = refl
  none_alike m (x ∷ xs) h =
      let first : tally (eq_by_cmp R x m) ≡ 0 = rw (All-head (λ x. eq_by_cmp R x m ≡ false) x xs h) refl in
      omega (arith, sum_by-cons (counted m) x xs, first, none_alike m xs (All-tail (λ x. eq_by_cmp R x m ≡ false) x xs h))

  own : (x : X) → tally (eq_by_cmp R x x) ≡ 1
  own x = rw ((eq_by_cmp_equiv o).refl x) refl

  -- the first element of one list is not less than that of the other
  not_below : (x y : X) (xs ys : List X) → sum_by (counted x) (x ∷ xs) ≡ sum_by (counted x) (y ∷ ys) → IsSorted R (y ∷ ys) → R x y ≢ Less
  not_below x y xs ys alike sorted less =
      absurd (omega (
        arith,
        alike,
        sum_by-cons (counted x) x xs,
        own x,
        none_alike x (y ∷ ys) (λ k d lt. above (get_or (y ∷ ys) k d)
            (sorted_far (λ a b. is_lt (R a b)) (ranks_by o (λ a. a)) (y ∷ ys) sorted 0 k d (omega arith) lt)
            (eq_by_cmp R (get_or (y ∷ ys) k d) x) refl),
      ))
    where
      above : (z : X) → is_lt (R z y) ≡ false → (b : Bool) → eq_by_cmp R z x ≡ b → b ≡ false
      above z far false e = refl
      above z far true e =
          let tie : R z x ≡ Equal = (Equal-is (R z x)).0 e in
          let down : R z y ≡ Less = o.congr z x y tie ∙ less in
          let yes : is_lt (R z y) ≡ true = ap is_lt down in
          cc (yes, far)

  pub sorted_same : (xs ys : List X) → ((m : X) → sum_by (counted m) xs ≡ sum_by (counted m) ys) → IsSorted R xs → IsSorted R ys → xs ≡ ys
  sorted_same [] [] alike xs_sorted ys_sorted = refl
  sorted_same [] (y ∷ ys) alike xs_sorted ys_sorted = absurd (omega (arith, alike y, sum_by-cons (counted y) y ys, own y, none_alike y [] (λ k d lt. absurd (omega arith))))
  sorted_same (x ∷ xs) [] alike xs_sorted ys_sorted = absurd (omega (arith, alike x, sum_by-cons (counted x) x xs, own x, none_alike x [] (λ k d lt. absurd (omega arith))))
  sorted_same (x ∷ xs) (y ∷ ys) alike xs_sorted ys_sorted =
      let first = split (R x y) refl in
      let rest = sorted_same xs ys (λ m. omega (arith, alike m, sum_by-cons (counted m) x xs, sum_by-cons (counted m) y ys, ap (λ z. tally (eq_by_cmp R z m)) first)) (sorted_tail R o x xs xs_sorted) (sorted_tail R o y ys ys_sorted) in
      cc (first, rest)
    where
      split : (r : Ordering) → R x y ≡ r → x ≡ y
      split Equal e = same x y e
      split Less e = absurd (not_below x y xs ys (alike x) ys_sorted e)
      split Greater e = absurd (not_below y x ys xs (sym (alike y)) xs_sorted (o.antisymm y x ∙ ap ordering_reverse e))

-- endpoints that compare as equal are equal
then_ties : (r s : Ordering) → ordering_then r s ≡ Equal → (r ≡ Equal) × (s ≡ Equal)
then_ties Less s e = cc
then_ties Equal s e = (refl, e)
then_ties Greater s e = cc

bool_ties : (a b : Bool) → bool_cmp a b ≡ Equal → a ≡ b
bool_ties true true e = refl
bool_ties true false e = cc
bool_ties false true e = cc
bool_ties false false e = refl

mark_same : (a b : Endpoint) → endpoint_cmp a b ≡ Equal → a ≡ b
mark_same a b e =
    let outer = then_ties (ordering_then (nat_cmp a.at b.at) (bool_cmp a.starts b.starts)) (nat_cmp a.entry b.entry) e in
    let inner = then_ties (nat_cmp a.at b.at) (bool_cmp a.starts b.starts) outer.0 in
    let at = ranked a.at b.at Equal (sym inner.0) in
    let starts = bool_ties a.starts b.starts inner.1 in
    let entry = ranked a.entry b.entry Equal (sym outer.1) in
    λ i. record { at = at i; starts = starts i; entry = entry i }

-- endpoints determine one list of events
event_same : (o : Option Entry) (f : Entry → Event) (x y : Event) → IsSomeAnd o (λ e. x ≡ f e) → IsSomeAnd o (λ e. y ≡ f e) → x ≡ y
event_same (Some e) f x y p q = p ∙ sym q
event_same None f x y p q = absurd p

events_same : (entries : List Entry) (marks ms : List Endpoint) (xs ys : List Event) → AllZip (IsEventAt entries marks) ms xs → AllZip (IsEventAt entries marks) ms ys → xs ≡ ys
events_same entries marks [] [] [] p q = refl
events_same entries marks [] [] (y ∷ ys) p q = absurd q
events_same entries marks [] (x ∷ xs) ys p q = absurd p
events_same entries marks (m ∷ ms) [] ys p q = absurd p
events_same entries marks (m ∷ ms) (x ∷ xs) [] p q = absurd q
events_same entries marks (m ∷ ms) (x ∷ xs) (y ∷ ys) p q =
    let first = event_same (slice_get entries m.entry) (event_at entries marks m) x y p.0 q.0 in
    let rest = events_same entries marks ms xs ys p.1 q.1 in
    cc (first, rest)

marks_same : (entries : List Entry) (xs ys : List Event) (a : AreEventsOf entries xs) (b : AreEventsOf entries ys) → a.marks ≡ b.marks
marks_same entries xs ys a b =
    sorted_same endpoint_cmp mark_total mark_same a.marks b.marks
    (λ m. sum_by-IsPermutation (λ (x : Endpoint). tally (eq_by_cmp endpoint_cmp x m)) (endpoints_from 0 entries) a.marks a.all
    ∙ sym (sum_by-IsPermutation (λ (x : Endpoint). tally (eq_by_cmp endpoint_cmp x m)) (endpoints_from 0 entries) b.marks b.all))
    a.ordered b.ordered

pub entries_have_one : (entries : List Entry) (xs ys : List Event) → AreEventsOf entries xs → AreEventsOf entries ys → xs ≡ ys
entries_have_one entries xs ys a b =
    let same = marks_same entries xs ys a b in
    let moved : HaveEvents entries b.marks xs = subst (λ ms. HaveEvents entries ms xs) same a.events_are in
    events_same entries b.marks b.marks xs ys moved.each b.events_are.each

pub loaded_once : (form : Form) (files : List TableFile) (limit : ℕ) (a b : Loaded) → IsLoaded form files limit a → IsLoaded form files limit b → (a.catalogue.tables ≡ b.catalogue.tables) × (a.events ≡ b.events)
loaded_once form files limit a b is_a is_b =
    let same : is_a.contents ≡ is_b.contents = one_ok (contents_of form files limit) is_a.contents is_b.contents is_a.is_contents is_b.is_contents in
    let moved : AreEventsOf is_b.contents.entries a.events = subst (λ (c : Contents). AreEventsOf c.entries a.events) same is_a.events in
    (is_a.catalogue ∙ ap (λ (c : Contents). c.tables) same ∙ sym is_b.catalogue, entries_have_one is_b.contents.entries a.events b.events moved is_b.events)
  where
    one_ok : {A E : Type 0} (r : Result A E) (x y : A) → r ≡ Ok x → r ≡ Ok y → x ≡ y
    one_ok r x y p q = cc (p, q)

-- ---- the events stay within the limit

added_within : (limit : ℕ) (before more : List Entry) (e : Entry) → next_entries limit before e ≡ Ok more → sum_by event_count more ≤ limit
added_within limit before more e is = by (nat_lt limit (sum_by event_count before + event_count e)) refl is
  where
    by : (t : Bool) → nat_lt limit (sum_by event_count before + event_count e) ≡ t → (if t then Err TooManyEvents else Ok (before ++ e ∷ [])) ≡ Ok more → sum_by event_count more ≤ limit
    by true i is = cc
    by false i is =
        let same : before ++ e ∷ [] ≡ more = cc (is) in
        let le : sum_by event_count before + event_count e ≤ limit = grind (arith, nat_tests) in
        omega (arith, ap (sum_by event_count) same, sum_by_push event_count before e, le)

entries_within_limit : (form : Form) (limit table : ℕ) (columns : List Column) (number : ℕ) (before : List Entry) (records : List (List (List ℕ))) (after : List Entry)
    → entries_after form limit table columns number before records ≡ Ok after → sum_by event_count before ≤ limit → sum_by event_count after ≤ limit
entries_within_limit form limit table columns number before [] after is le = let same : before ≡ after = cc (is) in subst (λ es. sum_by event_count es ≤ limit) same le
entries_within_limit form limit table columns number before (fields ∷ records) after is le =
    let step = passed (at_record table number _) _ after is in
    let inner = passed (entry_of form table columns fields) (next_entries limit before) step.value (at_record_passed table number _ step.value step.was) in
    entries_within_limit form limit table columns (number + 1) step.value records after step.then_is (added_within limit before step.value inner.value inner.then_is)

file_within : (form : Form) (limit : ℕ) (before after : Contents) (file : TableFile) → next_contents form limit before file ≡ Ok after → sum_by event_count before.entries ≤ limit → sum_by event_count after.entries ≤ limit
file_within form limit before after file is le =
    let table = length before.tables in
    let a = passed (at_record table 0 (next_name before.tables file.name)) _ after is in
    let b = passed (table_contents form limit table before.entries file.bytes) _ after a.then_is in
    let c = passed (at_record table 1 (columns_of file.bytes)) _ b.value b.was in
    let d = passed (entries_after form limit table c.value 2 before.entries (drop 1 (csv_records file.bytes))) _ b.value c.then_is in
    let read : d.value ≡ b.value.1 = cc (d.then_is) in
    let same : record { tables = before.tables ++ record { name = a.value; columns = b.value.0 } ∷ []; entries = b.value.1 } ≡ after = cc (b.then_is) in
    subst (λ (x : Contents). sum_by event_count x.entries ≤ limit) same
    (subst (λ es. sum_by event_count es ≤ limit) read (entries_within_limit form limit table c.value 2 before.entries (drop 1 (csv_records file.bytes)) d.value d.was le))

files_within : (form : Form) (limit : ℕ) (before after : Contents) (files : List TableFile) → contents_after form limit before files ≡ Ok after → sum_by event_count before.entries ≤ limit → sum_by event_count after.entries ≤ limit
files_within form limit before after [] is le = let same : before ≡ after = cc (is) in subst (λ (x : Contents). sum_by event_count x.entries ≤ limit) same le
files_within form limit before after (file ∷ files) is le =
    let a = passed (next_contents form limit before file) _ after is in
    files_within form limit a.value after files a.then_is (file_within form limit before a.value file a.was le)

marks_counted : (n : ℕ) (entries : List Entry) → length (endpoints_from n entries) ≡ sum_by event_count entries
marks_counted n [] = refl
marks_counted n (e ∷ entries) =
    omega (arith, length-append (endpoints_of_entry n e) (endpoints_from (n + 1) entries), own (e.to == FOREVER), marks_counted (n + 1) entries, sum_by-cons event_count e entries)
  where
    own : (b : Bool) → let marks : List Endpoint = record { at = e.from; starts = true; entry = n } ∷ (if b then [] else record { at = e.to; starts = false; entry = n } ∷ []) in length marks ≡ (if b then 1 else 2)
    own true = refl
    own false = refl

pub loaded_within : (form : Form) (files : List TableFile) (limit : ℕ) (loaded : Loaded) → IsLoaded form files limit loaded → length loaded.events ≤ limit
loaded_within form files limit loaded is =
    let le = files_within form limit (record { tables = []; entries = [] }) is.contents files is.is_contents (omega arith) in
    let ev = is.events in
    omega (arith, ev.events_are.as_many, length_permutation (endpoints_from 0 is.contents.entries) ev.marks ev.all, marks_counted 0 is.contents.entries, le)
