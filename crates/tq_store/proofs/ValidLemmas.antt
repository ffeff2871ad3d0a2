-- The rows of a whole window are valid at each instant of the period exactly as those of the definition are.
use Rattle.std.proofs.Common.{◌≡◌, ℕ, zero, suc, ◌+◌, ◌-◌, ◌*◌, ◌<◌, ◌≤◌, ◌&&◌, max, Bool, true, false, List, [], ◌∷◌, ◌++◌, Option, Some, None, length, map, take, get_or, slice_get, nat_lt, nat_le, refl, sym, ap, subst, ◌∙◌, append_assoc, append-nil, arith, rules, count_by}
use Rattle.std.specs.Prelude.{All, Contains, IsSomeAnd, if◌then◌else◌, ◌==◌}
use Rattle.std.specs.Option.{option_map_or}
use Rattle.std.specs.Ordering.{eq_by_cmp}
use Rattle.std.specs.List.Sorted.{IsNonDecreasingBy}
use Rattle.std.proofs.lemmas.Bool.Decides.{nat_tests}
use Rattle.std.proofs.lemmas.List.{length-take}
use Rattle.std.specs.Option.{option_map}
use Rattle.std.proofs.lemmas.Option.{get_or_from_slice_get, slice_get-get_or, slice_get-map, slice_get_past, slice_get_within}
use Rattle.tq_base.specs.declared.catalogue.Catalogue.{Catalogue}
use Rattle.tq_base.specs.declared.catalogue.Schema.{Schema}
use Rattle.tq_base.specs.declared.fragment.Fragment.{Fragment}
use Rattle.tq_base.specs.declared.period.Period.{Period}
use Rattle.tq_base.specs.declared.value.Value.{Value}
use Rattle.tq_base.specs.Catalogues.{Fit}
use Rattle.tq_base.specs.Periods.{holds}
use Rattle.tq_base.specs.ValueOrder.{values_cmp, same_from_eq}
use Rattle.tq_event.specs.declared.event.Event.{Event}
use Rattle.tq_event.specs.declared.event.Event.TheVariants.{Start, End}
use Rattle.tq_event.specs.History.{IsHistory, Row, end_of, rows_from, rows_of, time_of}
use Rattle.tq_event.specs.Recorded.{HasTable}
use Rattle.tq_event.specs.Versions.{Life, birth_of, version_at}
use Rattle.tq_base.specs.declared.key_range.KeyRange.{KeyRange}
use Rattle.tq_base.specs.KeyRanges.{key_of}
use Rattle.tq_scan.specs.declared.window.Part.{Part}
use Rattle.tq_scan.specs.declared.window.Window.{Window}
use Rattle.tq_scan.specs.Windows.{whole_of}
use Rattle.tq_store.specs.Keys.{shifted}
use Rattle.tq_store.specs.Rows.{HasPartRows, HasReference, IsPartRow, IsWithin, row_key, whole_window, within_window}
use Rattle.tq_store.specs.Valid.{ArePart, AreValidIn, AreWholeWindow, HasKeyIn, RowAtInstant, fragment_at, row_at, width_of}
use Rattle.tq_store.proofs.AdmissibleLemmas.{ordered_push}
use Rattle.tq_store.proofs.CountLemmas.{IsThere, apart_pairs, apart_placed, at_most, count_kept, count_made}
use Rattle.tq_store.proofs.IndexLemmas.{start_stands}
use Rattle.tq_store.proofs.SortKeyLemmas.{shifted-le}
use Rattle.tq_store.proofs.LifeLemmas.{and-true}
use Rattle.tq_store.proofs.RowLemmas.{HasLifeOf, life_of_row}
use Rattle.tq_store.proofs.VersionLemmas.{before_version, version_rises}

-- ---- histories

rising : (c : Catalogue) (before rest : List Event) → IsNonDecreasingBy time_of before → IsHistory c (before ++ rest) → IsNonDecreasingBy time_of (before ++ rest)
rising c before [] sorted history = subst (IsNonDecreasingBy time_of) (sym (append-nil before)) sorted
rising c before (e ∷ rest) sorted history =
    subst (IsNonDecreasingBy time_of) (append_assoc before (e ∷ []) rest)
    (rising c (before ++ e ∷ []) rest (ordered_push before e sorted (history before e rest refl).0) (subst (IsHistory c) (sym (append_assoc before (e ∷ []) rest)) history))

-- a history is ordered by time
sorted_history : (c : Catalogue) (es : List Event) → IsHistory c es → IsNonDecreasingBy time_of es
sorted_history c es history = rising c [] es (λ i j d le less. absurd (omega (arith, less))) history

record IsSplit {X : Type 0} (xs : List X) (x : X) : Type 0 where
  before : List X
  after : List X
  same : xs ≡ before ++ x ∷ after

split_at : {X : Type 0} → (xs : List X) (i : ℕ) (x : X) → slice_get xs i ≡ Some x → IsSplit xs x
split_at [] i x here = absurd (cc)
split_at (y ∷ xs) zero x here = let same : y ≡ x = cc in record { before = []; after = xs; same = ap (λ z. z ∷ xs) same }
split_at (y ∷ xs) (suc i) x here = let rest = split_at xs i x here in record { before = y ∷ rest.before; after = rest.after; same = ap (λ l. y ∷ l) rest.same }

pub there_of : {X : Type 0} → (xs : List X) (x : X) → Contains xs x → IsThere xs x
there_of xs x there = record { place = there.0; stands = slice_get-get_or xs there.0 x there.1 ∙ ap (λ y. Some y) there.2 }

pub contains_of : {X : Type 0} → (xs : List X) (i : ℕ) (x : X) → slice_get xs i ≡ Some x → Contains xs x
contains_of xs i x here = (i, slice_get_within xs i x here, get_or_from_slice_get xs i x x here)

-- ---- the rows of the definition

-- they are numbered by their positions
numbered : (t next : ℕ) (es : List Event) (i : ℕ) (row : Row) → slice_get (rows_from t next es) i ≡ Some row → row.number ≡ next + i
numbered t next [] i row here = absurd (cc)
numbered t next (End u r at ∷ es) i row here = numbered t next es i row here
numbered t next (Start u v at ∷ es) i row here = by (u == t) i here (λ j. numbered t (next + 1) es j row) (λ j. numbered t next es j row)
  where
    new : Row
    new = record { number = next; values = v; from = at; to = end_of t next es }

    by : (b : Bool) (i : ℕ) → slice_get (if b then record { number = next; values = v; from = at; to = end_of t next es } ∷ rows_from t (next + 1) es else rows_from t next es) i ≡ Some row
        → ((j : ℕ) → slice_get (rows_from t (next + 1) es) j ≡ Some row → row.number ≡ next + 1 + j) → ((j : ℕ) → slice_get (rows_from t next es) j ≡ Some row → row.number ≡ next + j)
        → row.number ≡ next + i
    by true zero here later same = let is : new ≡ row = cc in let number = ap (λ (r : Row). r.number) is in omega (arith, number)
    by true (suc j) here later same = let rest = later j here in omega (arith, rest)
    by false i here later same = same i here

few_rows : (t next : ℕ) (es : List Event) → length (rows_from t next es) ≤ length es
few_rows t next [] = omega arith
few_rows t next (End u r at ∷ es) = let rest = few_rows t next es in omega (arith, rest)
few_rows t next (Start u v at ∷ es) = by (u == t) (few_rows t (next + 1) es) (few_rows t next es)
  where
    by : (b : Bool) → length (rows_from t (next + 1) es) ≤ length es → length (rows_from t next es) ≤ length es
        → length (if b then record { number = next; values = v; from = at; to = end_of t next es } ∷ rows_from t (next + 1) es else rows_from t next es) ≤ suc (length es)
    by true later same = omega (arith, later)
    by false later same = omega (arith, same)

module _ (c : Catalogue) (es : List Event) (history : IsHistory c es) (n t : ℕ) where
  -- a row's values are those of its table
  row_fits : (row : Row) → Contains (rows_of es n t) row → HasTable c t row.values
  row_fits row there =
      let of_row : HasLifeOf es t n row = life_of_row es t n row there in
      let l : Life = of_row.life in
      let split = split_at es l.start (Start t l.values l.from) (start_stands es t row.number l of_row.stands) in
      subst (HasTable c t) (sym (ap (λ (x : Row). x.values) of_row.same)) (history split.before (Start t l.values l.from) split.after split.same).1

  pub no_rows : slice_get c.tables t ≡ None → (row : Row) → Contains (rows_of es n t) row → ⊥
  no_rows none row there = subst (λ o. IsSomeAnd o (λ (s : Schema). Fit s.columns row.values)) none (row_fits row there)

lt_from : (a b : ℕ) → nat_lt a b ≡ true → a < b
lt_from a b is = search (rules, nat_tests, is)

le_from : (a b : ℕ) → nat_le a b ≡ true → a ≤ b
le_from a b is = search (rules, nat_tests, is)

lt_is : (a b : ℕ) → a < b → nat_lt a b ≡ true
lt_is a b less = search (rules, nat_tests, less)

le_is : (a b : ℕ) → a ≤ b → nat_le a b ≡ true
le_is a b le = search (rules, nat_tests, le)

both-true : (a b : Bool) → a ≡ true → b ≡ true → (a && b) ≡ true
both-true true true one other = refl
both-true true false one other = other
both-true false b one other = one

-- whether the row is valid at the instant and has these values
abbrev counts : ℕ → List Value → Row → Bool
counts at v row = (nat_le row.from at && nat_lt at row.to) && eq_by_cmp values_cmp row.values v

-- ---- the rows of a whole window

module _ (c : Catalogue) (es : List Event) (history : IsHistory c es) (few : length es ≤ 16777216) (n t : ℕ) (le : n ≤ length es) (range : KeyRange) (period : Period) where
  pub small : (row : Row) → Contains (rows_of es n t) row → row.number < 4294967296
  small row there =
      let place = there_of (rows_of es n t) row there in
      let number = numbered t 0 (take n es) place.place row place.stands in
      let less = slice_get_within (rows_of es n t) place.place row place.stands in
      let rows = few_rows t 0 (take n es) in
      let taken = length-take n es in
      omega (arith, number, less, rows, taken, few)

  -- each row's reference point lies in the whole window
  in_whole : (row : Row) → Contains (rows_of es n t) row → HasKeyIn range row.values → row.from < period.end → HasReference es n t period (whole_window es n range period) row
  in_whole row there key begins =
      both-true (nat_le (shifted range.low * 4294967296) (row_key row) && nat_lt (row_key row) ((shifted range.high + 1) * 4294967296)) (nat_le first at && nat_le at last)
      (both-true (nat_le (shifted range.low * 4294967296) (row_key row)) (nat_lt (row_key row) ((shifted range.high + 1) * 4294967296))
      (le_is (shifted range.low * 4294967296) (row_key row) (let low = shifted-le range.low (key_of row.values) key.low in omega (arith, low)))
      (lt_is (row_key row) ((shifted range.high + 1) * 4294967296) (let high = shifted-le (key_of row.values) range.high key.high in let less = small row there in omega (arith, high, less))))
      (both-true (nat_le first at) (nat_le at last) (le_is first at (omega arith)) (le_is at last known_last))
    where
      of_row : HasLifeOf es t n row
      of_row = life_of_row es t n row there

      l : Life
      l = of_row.life

      first : ℕ
      first = version_at es n period.start

      last : ℕ
      last = version_at es n (period.end - 1)

      at : ℕ
      at = max (birth_of es t row.number) first

      born : birth_of es t row.number ≡ l.start + 1
      born = ap (λ o. option_map_or (λ (x : Life). x.start + 1) o 0) of_row.stands

      from : row.from ≡ l.from
      from = ap (λ (x : Row). x.from) of_row.same

      known_last : at ≤ last
      known_last =
          let before = before_version es (sorted_history c es history) n (period.end - 1) l.start (Start t l.values l.from) (start_stands es t row.number l of_row.stands) of_row.begun (omega (arith, begins, from)) in
          let rises = version_rises es n period.start (period.end - 1) (let ordered = period.ordered in omega (arith, ordered)) in
          omega (arith, before, rises, born)

  -- equally many rows of these values are valid at the instant
  same_count : (rows : List Row) → HasPartRows es n t range period (whole_window es n range period) rows → (at : ℕ) (v : List Value) → holds period at ≡ true
      → HasKeyIn range v
      → count_by (counts at v) rows ≡ count_by (counts at v) (rows_of es n t)
  same_count rows are at v inside in_range =
      let one = at_most row_key (counts at v) rows (rows_of es n t) (apart_pairs row_key rows are.apart)
      (λ i row pass here. there_of (rows_of es n t) row ((are.just row).0 (contains_of rows i row here)).known) in
      let other = at_most (λ (row : Row). row.number) (counts at v) (rows_of es n t) rows (apart_placed (λ (row : Row). row.number) (rows_of es n t) (λ i row here. let number = numbered t 0 (take n es) i row here in omega (arith, number)))
      (λ i row pass here. there_of rows row ((are.just row).1 (part row (contains_of (rows_of es n t) i row here) pass))) in
      omega (arith, one, other)
    where
      part : (row : Row) → Contains (rows_of es n t) row → counts at v row ≡ true → IsPartRow es n t range period (whole_window es n range period) row
      part row there pass =
          let sides = and-true (nat_le row.from at && nat_lt at row.to) (eq_by_cmp values_cmp row.values v) pass in
          let times = and-true (nat_le row.from at) (nat_lt at row.to) sides.0 in
          let window = and-true (nat_le period.start at) (nat_lt at period.end) inside in
          let from = le_from row.from at times.0 in
          let to = lt_from at row.to times.1 in
          let start = le_from period.start at window.0 in
          let end = lt_from at period.end window.1 in
          let key = subst (HasKeyIn range) (sym (same_from_eq row.values v sides.1)) in_range in
          let begins : row.from < period.end = omega (arith, from, end) in
          record { known = there; low = key.low; high = key.high; begins = begins; lasts = omega (arith, start, to); reference = in_whole row there key begins }

  -- for the returned rows
  pub valid_in : (fragments : List Fragment) → AreWholeWindow es n t range period fragments → AreValidIn es n t range period fragments
  valid_in fragments whole at v in_range inside =
      count_kept (λ u. eq_by_cmp values_cmp u v) (λ (f : Fragment). f.values) (λ (f : Fragment). holds f.period at) fragments
      ∙ sym (count_made stands (fragment_at at) fragments)
      ∙ ap (count_by stands) (whole.same at inside)
      ∙ count_made stands (row_at at) whole.rows
      ∙ same_count whole.rows whole.are at v inside in_range
      ∙ sym (count_kept (λ u. eq_by_cmp values_cmp u v) (λ (row : Row). row.values) (λ (row : Row). nat_le row.from at && nat_lt at row.to) (rows_of es n t))
    where
      -- whether a row at an instant is valid and has these values
      stands : RowAtInstant → Bool
      stands x = x.valid && eq_by_cmp values_cmp x.values v

-- ---- all returned rows

-- their keys lie in the range
pub keys_in : (es : List Event) (n t : ℕ) (range : KeyRange) (period : Period) (part : Part) (fragments : List Fragment) → ArePart es n t range period part fragments → All (λ (f : Fragment). HasKeyIn range f.values) fragments
keys_in es n t range period part fragments whole k d less =
    by (slice_get whole.rows k) refl
    (sym (slice_get-map (row_at first) whole.rows k) ∙ sym (ap (λ l. slice_get l k) (whole.same first inside)) ∙ slice_get-map (fragment_at first) fragments k
    ∙ ap (option_map (fragment_at first)) (slice_get-get_or fragments k d less))
  where
    first : ℕ
    first = period.start

    inside : holds period first ≡ true
    inside = both-true (nat_le period.start first) (nat_lt first period.end) (le_is period.start first (omega arith)) (lt_is first period.end period.ordered)

    by : (o : Option Row) → slice_get whole.rows k ≡ o → option_map (row_at first) o ≡ Some (fragment_at first (get_or fragments k d)) → HasKeyIn range (get_or fragments k d).values
    by None stands same = absurd (cc)
    by (Some row) stands same =
        let is = (whole.are.just row).0 (contains_of whole.rows k row stands) in
        let both : row_at first row ≡ fragment_at first (get_or fragments k d) = cc in
        subst (HasKeyIn range) (ap (λ (x : RowAtInstant). x.values) both) (record { low = is.low; high = is.high })

-- a table that does not exist has none
pub none_there : (c : Catalogue) (es : List Event) (n t : ℕ) (range : KeyRange) (period : Period) (part : Part) (fragments : List Fragment) → IsHistory c es → length c.tables ≤ t → fragments ≡ [] → ArePart es n t range period part fragments
none_there c es n t range period part fragments history past none = record {
  rows = [];
  are = record {
    apart = λ i j one other less here there. absurd (cc);
    just = λ row. ((λ there. absurd (let less = there.1 in omega (arith, less))), (λ is. absurd (no_rows c es history n t (slice_get_past c.tables t past) row is.known)));
  };
  same = λ at inside. ap (map (fragment_at at)) none;
}

pub no_width : (c : Catalogue) (t : ℕ) → length c.tables ≤ t → 0 ≡ width_of c t
no_width c t past = ap (λ o. option_map_or (λ (schema : Schema). length schema.columns) o 0) (sym (slice_get_past c.tables t past))

-- a whole window lies in itself
pub whole_within : (w : Window) (all part : Part) → whole_of w ≡ all → part ≡ whole_of w → IsWithin all part
whole_within w all part all_is part_is =
    subst (IsWithin all) (sym part_is)
    (within_window w all (whole_of w) all_is (record { wide = w.wide; long = w.long; low = omega arith; high = omega arith; first = omega arith; last = omega arith }))
