-- The rows of a part: those whose keys a scan finds.
use Rattle.std.proofs.Common.{◌≡◌, ℕ, zero, suc, ◌+◌, ◌-◌, ◌*◌, ◌%◌, ◌<◌, ◌≤◌, ◌&&◌, max, Bool, true, false, if◌then◌else◌, List, [], ◌∷◌, Option, Some, None, length, map, get_or, slice_get, nat_lt, nat_le, refl, sym, ap, subst, ◌∙◌, inl, inr, arith, rules}
use Rattle.std.specs.Prelude.{Contains, IfSome, IsSomeAnd, FitsSigned, nat_eq, ◌↔◌}
use Rattle.std.specs.Int.{w64}
use Rattle.std.specs.Option.{option_map, option_map_or}
use Rattle.std.specs.List.Sorted.{IsNonDecreasingBy, IsStrictlyIncreasing}
use Rattle.std.proofs.lemmas.Bool.{cases_lt, eq-eqb, eqb-true}
use Rattle.std.proofs.lemmas.Bool.Decides.{nat_tests}
use Rattle.std.proofs.lemmas.Option.{get_or_from_slice_get, slice_get-get_or, slice_get-map, slice_get_within}
use Rattle.tq_base.specs.declared.period.Period.{Period}
use Rattle.tq_base.specs.declared.period.TheConstants.{FOREVER}
use Rattle.tq_event.specs.declared.event.Event.{Event}
use Rattle.tq_event.specs.declared.event.Event.TheVariants.{Start, End}
use Rattle.tq_event.specs.History.{Row, rows_of, time_of}
use Rattle.tq_event.specs.Versions.{Ending, Life, birth_of, row_lives, version_at}
use Rattle.tq_mvbt.specs.NodeState.{NodeState}
use Rattle.tq_mvbt.specs.Points.{now, within}
use Rattle.tq_mvbt.specs.TreeState.{HasLife, lives_of}
use Rattle.tq_scan.specs.declared.window.Part.{Part}
use Rattle.tq_scan.specs.declared.window.Window.{Window}
use Rattle.tq_scan.specs.Lists.{ListsJust, ListsOnce}
use Rattle.tq_scan.specs.Scans.{FoundIn}
use Rattle.tq_scan.specs.Windows.{lies_in, whole_of}
use Rattle.tq_base.specs.declared.key_range.KeyRange.{KeyRange}
use Rattle.tq_base.specs.KeyRanges.{key_of}
use Rattle.tq_store.specs.Keys.{shifted, tree_key}
use Rattle.tq_store.specs.Index.{HasRows, IsKeyOf, IsRowLife, dead_of, events_of, stored_rows}
use Rattle.tq_store.specs.Rows.{ArePartRows, HasPartRows, IsPartRow, row_key, whole_window}
use Rattle.tq_store.specs.Stored.{IsReadable, IsStart, IsStored, end_as_of, row_of_key, stored_row, values_in}
use Rattle.tq_store.proofs.IndexLemmas.{end_stands, start_stands}
use Rattle.tq_store.proofs.SortKeyLemmas.{key_row, shifted-le, unshifted-le}
use Rattle.tq_store.proofs.LifeLemmas.{and-true, as_of, end_by, known_by, rows_known}
use Rattle.tq_store.proofs.PartLemmas.{only_one}
use Rattle.tq_store.proofs.VersionLemmas.{before_version, past_version, version_rises, version_within}

lt_from : (a b : ℕ) → nat_lt a b ≡ true → a < b
lt_from a b is = search (rules, nat_tests, is)

le_from : (a b : ℕ) → nat_le a b ≡ true → a ≤ b
le_from a b is = search (rules, nat_tests, is)

lt_is : (a b : ℕ) → a < b → nat_lt a b ≡ true
lt_is a b less = search (rules, nat_tests, less)

le_is : (a b : ℕ) → a ≤ b → nat_le a b ≡ true
le_is a b le = search (rules, nat_tests, le)

not_lt : (a b : ℕ) → nat_lt a b ≡ false → b ≤ a
not_lt a b is = search (rules, nat_tests, is)

both-true : (a b : Bool) → a ≡ true → b ≡ true → (a && b) ≡ true
both-true true true one other = refl
both-true true false one other = other
both-true false b one other = one

-- ---- points

pub record IsPoint (low high first last key version : ℕ) : Type 0 where
  pub low_is : low ≤ key
  pub high_is : key < high
  pub first_is : first ≤ version
  pub last_is : version ≤ last

point_of : (p : Part) (key version : ℕ) → lies_in p key version ≡ true → IsPoint p.low p.high p.first p.last key version
point_of p key version is =
    let sides = and-true (nat_le p.low key && nat_lt key p.high) (nat_le p.first version && nat_le version p.last) is in
    let keys = and-true (nat_le p.low key) (nat_lt key p.high) sides.0 in
    let versions = and-true (nat_le p.first version) (nat_le version p.last) sides.1 in
    record { low_is = le_from p.low key keys.0; high_is = lt_from key p.high keys.1; first_is = le_from p.first version versions.0; last_is = le_from version p.last versions.1 }

point_in : (p : Part) (key version : ℕ) → IsPoint p.low p.high p.first p.last key version → lies_in p key version ≡ true
point_in p key version is =
    both-true (nat_le p.low key && nat_lt key p.high) (nat_le p.first version && nat_le version p.last)
    (both-true (nat_le p.low key) (nat_lt key p.high) (le_is p.low key is.low_is) (lt_is key p.high is.high_is))
    (both-true (nat_le p.first version) (nat_le version p.last) (le_is p.first version is.first_is) (le_is version p.last is.last_is))

within_from : (a b v : ℕ) → within a b v ≡ true → (a ≤ v) × (v < b)
within_from a b v is = let both = and-true (nat_le a v) (nat_lt v b) is in (le_from a v both.0, lt_from v b both.1)

within_is : (a b v : ℕ) → a ≤ v → v < b → within a b v ≡ true
within_is a b v low high = both-true (nat_le a v) (nat_lt v b) (le_is a v low) (lt_is v b high)

-- two lives of one key begin at the same version
same_birth : (nodes : List NodeState) (k b d c e : ℕ) → HasLife nodes k b d → HasLife nodes k c e → b ≡ c
same_birth nodes k b d c e one other =
    let le_one = later b d c e one other in
    let le_other = later c e b d other one in
    omega (arith, le_one, le_other)
  where
    later : (b d c e : ℕ) → HasLife nodes k b d → HasLife nodes k c e → c ≤ b
    later b d c e one other =
        let lived = one.lived in
        let ends = one.ends in
        let less : b < now = omega (arith, lived, ends) in
        (within_from c e b (sym (other.lives b less) ∙ one.lives b less ∙ within_is b d b (omega arith) lived)).0

-- ---- rows from their events

module _ (es : List Event) (t : ℕ) where
  -- what is read from the events of a row is the row
  stored_end : (n : ℕ) (l : Life) → end_as_of n (events_of l).end (events_of l).to ≡ end_by n l.ending
  stored_end n l = by l.ending
    where
      by : (o : Option Ending) → end_as_of n (option_map (λ (e : Ending). e.event) o) (option_map_or (λ (e : Ending). e.at) o FOREVER) ≡ end_by n o
      by None = refl
      by (Some e) = refl

  pub stored_is : (n row : ℕ) (l : Life) → slice_get (row_lives es t) row ≡ Some l → stored_row es n row (events_of l) ≡ as_of n row l
  stored_is n row l stands =
      ap (λ o. record { number = row; values = option_map_or values_in o []; from = l.from; to = end_as_of n (events_of l).end (events_of l).to }) (start_stands es t row l stands)
      ∙ ap (λ e. record { number = row; values = l.values; from = l.from; to = e }) (stored_end n l)

  pub stored_well : (row : ℕ) (l : Life) → slice_get (row_lives es t) row ≡ Some l → IsRowLife l → IsStored es (events_of l)
  stored_well row l stands good = record {
    starts = subst (λ o. IsSomeAnd o IsStart) (sym (start_stands es t row l stands)) tt;
    lasts = by l.ending good.lasts;
  }
    where
      by : (o : Option Ending) → IfSome o (λ (e : Ending). (l.from < e.at) × (l.start < e.event)) → l.from < option_map_or (λ (e : Ending). e.at) o FOREVER
      by None lasts = good.finite
      by (Some e) lasts = lasts.0

  -- ---- the rows of a table as of the first n events

  pub row_there : (n row : ℕ) (l : Life) → n ≤ length es → slice_get (row_lives es t) row ≡ Some l → l.start < n → Contains (rows_of es n t) (as_of n row l)
  row_there n row l le stands less =
      let is : slice_get (rows_of es n t) row ≡ Some (as_of n row l) =
      rows_known t 0 0 n n row row es (omega arith) (omega arith) ∙ ap (known_by n row) stands ∙ ap (λ b. if b then Some (as_of n row l) else None) (lt_is l.start n less) in
      (row, slice_get_within (rows_of es n t) row (as_of n row l) is, get_or_from_slice_get (rows_of es n t) row (as_of n row l) (as_of n row l) is)

  -- a row as of the first n events, with its life
  pub record HasLifeOf (n : ℕ) (row : Row) : Type 0 where
    pub life : Life
    pub stands : slice_get (row_lives es t) row.number ≡ Some life
    pub begun : life.start < n
    pub same : row ≡ as_of n row.number life

  pub life_of_row : (n : ℕ) (row : Row) → Contains (rows_of es n t) row → HasLifeOf n row
  life_of_row n row there = by (slice_get (row_lives es t) i) refl known
    where
      i : ℕ
      i = there.0

      known : known_by n i (slice_get (row_lives es t) i) ≡ Some row
      known = sym (rows_known t 0 0 n n i i es (omega arith) (omega arith)) ∙ slice_get-get_or (rows_of es n t) i row there.1 ∙ ap (λ x. Some x) there.2

      by : (o : Option Life) → slice_get (row_lives es t) i ≡ o → known_by n i o ≡ Some row → HasLifeOf n row
      by None is here = absurd (cc)
      by (Some l) is here = by_start (nat_lt l.start n) refl here
        where
          by_start : (b : Bool) → nat_lt l.start n ≡ b → (if b then Some (as_of n i l) else None) ≡ Some row → HasLifeOf n row
          by_start false started there = absurd (cc)
          by_start true started there =
              let same : as_of n i l ≡ row = cc in
              let number : i ≡ row.number = ap (λ (x : Row). x.number) same in
              record {
                life = l;
                stands = sym (ap (slice_get (row_lives es t)) number) ∙ is;
                begun = lt_from l.start n started;
                same = sym same ∙ ap (λ k. as_of n k l) number;
              }

-- ---- the rows whose keys are found

tree_key_row : (v : List Rattle.tq_base.specs.declared.value.Value.Value) (r : ℕ) → r < 4294967296 → tree_key v r % 4294967296 ≡ r
tree_key_row v r less = key_row (shifted (key_of v)) r less

-- a found key, with its row
pub record IsFoundRow (es : List Event) (n t : ℕ) (range : KeyRange) (period : Period) (p : Part) (key : ℕ) : Type 0 where
  pub row : ℕ
  pub life : Life
  pub stands : slice_get (row_lives es t) row ≡ Some life
  pub same : key ≡ tree_key life.values row
  pub small : row < 4294967296
  pub good : IsRowLife life
  pub part : IsPartRow es n t range period p (as_of n row life)

module _ (es : List Event) (n t : ℕ) (range : KeyRange) (period : Period) (nodes : List NodeState) (version : ℕ) (w : Window) (p : Part)
    (sorted : IsNonDecreasingBy time_of es) (few : length es ≤ 16777216) (le : n ≤ length es) (has : HasRows (row_lives es t) (length es) version nodes)
    (window_is : whole_of w ≡ whole_window es n range period) (fits_low : FitsSigned w64 range.low) (fits_high : FitsSigned w64 range.high) (finite : period.start < FOREVER) where
  few_rows : (row : ℕ) (l : Life) → slice_get (row_lives es t) row ≡ Some l → row < 4294967296
  few_rows row l stands = let less = slice_get_within (row_lives es t) row l stands in let rows = has.few in omega (arith, less, rows, few)

  birth_is : (row : ℕ) (l : Life) → slice_get (row_lives es t) row ≡ Some l → birth_of es t row ≡ l.start + 1
  birth_is row l stands = ap (λ o. option_map_or (λ (x : Life). x.start + 1) o 0) stands

  -- a point of the window
  point_of_window : (key v : ℕ) → lies_in (whole_of w) key v ≡ true → IsPoint (shifted range.low * 4294967296) ((shifted range.high + 1) * 4294967296) (version_at es n period.start) (version_at es n (period.end - 1)) key v
  point_of_window key v is = point_of (whole_window es n range period) key v (subst (λ q. lies_in q key v ≡ true) window_is is)

  before_end : (row : ℕ) (l : Life) → slice_get (row_lives es t) row ≡ Some l → l.start < n → l.start + 1 ≤ version_at es n (period.end - 1) → l.from < period.end
  before_end row l stands begun known = elim (cases_lt (period.end - 1) l.from) [
    | inl later ↦ let past = past_version es sorted n (period.end - 1) l.start (Start t l.values l.from) (start_stands es t row l stands) begun later in absurd (omega (arith, past, known))
    | inr no_later ↦ let ordered = period.ordered in omega (arith, no_later, ordered)
  ]

  by_end : (row : ℕ) (l : Life) → slice_get (row_lives es t) row ≡ Some l → l.start < n → l.from < period.end → l.start + 1 ≤ version_at es n (period.end - 1)
  by_end row l stands begun less =
      let before = before_version es sorted n (period.end - 1) l.start (Start t l.values l.from) (start_stands es t row l stands) begun (let ordered = period.ordered in omega (arith, less, ordered)) in
      omega (arith, before)

  after_start : (row : ℕ) (l : Life) (v : ℕ) → slice_get (row_lives es t) row ≡ Some l → version_at es n period.start ≤ v → v < dead_of l.ending → period.start < end_by n l.ending
  after_start row l v stands low high = by l.ending refl high
    where
      by : (o : Option Ending) → l.ending ≡ o → v < dead_of o → period.start < end_by n o
      by None is high = finite
      by (Some e) is high = by_known (nat_lt e.event n) refl
        where
          by_known : (b : Bool) → nat_lt e.event n ≡ b → period.start < (if b then e.at else FOREVER)
          by_known false known = finite
          by_known true known = elim (cases_lt period.start e.at) [
            | inl later ↦ later
            | inr no_later ↦ let before = before_version es sorted n period.start e.event (End t row e.at) (end_stands es t row l e stands is) (lt_from e.event n known) (omega (arith, no_later)) in absurd (omega (arith, before, low, high))
          ]

  alive_at_first : (row : ℕ) (l : Life) → slice_get (row_lives es t) row ≡ Some l → period.start < end_by n l.ending → version_at es n period.start < dead_of l.ending
  alive_at_first row l stands later = by l.ending refl later
    where
      least : version_at es n period.start ≤ n
      least = version_within es n period.start

      by : (o : Option Ending) → l.ending ≡ o → period.start < end_by n o → version_at es n period.start < dead_of o
      by None is later = omega (arith, least, le, few)
      by (Some e) is later = by_known (nat_lt e.event n) refl later
        where
          by_known : (b : Bool) → nat_lt e.event n ≡ b → period.start < (if b then e.at else FOREVER) → version_at es n period.start < e.event + 1
          by_known true known later = let past = past_version es sorted n period.start e.event (End t row e.at) (end_stands es t row l e stands is) (lt_from e.event n known) later in omega (arith, past)
          by_known false known later = let at_least = not_lt e.event n known in omega (arith, at_least, least)

  pub found_row : (key : ℕ) → FoundIn nodes w p key → IsFoundRow es n t range period p key
  found_row key found = record {
    row = row;
    life = l;
    stands = stands;
    same = one.same;
    small = small;
    good = good;
    part = record {
      known = row_there es t n row l le stands begun;
      low = unshifted-le range.low (key_of l.values) fits_low good.key (let low = point.low_is in omega (arith, low, key_is, small));
      high = unshifted-le (key_of l.values) range.high good.key fits_high (let high = point.high_is in omega (arith, high, key_is, small));
      begins = before_end row l stands begun (let last = point.last_is in omega (arith, last, alive_low));
      lasts = after_start row l found.version stands point.first_is alive_high;
      reference = subst (λ k. lies_in p k (max (birth_of es t row) (version_at es n period.start)) ≡ true) one.same
          (subst (λ b. lies_in p key (max b (version_at es n period.start)) ≡ true) (sym born)
          (subst (λ f. lies_in p key (max found.born f) ≡ true) (ap (λ (q : Part). q.first) window_is) found.reference));
    };
  }
    where
      point : IsPoint (shifted range.low * 4294967296) ((shifted range.high + 1) * 4294967296) (version_at es n period.start) (version_at es n (period.end - 1)) key found.version
      point = point_of_window key found.version found.in_window

      small_version : found.version < now
      small_version = let last = point.last_is in let within_n = version_within es n (period.end - 1) in omega (arith, last, within_n, le, few)

      lived : lives_of nodes key found.version ≡ true
      lived = found.life.lives found.version small_version ∙ found.alive

      one : IsKeyOf (row_lives es t) key
      one = has.only key found.version lived

      row : ℕ
      row = one.row

      l : Life
      l = one.life

      stands : slice_get (row_lives es t) row ≡ Some l
      stands = one.stands

      small : row < 4294967296
      small = few_rows row l stands

      good : IsRowLife l
      good = has.rows row l stands

      key_is : key ≡ shifted (key_of l.values) * 4294967296 + row
      key_is = one.same

      life : HasLife nodes key (l.start + 1) (dead_of l.ending)
      life = subst (λ k. HasLife nodes k (l.start + 1) (dead_of l.ending)) (sym one.same) (has.each row l stands)

      alive : (l.start + 1 ≤ found.version) × (found.version < dead_of l.ending)
      alive = within_from (l.start + 1) (dead_of l.ending) found.version (sym (life.lives found.version small_version) ∙ lived)

      alive_low : l.start + 1 ≤ found.version
      alive_low = alive.0

      alive_high : found.version < dead_of l.ending
      alive_high = alive.1

      begun : l.start < n
      begun = let last = point.last_is in let within_n = version_within es n (period.end - 1) in omega (arith, last, within_n, alive_low)

      born : birth_of es t row ≡ found.born
      born = birth_is row l stands ∙ same_birth nodes key (l.start + 1) (dead_of l.ending) found.born found.dead life found.life

  pub row_found : (row : Row) → IsPartRow es n t range period p row → FoundIn nodes w p (row_key row)
  row_found row is = record {
    born = l.start + 1;
    dead = dead_of l.ending;
    life = life;
    version = version_there;
    in_window = subst (λ q. lies_in q key version_there ≡ true) (sym window_is) (point_in (whole_window es n range period) key version_there (record {
      low_is = let low = shifted-le range.low (key_of row.values) is.low in omega (arith, low);
      high_is = let high = shifted-le (key_of row.values) range.high is.high in omega (arith, high, small);
      first_is = omega arith;
      last_is = omega (arith, known_last, rises);
    }));
    alive = within_is (l.start + 1) (dead_of l.ending) version_there (omega arith) (omega (arith, lasts, born_first));
    reference = subst (λ f. lies_in p key (max (l.start + 1) f) ≡ true) (sym (ap (λ (q : Part). q.first) window_is))
        (subst (λ b. lies_in p key (max b (version_at es n period.start)) ≡ true) (birth_is row.number l of_row.stands) is.reference);
  }
    where
      of_row : HasLifeOf es t n row
      of_row = life_of_row es t n row is.known

      l : Life
      l = of_row.life

      key : ℕ
      key = row_key row

      small : row.number < 4294967296
      small = few_rows row.number l of_row.stands

      life : HasLife nodes key (l.start + 1) (dead_of l.ending)
      life = subst (λ v. HasLife nodes (tree_key v row.number) (l.start + 1) (dead_of l.ending)) (sym (ap (λ (x : Row). x.values) of_row.same)) (has.each row.number l of_row.stands)

      version_there : ℕ
      version_there = max (l.start + 1) (version_at es n period.start)

      known_last : l.start + 1 ≤ version_at es n (period.end - 1)
      known_last = by_end row.number l of_row.stands of_row.begun (subst (λ (x : Row). x.from < period.end) of_row.same is.begins)

      rises : version_at es n period.start ≤ version_at es n (period.end - 1)
      rises = version_rises es n period.start (period.end - 1) (let ordered = period.ordered in omega (arith, ordered))

      born_first : version_at es n period.start < dead_of l.ending
      born_first = alive_at_first row.number l of_row.stands (subst (λ (x : Row). period.start < x.to) of_row.same is.lasts)

      lasts : l.start + 1 < dead_of l.ending
      lasts = life.lived

  -- ---- the list of rows

  kept : (row : ℕ) (l : Life) → slice_get (row_lives es t) row ≡ Some l → slice_get (stored_rows es t) row ≡ Some (events_of l)
  kept row l stands = slice_get-map events_of (row_lives es t) row ∙ ap (option_map events_of) stands

  -- what is read for a found key is its row
  read_is : (key : ℕ) → (found : IsFoundRow es n t range period p key) → row_of_key es (stored_rows es t) n key ≡ as_of n found.row found.life
  read_is key found =
      let at_row : key % 4294967296 ≡ found.row = ap (λ k. k % 4294967296) found.same ∙ tree_key_row found.life.values found.row found.small in
      ap (λ r. stored_row es n r (get_or (stored_rows es t) r (record { start = 0; end = None; from = 0; to = 0; key = 0 }))) at_row
      ∙ ap (stored_row es n found.row) (get_or_from_slice_get (stored_rows es t) found.row (events_of found.life) (record { start = 0; end = None; from = 0; to = 0; key = 0 }) (kept found.row found.life found.stands))
      ∙ stored_is es t n found.row found.life found.stands

  pub readable : (key : ℕ) → FoundIn nodes w p key → IsReadable es (stored_rows es t) key
  readable key found =
      let one = found_row key found in
      let at_row : key % 4294967296 ≡ one.row = ap (λ k. k % 4294967296) one.same ∙ tree_key_row one.life.values one.row one.small in
      subst (λ r. IsSomeAnd (slice_get (stored_rows es t) r) (IsStored es)) (sym at_row)
      (subst (λ o. IsSomeAnd o (IsStored es)) (sym (kept one.row one.life one.stands)) (stored_well es t one.row one.life one.stands one.good))

  key_kept : (key : ℕ) → FoundIn nodes w p key → row_key (row_of_key es (stored_rows es t) n key) ≡ key
  key_kept key found = let one = found_row key found in ap row_key (read_is key one) ∙ sym one.same

  keys_kept : (keys : List ℕ) → ((key : ℕ) → Contains keys key → FoundIn nodes w p key) → map row_key (map (row_of_key es (stored_rows es t) n) keys) ≡ keys
  keys_kept [] found = refl
  keys_kept (k ∷ keys) found =
      ap (λ x. x ∷ map row_key (map (row_of_key es (stored_rows es t) n) keys)) (key_kept k (found k (0, omega arith, refl)))
      ∙ ap (λ l. k ∷ l) (keys_kept keys (λ key there. found key (suc there.0, let less = there.1 in omega (arith, less), there.2)))

  has_row : (f : ℕ → Row) (keys : List ℕ) (row : Row) → Contains (map f keys) row → (key : ℕ) × (Contains keys key) × (row ≡ f key)
  has_row f [] row (i, less, same) = absurd (omega (arith, less))
  has_row f (k ∷ keys) row (zero, less, same) = (k, (0, omega arith, refl), sym same)
  has_row f (k ∷ keys) row (suc i, less, same) = let one = has_row f keys row (i, omega (arith, less), same) in (one.0, (suc one.1.0, let within = one.1.1 in omega (arith, within), one.1.2), one.2)

  row_stands : (f : ℕ → Row) (keys : List ℕ) (key : ℕ) → Contains keys key → Contains (map f keys) (f key)
  row_stands f [] key (i, less, same) = absurd (omega (arith, less))
  row_stands f (k ∷ keys) key (zero, less, same) = (0, omega arith, ap f same)
  row_stands f (k ∷ keys) key (suc i, less, same) = let one = row_stands f keys key (i, omega (arith, less), same) in (suc one.0, let within = one.1 in omega (arith, within), one.2)

  -- the row of its own key
  own_row : (row : Row) → (is : IsPartRow es n t range period p row) → row_of_key es (stored_rows es t) n (row_key row) ≡ row
  own_row row is =
      let of_row = life_of_row es t n row is.known in
      let small = few_rows row.number of_row.life of_row.stands in
      let at_row : row_key row % 4294967296 ≡ row.number = tree_key_row row.values row.number small in
      ap (λ r. stored_row es n r (get_or (stored_rows es t) r (record { start = 0; end = None; from = 0; to = 0; key = 0 }))) at_row
      ∙ ap (stored_row es n row.number) (get_or_from_slice_get (stored_rows es t) row.number (events_of of_row.life) (record { start = 0; end = None; from = 0; to = 0; key = 0 }) (kept row.number of_row.life of_row.stands))
      ∙ stored_is es t n row.number of_row.life of_row.stands
      ∙ sym of_row.same

  -- if the keys are exactly those found, their rows are exactly those of the part
  rows_just : (keys : List ℕ) → ((key : ℕ) → Contains keys key ↔ FoundIn nodes w p key) → (row : Row) → Contains (map (row_of_key es (stored_rows es t) n) keys) row ↔ IsPartRow es n t range period p row
  rows_just keys just row = (
    λ there.
        let one = has_row (row_of_key es (stored_rows es t) n) keys row there in
        let found = found_row one.0 ((just one.0).0 one.1) in
        subst (IsPartRow es n t range period p) (sym (one.2 ∙ read_is one.0 found)) found.part,
    λ is. subst (Contains (map (row_of_key es (stored_rows es t) n) keys)) (own_row row is)
        (row_stands (row_of_key es (stored_rows es t) n) keys (row_key row) ((just (row_key row)).1 (row_found row is))),
  )

  pub part_rows : (keys : List ℕ) → ListsJust (FoundIn nodes w p) keys → ArePartRows es n t range period p (map (row_of_key es (stored_rows es t) n) keys)
  part_rows keys just = record {
    ordered = subst IsStrictlyIncreasing (sym (keys_kept keys (λ key there. (just.just key).0 there))) just.ascending;
    just = rows_just keys just.just;
  }

  -- the same for keys in any order
  module _ (keys : List ℕ) (lists : ListsOnce (FoundIn nodes w p) keys) where
    found_at : (i key : ℕ) → slice_get keys i ≡ Some key → FoundIn nodes w p key
    found_at i key here = subst (FoundIn nodes w p) (get_or_from_slice_get keys i key key here) (lists.all i key (slice_get_within keys i key here))

    once_just : (key : ℕ) → Contains keys key ↔ FoundIn nodes w p key
    once_just key = (
      λ there. subst (FoundIn nodes w p) there.2 (lists.all there.0 key there.1),
      λ found.
          let only = only_one (nat_eq key) keys (lists.once key found) in
          let same : only.item ≡ key = sym (eqb-true key only.item only.passes) in
          (only.place, slice_get_within keys only.place only.item only.stands, get_or_from_slice_get keys only.place only.item key only.stands ∙ same),
    )

    key_at : (i : ℕ) (row : Row) → slice_get (map (row_of_key es (stored_rows es t) n) keys) i ≡ Some row → slice_get keys i ≡ Some (row_key row)
    key_at i row here = by (slice_get keys i) refl (sym (slice_get-map (row_of_key es (stored_rows es t) n) keys i) ∙ here)
      where
        by : (o : Option ℕ) → slice_get keys i ≡ o → option_map (row_of_key es (stored_rows es t) n) o ≡ Some row → slice_get keys i ≡ Some (row_key row)
        by None stands same = absurd (cc)
        by (Some key) stands same =
            let is : row_of_key es (stored_rows es t) n key ≡ row = cc in
            stands ∙ ap (λ k. Some k) (sym (key_kept key (found_at i key stands)) ∙ ap row_key is)

    pub part_rows_once : HasPartRows es n t range period p (map (row_of_key es (stored_rows es t) n) keys)
    part_rows_once = record {
      apart = λ i j one other less here there same.
          let first = key_at i one here in
          let second : slice_get keys j ≡ Some (row_key one) = key_at j other there ∙ ap (λ k. Some k) (sym same) in
          let only = only_one (nat_eq (row_key one)) keys (lists.once (row_key one) (found_at i (row_key one) first)) in
          let itself : nat_eq (row_key one) (row_key one) ≡ true = eq-eqb (row_key one) (row_key one) refl in
          let one_place = only.only i (row_key one) first itself in
          let other_place = only.only j (row_key one) second itself in
          absurd (omega (arith, less, one_place, other_place));
      just = rows_just keys once_just;
    }
