-- What is read for one key after the other.
use Rattle.std.proofs.Common.{◌≡◌, ℕ, suc, ◌+◌, ◌%◌, ◌<◌, ◌≤◌, ◌&&◌, Bool, true, List, [], ◌∷◌, ◌++◌, Option, Some, None, map, take, length, get_or, slice_get, nat_le, nat_lt, refl, sym, ap, subst, ◌∙◌, arith, rules}
use Rattle.std.specs.Prelude.{All, IsSomeAnd, IsTrue}
use Rattle.std.proofs.lemmas.Bool.Decides.{nat_tests}
use Rattle.std.specs.Option.{option_map, option_map_or}
use Rattle.std.proofs.lemmas.List.{get_or-map, length-map, map-append, take_more}
use Rattle.std.proofs.lemmas.Option.{get_or_from_slice_get, slice_get-get_or, slice_get-map, slice_get_within}
use Rattle.std.proofs.lemmas.Simd.{map-map}
use Rattle.tq_base.specs.declared.fragment.Fragment.{Fragment}
use Rattle.tq_base.specs.declared.key_range.KeyRange.{KeyRange}
use Rattle.tq_base.specs.declared.period.Period.{Period}
use Rattle.tq_base.specs.declared.relation.RowPeriod.{RowPeriod}
use Rattle.tq_base.specs.Periods.{holds}
use Rattle.tq_base.specs.Relations.{row_period_of, values_at_number}
use Rattle.tq_base.specs.Keys.{no_row}
use Rattle.tq_event.specs.declared.event.Event.{Event}
use Rattle.tq_event.specs.History.{Row}
use Rattle.tq_event.specs.Versions.{Life, row_lives}
use Rattle.tq_store.specs.declared.index.Index.{Index}
use Rattle.tq_store.specs.declared.index.RowEvents.{RowEvents}
use Rattle.tq_store.specs.Index.{IsIndexOf, stored_rows}
use Rattle.tq_store.specs.Stored.{IsLasting, IsMet, IsReadable, IsStored, HaveSameValidity, RowValidity, Times, row_validity_at, row_period_for, times_of_row_period, row_of_key, times_at, times_of_key, values_at, values_in}
use Rattle.tq_scan.specs.declared.window.Part.{Part}
use Rattle.tq_store.specs.Rows.{HasPartRows}
use Rattle.tq_store.specs.Valid.{ArePart, RowAtInstant, fragment_at, row_at}
use Rattle.tq_store.proofs.IndexLemmas.{IsKnown, known_row, known_start, rows_counted}
use Rattle.tq_store.proofs.LeafLemmas.{both_true, le_is, less_is}
use Rattle.tq_store.proofs.LifeLemmas.{and-true}

lt_from : (a b : ℕ) → nat_lt a b ≡ true → a < b
lt_from a b is = search (rules, nat_tests, is)

le_from : (a b : ℕ) → nat_le a b ≡ true → a ≤ b
le_from a b is = search (rules, nat_tests, is)

-- the row at the key's number
pub row_there : (P : RowEvents → Type 0) (rows : List RowEvents) (key : ℕ) (row d : RowEvents) → IsSomeAnd (slice_get rows (key % 4294967296)) P → row ≡ get_or rows (key % 4294967296) row → row ≡ get_or rows (key % 4294967296) d
row_there P rows key row d readable is = by (slice_get rows (key % 4294967296)) refl readable
  where
    by : (o : Option RowEvents) → slice_get rows (key % 4294967296) ≡ o → IsSomeAnd o P → row ≡ get_or rows (key % 4294967296) d
    by None stands there = absurd there
    by (Some r) stands there = is ∙ get_or_from_slice_get rows (key % 4294967296) r row stands ∙ sym (get_or_from_slice_get rows (key % 4294967296) r d stands)

-- one more image of the items of a list
pub one_more : {X Y K : Type 0} → (made : X → Y) (f : K → Y) (xs new : List X) (x : X) (keys : List K) (i : ℕ) (d : K) → i < length keys → new ≡ xs ++ x ∷ [] → map made xs ≡ map f (take i keys)
    → made x ≡ f (get_or keys i d) → map made new ≡ map f (take (i + 1) keys)
one_more made f xs new x keys i d less pushed before same =
    ap (map made) pushed ∙ map-append made xs (x ∷ []) ∙ ap (λ l. l ++ made x ∷ []) before ∙ ap (λ y. map f (take i keys) ++ y ∷ []) same
    ∙ sym (map-append f (take i keys) (get_or keys i d ∷ [])) ∙ sym (ap (map f) (take_more keys i d less))

-- maps that agree on each item are equal
pub map_where : {X Y : Type 0} → (f g : X → Y) (xs : List X) → ((k : ℕ) (d : X) → k < length xs → f (get_or xs k d) ≡ g (get_or xs k d)) → map f xs ≡ map g xs
map_where f g [] same = refl
map_where f g (x ∷ xs) same =
    ap (λ y. y ∷ map f xs) (same 0 x (omega arith)) ∙ ap (λ l. g x ∷ l) (map_where f g xs (λ k d less. same (suc k) d (omega (arith, less))))

-- the rows of readable keys end after they start
pub readable_lasts : (es : List Event) (rows : List RowEvents) (keys : List ℕ) → All (IsReadable es rows) keys → All (IsLasting rows) keys
readable_lasts es rows keys readable k d less = by (slice_get rows (get_or keys k d % 4294967296)) (readable k d less)
  where
    by : (o : Option RowEvents) → IsSomeAnd o (IsStored es) → IsSomeAnd o (λ (row : RowEvents). row.from < row.to)
    by None there = absurd there
    by (Some r) there = there.lasts

-- a row without its number
abbrev unnumbered : Row → Row
unnumbered row = record row { number = 0 }

-- a period holds its first instant
holds_first : (period : Period) → holds period period.start ≡ true
holds_first period = both_true (nat_le period.start period.start) (nat_lt period.start period.end) (le_is period.start period.start (omega arith)) (less_is period.start period.end period.ordered)

-- the rows of a part are valid at some instant of the period
pub rows_met : (es : List Event) (rows : List RowEvents) (n t : ℕ) (range : KeyRange) (period : Period) (p : Part) (keys : List ℕ) → HasPartRows es n t range period p (map (row_of_key es rows n) keys) → All (IsMet rows n period) keys
rows_met es rows n t range period p keys has k d less =
    let row = row_of_key es rows n (get_or keys k d) in
    let counted = length-map keys (row_of_key es rows n) in
    let is = (has.just row).0 (k, omega (arith, less, counted), get_or-map (row_of_key es rows n) keys k d row less) in
    record { begins = is.begins; lasts = is.lasts }

-- ---- row numbers with periods, at the instants of a period

abbrev standing : ℕ → Bool → RowValidity
standing number valid = record { number = number; valid = valid }

-- row numbers with the times of the rows
pub stand_read : (rows : List RowEvents) (n : ℕ) (period : Period) (keys : List ℕ) (row_periods : List RowPeriod) → map times_of_row_period row_periods ≡ map (times_of_key rows n) keys → HaveSameValidity rows n period keys row_periods
stand_read rows n period keys row_periods same at inside =
    sym (map-map (times_at at) times_of_row_period row_periods) ∙ ap (map (times_at at)) same ∙ map-map (times_at at) (times_of_key rows n) keys

-- row numbers with the only instant of the period, in which the rows are valid
pub stand_at : (rows : List RowEvents) (n : ℕ) (period : Period) (keys : List ℕ) (row_periods : List RowPeriod) → period.end ≡ period.start + 1 → All (IsMet rows n period) keys
    → row_periods ≡ map (row_period_for period) keys → HaveSameValidity rows n period keys row_periods
stand_at rows n period keys row_periods one met named at inside =
    ap (map (row_validity_at at)) named ∙ map-map (row_validity_at at) (row_period_for period) keys
    ∙ map_where (λ key. row_validity_at at (row_period_for period key)) (λ key. times_at at (times_of_key rows n key)) keys same
  where
    same : (k d : ℕ) → k < length keys → row_validity_at at (row_period_for period (get_or keys k d)) ≡ times_at at (times_of_key rows n (get_or keys k d))
    same k d less =
        let is = met k d less in
        let times : Times = times_of_key rows n (get_or keys k d) in
        let both = and-true (nat_le period.start at) (nat_lt at period.end) inside in
        let low = le_from period.start at both.0 in
        let high = lt_from at period.end both.1 in
        let begins = is.begins in
        let lasts = is.lasts in
        let valid : (nat_le times.from at && nat_lt at times.to) ≡ true =
        both_true (nat_le times.from at) (nat_lt at times.to) (le_is times.from at (omega (arith, one, low, high, begins))) (less_is at times.to (omega (arith, one, low, high, lasts))) in
        ap (standing (get_or keys k d % 4294967296)) (inside ∙ sym valid)

-- ---- the rows of an index by their numbers

module _ (es : List Event) (t : ℕ) (index : Index) (is : IsIndexOf es t index) where
  -- there are as many values as rows
  pub kept_counted : length index.kept.items ≡ length index.rows.items
  kept_counted =
      sym (length-map index.kept.items (λ (f : Fragment). f.values)) ∙ ap length is.kept ∙ length-map (row_lives es t) (λ (l : Life). l.values)
      ∙ sym (rows_counted es t index is)

  -- the values at a row's number are those of the event that starts it
  values_there : (row : ℕ) (known : RowEvents) (d : Fragment) → slice_get index.rows.items row ≡ Some known → (get_or index.kept.items row d).values ≡ values_at es known.start
  values_there row known d here =
      by (slice_get index.kept.items row) refl
      (sym (slice_get-map (λ (f : Fragment). f.values) index.kept.items row) ∙ ap (λ vs. slice_get vs row) is.kept
      ∙ slice_get-map (λ (l : Life). l.values) (row_lives es t) row ∙ ap (option_map (λ (l : Life). l.values)) of_row.stands)
    where
      of_row : IsKnown es t row known
      of_row = known_row es t row index known is here

      by : (o : Option Fragment) → slice_get index.kept.items row ≡ o → option_map (λ (f : Fragment). f.values) o ≡ Some of_row.life.values → (get_or index.kept.items row d).values ≡ values_at es known.start
      by None stands there = absurd (cc)
      by (Some f) stands there =
          let same : f.values ≡ of_row.life.values = cc in
          ap (λ (x : Fragment). x.values) (get_or_from_slice_get index.kept.items row f d stands) ∙ same
          ∙ sym (ap (λ o. option_map_or values_in o []) (known_start es t row known of_row))

  module _ (n : ℕ) (period : Period) (keys : List ℕ) (readable : All (IsReadable es (stored_rows es t)) keys) (row_periods : List RowPeriod) (same : HaveSameValidity index.rows.items n period keys row_periods) where
    -- the row of the key, with its values from the index
    abbrev put : Times → Row
    put x = record { number = 0; values = values_at_number index.kept.items x.number; from = x.from; to = x.to }

    there : (k d : ℕ) → k < length keys → IsReadable es index.rows.items (get_or keys k d)
    there k d less = subst (λ rows. IsReadable es rows (get_or keys k d)) (sym is.rows) (readable k d less)

    -- the validity at the period's first instant
    same_first : map (row_validity_at period.start) row_periods ≡ map (λ key. times_at period.start (times_of_key index.rows.items n key)) keys
    same_first = same period.start (holds_first period)

    pub lines_within : All (λ (line : RowPeriod). line.row < length index.kept.items) row_periods
    lines_within k d less = by (slice_get keys k) refl
        (sym (slice_get-map (λ key. times_at period.start (times_of_key index.rows.items n key)) keys k) ∙ sym (ap (λ l. slice_get l k) same_first) ∙ slice_get-map (row_validity_at period.start) row_periods k
        ∙ ap (option_map (row_validity_at period.start)) (slice_get-get_or row_periods k d less))
      where
        by : (o : Option ℕ) → slice_get keys k ≡ o → option_map (λ key. times_at period.start (times_of_key index.rows.items n key)) o ≡ Some (row_validity_at period.start (get_or row_periods k d)) → (get_or row_periods k d).row < length index.kept.items
        by None stands matches = absurd (cc)
        by (Some key) stands matches = found (slice_get index.rows.items (key % 4294967296)) refl
            (subst (IsReadable es index.rows.items) (get_or_from_slice_get keys k key key stands) (there k key (slice_get_within keys k key stands)))
          where
            number : key % 4294967296 ≡ (get_or row_periods k d).row
            number = let both : times_at period.start (times_of_key index.rows.items n key) ≡ row_validity_at period.start (get_or row_periods k d) = cc in ap (λ (x : RowValidity). x.number) both

            found : (o : Option RowEvents) → slice_get index.rows.items (key % 4294967296) ≡ o → IsSomeAnd o (IsStored es) → (get_or row_periods k d).row < length index.kept.items
            found None here is_there = absurd is_there
            found (Some known) here is_there =
                let within = slice_get_within index.rows.items (key % 4294967296) known here in
                let counted = kept_counted in
                omega (arith, within, counted, number)

    same_row : (k d : ℕ) → k < length keys → put (times_of_key index.rows.items n (get_or keys k d)) ≡ unnumbered (row_of_key es (stored_rows es t) n (get_or keys k d))
    same_row k d less = by (slice_get index.rows.items (key % 4294967296)) refl (there k d less) ∙ ap (λ rows. unnumbered (row_of_key es rows n key)) is.rows
      where
        key : ℕ
        key = get_or keys k d

        none : RowEvents
        none = record { start = 0; end = None; from = 0; to = 0; key = 0 }

        by : (o : Option RowEvents) → slice_get index.rows.items (key % 4294967296) ≡ o → IsSomeAnd o (IsStored es) → put (times_of_key index.rows.items n key) ≡ unnumbered (row_of_key es index.rows.items n key)
        by None here is_there = absurd is_there
        by (Some known) here is_there =
            let read = get_or_from_slice_get index.rows.items (key % 4294967296) known none here in
            ap (λ v. record (unnumbered (row_of_key es index.rows.items n key)) { values = v })
            (values_there (key % 4294967296) known no_row here ∙ sym (ap (λ (r : RowEvents). values_at es r.start) read))

    -- a row at an instant, with its values from the index
    abbrev stood : RowValidity → RowAtInstant
    stood x = record { values = values_at_number index.kept.items x.number; valid = x.valid }

    shown_lines : (at : ℕ) → IsTrue (holds period at) → map (fragment_at at) (map (row_period_of index.kept.items) row_periods) ≡ map (row_at at) (map (row_of_key es (stored_rows es t) n) keys)
    shown_lines at inside =
        map-map (fragment_at at) (row_period_of index.kept.items) row_periods
        ∙ sym (map-map stood (row_validity_at at) row_periods)
        ∙ ap (map stood) (same at inside)
        ∙ map-map stood (λ key. times_at at (times_of_key index.rows.items n key)) keys
        ∙ map_where (λ key. stood (times_at at (times_of_key index.rows.items n key))) (λ key. row_at at (row_of_key es (stored_rows es t) n key)) keys (λ k d less. ap (row_at at) (same_row k d less))
        ∙ sym (map-map (row_at at) (row_of_key es (stored_rows es t) n) keys)

    pub part_of_lines : (range : KeyRange) (part : Part) (fragments : List Fragment) → HasPartRows es n t range period part (map (row_of_key es (stored_rows es t) n) keys)
        → fragments ≡ map (row_period_of index.kept.items) row_periods → ArePart es n t range period part fragments
    part_of_lines range part fragments are named = record {
      rows = map (row_of_key es (stored_rows es t) n) keys;
      are = are;
      same = λ at inside. ap (map (fragment_at at)) named ∙ shown_lines at inside;
    }
