-- Comparing, sorting and collecting keys.
use Rattle.std.proofs.Common.{inl, inr, subst, ◌≡◌, ◌≢◌, ℕ, ◌+◌, ◌-◌, ◌<◌, ◌≤◌, nat_lt, ◌&&◌, rules, Bool, true, false, cond, List, [], ◌∷◌, ◌++◌, append_assoc, append-nil, length, take, drop, map, get_or, refl, sym, ap, ◌∙◌, arith}
use Rattle.std.specs.Prelude.{All, IsSorted, Option, Some, None}
use Rattle.std.specs.Bool.{OnTrue}
use Rattle.std.specs.Cmp.{IsTotalOrder, nat_cmp_total, on_total, then_total}
use Rattle.std.specs.List.{IsAllAdjacentAnswer}
use Rattle.std.specs.Ordering.{is_le, is_lt, is_ne, nat_cmp, ordering_reverse, ordering_then}
use Rattle.std.specs.declared.cmp.Ordering.{Ordering}
use Rattle.std.specs.declared.cmp.Ordering.TheVariants.{Less, Equal, Greater}
use Rattle.std.proofs.lemmas.Bool.{cases_lt}
use Rattle.std.proofs.lemmas.Bool.Decides.{nat_tests}
use Rattle.std.proofs.lemmas.List.{drop_all, drop_more, get_or-map, get_or-take, get_or_default, length-map, length-take, map-append, take_more}
use Rattle.std.proofs.lemmas.List.Elements.{filter-append, All-more}
use Rattle.tq_base.specs.RowValues.{value_at}
use Rattle.tq_base.specs.declared.value.Value.{Value}
use Rattle.tq_base.specs.declared.period.Period.{Period}
use Rattle.tq_base.specs.declared.fragment.Fragment.{Fragment}
use Rattle.tq_base.specs.declared.sort_input.SortKey.{SortKey}
use Rattle.tq_base.specs.declared.sort_input.RunStart.{RunStart}
use Rattle.tq_base.specs.declared.sort_input.RunStart.TheVariants.{Unknown, Begins, GoesOn}
use Rattle.tq_base.specs.declared.sort_input.Side.{Side}
use Rattle.tq_base.specs.Keys.{begins_by, begins_run, columns_on, first_prefix, held, held_on, is_overlap, is_within, key_cmp, key_row, key_values, no_row, overlapping, is_exact, rows_on, prefix_start_cmp, value_key_cmp, values_left, within, HaveRunStarts, AreExact, BeginsWithBytes, Held, IsSortKey, SortInputState, IsRunStart}
use Rattle.tq_base.specs.SortKeyLaws.{alike, told}
use Rattle.tq_base.specs.ValueOrder.{value_cmp, values_cmp}

-- the value at a place comes before those after it
pub compared_at : (s : SortInputState) (k : SortKey) (row : List Value) (columns : List ℕ) (place column : ℕ) → row ≡ (key_row s k).values → columns ≡ columns_on s k.side → place < length columns → column ≡ get_or columns place 0
    → drop place (key_values s k) ≡ value_at row column ∷ drop (place + 1) (key_values s k)
compared_at s k row columns place column row_is columns_is less column_is =
    let values : key_values s k ≡ map (value_at row) columns = rw (row_is, columns_is) refl in
    let within : place < length (map (value_at row) columns) = omega (arith, length-map columns (value_at row), less) in
    let here : get_or (map (value_at row) columns) place (value_at row 0) ≡ value_at row column = get_or-map (value_at row) columns place 0 (value_at row 0) less ∙ ap (value_at row) (sym column_is) in
    rw values (drop_more (map (value_at row) columns) place (value_at row 0) within ∙ ap (λ v. v ∷ drop (place + 1) (map (value_at row) columns)) here)

-- the first values decide if they differ
pub first_differs : (x y : Value) (u v : List Value) → value_cmp x y ≢ Equal → values_cmp (x ∷ u) (y ∷ v) ≡ value_cmp x y
first_differs x y u v differ = by (value_cmp x y) differ
  where
    by : (r : Ordering) → r ≢ Equal → ordering_then r (values_cmp u v) ≡ r
    by Less d = refl
    by Equal d = absurd (d refl)
    by Greater d = refl

-- if they are equal, the others decide
pub first_same : (x y : Value) (u v : List Value) → value_cmp x y ≡ Equal → values_cmp (x ∷ u) (y ∷ v) ≡ values_cmp u v
first_same x y u v same = ap (λ r. ordering_then r (values_cmp u v)) same

-- ---- sorted keys

pub prefix_start_total : IsTotalOrder prefix_start_cmp
prefix_start_total = then_total (on_total (λ (k : SortKey). k.prefix) nat_cmp_total) (on_total (λ (k : SortKey). k.start) nat_cmp_total)

not_below : {X : Type 0} (cmp : X → X → Ordering) → IsTotalOrder cmp → (x y : X) → true ≡ is_le (cmp x y) → is_lt (cmp y x) ≡ false
not_below cmp total x y le = split (cmp x y) refl le
  where
    split : (r : Ordering) → cmp x y ≡ r → true ≡ is_le r → is_lt (cmp y x) ≡ false
    split Less is le = ap is_lt (total.antisymm y x ∙ ap ordering_reverse is)
    split Equal is le = ap is_lt (total.antisymm y x ∙ ap ordering_reverse is)
    split Greater is le = cc

-- a list is sorted if no two neighbours are in the wrong order
pub sorted_from_neighbours : {X : Type 0} (cmp : X → X → Ordering) → IsTotalOrder cmp → (xs : List X) (r : Bool) → IsAllAdjacentAnswer (λ x y b. b ≡ is_le (cmp x y)) xs r → OnTrue r (IsSorted cmp xs)
sorted_from_neighbours cmp total xs true rise = λ k d low high. not_below cmp total (get_or xs k d) (get_or xs (k + 1) d) (rise k d high)
sorted_from_neighbours cmp total xs false turn = tt

same_without : (r t : Ordering) → ordering_then (ordering_then r Equal) t ≡ ordering_then r t
same_without Less t = refl
same_without Equal t = refl
same_without Greater t = refl

-- if no values are left to compare, prefixes and starts decide
exact_is : (s : SortInputState) (x y : SortKey) → values_left x.prefix (key_values s x) ≡ [] → values_left y.prefix (key_values s y) ≡ [] → key_cmp s x y ≡ prefix_start_cmp x y
exact_is s x y x_told y_told =
    ap (λ v. ordering_then (ordering_then (nat_cmp x.prefix y.prefix) (values_cmp v (values_left y.prefix (key_values s y)))) (nat_cmp x.start y.start)) x_told
    ∙ ap (λ v. ordering_then (ordering_then (nat_cmp x.prefix y.prefix) (values_cmp [] v)) (nat_cmp x.start y.start)) y_told
    ∙ same_without (nat_cmp x.prefix y.prefix) (nat_cmp x.start y.start)

pub exact_sorted : (s : SortInputState) (keys : List SortKey) → AreExact s keys → IsSorted prefix_start_cmp keys → IsSorted (key_cmp s) keys
exact_sorted s keys are sorted k d low high =
    ap is_lt (exact_is s (get_or keys (k + 1) d) (get_or keys k d) (are (k + 1) d high) (are k d (omega (arith, high)))) ∙ sorted k d low high

none_left : (prefix : ℕ) (values : List Value) → is_exact prefix ≡ true → length values ≡ 1 → values_left prefix values ≡ []
none_left prefix values tells one = ap (λ b. cond b (drop 1 values) values) tells ∙ drop_all 1 values (omega (arith, one))

-- one column, with prefixes that determine its values
pub exact_one : (s : SortInputState) (keys : List SortKey) (b : Bool) → ((of : Side) → length (columns_on s of) ≡ 1) → OnTrue b (All (λ (k : SortKey). is_exact k.prefix ≡ true) keys) → OnTrue b (AreExact s keys)
exact_one s keys true one tell = λ i d less.
    let k = get_or keys i d in
    none_left k.prefix (key_values s k) (tell i d less) (length-map (columns_on s k.side) (value_at (key_row s k).values) ∙ one k.side)
exact_one s keys false one tell = tt

-- ---- collected keys

-- the period that is read is that of the row
pub period_here : (rows : List Fragment) (periods : List Period) (i : ℕ) (p : Period) → periods ≡ map (λ (row : Fragment). row.period) rows → i < length rows → p ≡ get_or periods i p → (get_or rows i no_row).period ≡ p
period_here rows periods i p are less is =
    sym (get_or-map (λ (row : Fragment). row.period) rows i no_row p less) ∙ ap (λ l. get_or l i p) (sym are) ∙ sym is

within_more : (window : Option Period) (rows : List Fragment) (i : ℕ) (d : Fragment) → i < length rows
    → within window (take (i + 1) rows) ≡ within window (take i rows) ++ cond (is_within window (get_or rows i d).period) (get_or rows i d ∷ []) []
within_more None rows i d less = take_more rows i d less
within_more (Some window) rows i d less =
    ap (overlapping window) (take_more rows i d less) ∙ filter-append (λ (f : Fragment). is_overlap f.period window) (take i rows) (get_or rows i d ∷ [])

module _ (s : SortInputState) (of : Side) (window : Option Period) (i : ℕ) (less : i < length (rows_on s of)) where
  abbrev here : Fragment
  here = get_or (rows_on s of) i no_row

  abbrev on_side : Fragment → Held
  on_side row = record { side = of; row = row }

  -- the key of a row inside the window
  pub adds_key : (old mid : List SortKey) (k : SortKey) → is_within window (get_or (rows_on s of) i no_row).period ≡ true → k.side ≡ of → k.row ≡ i
      → map (held s) mid ≡ map (held s) old ++ held_on of (within window (take i (rows_on s of)))
      → map (held s) (mid ++ k ∷ []) ≡ map (held s) old ++ held_on of (within window (take (i + 1) (rows_on s of)))
  adds_key old mid k inside of_side of_row before =
      let stands : held s k ≡ on_side here =
      ap (λ o. let h : Held = record { side = o; row = get_or (rows_on s o) k.row no_row } in h) of_side ∙ ap (λ n. let h : Held = record { side = of; row = get_or (rows_on s of) n no_row } in h) of_row in
      let more : within window (take (i + 1) (rows_on s of)) ≡ within window (take i (rows_on s of)) ++ here ∷ [] =
      within_more window (rows_on s of) i no_row less ∙ ap (λ b. within window (take i (rows_on s of)) ++ cond b (here ∷ []) []) inside in
      map-append (held s) mid (k ∷ [])
      ∙ ap (λ l. l ++ held s k ∷ []) before
      ∙ ap (λ h. (map (held s) old ++ held_on of (within window (take i (rows_on s of)))) ++ h ∷ []) stands
      ∙ append_assoc (map (held s) old) (held_on of (within window (take i (rows_on s of)))) (on_side here ∷ [])
      ∙ ap (λ l. map (held s) old ++ l) (sym (ap (held_on of) more ∙ map-append on_side (within window (take i (rows_on s of))) (here ∷ [])))

  -- a row that does not overlap the window
  pub adds_none : (old mid : List SortKey) → is_within window (get_or (rows_on s of) i no_row).period ≡ false
      → map (held s) mid ≡ map (held s) old ++ held_on of (within window (take i (rows_on s of)))
      → map (held s) mid ≡ map (held s) old ++ held_on of (within window (take (i + 1) (rows_on s of)))
  adds_none old mid apart before =
      let more : within window (take (i + 1) (rows_on s of)) ≡ within window (take i (rows_on s of)) =
      within_more window (rows_on s of) i no_row less ∙ ap (λ b. within window (take i (rows_on s of)) ++ cond b (here ∷ []) []) apart ∙ append-nil (within window (take i (rows_on s of))) in
      before ∙ ap (λ l. map (held s) old ++ held_on of l) (sym more)

-- ---- runs of keys

equal_from : (r : Ordering) → is_ne r ≡ false → r ≡ Equal
equal_from Less is = cc
equal_from Equal is = refl
equal_from Greater is = cc

module _ (s : SortInputState) (keys : List SortKey) (are : All (IsSortKey s) keys) (first : SortKey) (some : 0 < length keys) (is_first : (d : SortKey) → first ≡ get_or keys 0 d) where
  first_is : IsSortKey s first
  first_is = subst (IsSortKey s) (sym (is_first first)) (are 0 first some)

  -- a key that compares as different from the first has other values
  is_apart : (i : ℕ) (e : SortKey) → i < length keys → is_ne (value_key_cmp s (get_or keys i e) first) ≡ true → (d : SortKey) → key_values s (get_or keys i d) ≢ key_values s (get_or keys 0 d)
  is_apart i e less apart d same =
      let of_first : key_values s (get_or keys i e) ≡ key_values s first = ap (key_values s) (get_or_default keys i e d less) ∙ same ∙ ap (key_values s) (sym (is_first d)) in
      let equal : is_ne (value_key_cmp s (get_or keys i e) first) ≡ false = ap is_ne (alike s (get_or keys i e) first (are i e less) first_is of_first) in
      cc (equal, apart)

  -- a key that compares as equal has the same values
  run_more : (i : ℕ) (e : SortKey) → i < length keys → is_ne (value_key_cmp s (get_or keys i e) first) ≡ false
      → All (λ (k : SortKey). key_values s k ≡ key_values s first) (take i keys) → All (λ (k : SortKey). key_values s k ≡ key_values s first) (take (i + 1) keys)
  run_more i e less tie before =
      All-more (λ (k : SortKey). key_values s k ≡ key_values s first) keys i e less before
      (told s (get_or keys i e) first (are i e less) first_is (equal_from (value_key_cmp s (get_or keys i e) first) tie))

  -- what a key's run start says, if the key before it has the values of the first
  last_alike : (i : ℕ) (e : SortKey) → i < length keys → 0 < i → All (λ (k : SortKey). key_values s k ≡ key_values s first) (take i keys) → key_values s (get_or keys (i - 1) e) ≡ key_values s first
  last_alike i e less after before =
      ap (key_values s) (sym (get_or-take i keys (i - 1) e (omega (arith, after)))) ∙ before (i - 1) e (omega (arith, after, less, length-take i keys))

  run_start_is : HaveRunStarts s keys → (i : ℕ) (e : SortKey) → i < length keys → 0 < i → IsRunStart s (get_or keys (i - 1) e) (get_or keys i e)
  run_start_is run_starts i e less after =
      let next : i - 1 + 1 ≡ i = omega (arith, after) in
      subst (λ n. IsRunStart s (get_or keys (i - 1) e) (get_or keys n e)) next (run_starts (i - 1) e (omega (arith, after, less)))

  run_starts_apart : HaveRunStarts s keys → (i : ℕ) (e : SortKey) → i < length keys → 0 < i → (get_or keys i e).run_start ≡ Begins
      → All (λ (k : SortKey). key_values s k ≡ key_values s first) (take i keys) → (d : SortKey) → key_values s (get_or keys i d) ≢ key_values s (get_or keys 0 d)
  run_starts_apart run_starts i e less after begins before d same =
      let here : key_values s (get_or keys i e) ≡ key_values s first = ap (key_values s) (get_or_default keys i e d less) ∙ same ∙ ap (key_values s) (sym (is_first d)) in
      (run_start_is run_starts i e less after).0 begins (last_alike i e less after before ∙ sym here)

  run_starts_alike : HaveRunStarts s keys → (i : ℕ) (e : SortKey) → i < length keys → 0 < i → (get_or keys i e).run_start ≡ GoesOn
      → All (λ (k : SortKey). key_values s k ≡ key_values s first) (take i keys) → All (λ (k : SortKey). key_values s k ≡ key_values s first) (take (i + 1) keys)
  run_starts_alike run_starts i e less after goes before =
      All-more (λ (k : SortKey). key_values s k ≡ key_values s first) keys i e less before
      (sym ((run_start_is run_starts i e less after).1 goes) ∙ last_alike i e less after before)

  -- what decides whether a key begins another run, if it is not the first
  abbrev decided : ℕ → SortKey → Bool
  decided i e = begins_by (get_or keys i e).run_start (is_ne (value_key_cmp s (get_or keys i e) first))

  take_with_periods : (i : ℕ) (e : SortKey) → 0 < i → decided i e ≡ begins_run s i (get_or keys i e) first
  take_with_periods i e after = let there : nat_lt 0 i ≡ true = search (rules, nat_tests, after) in sym (ap (λ b. b && decided i e) there)

  -- the key at a place begins another run
  pub begins_there : HaveRunStarts s keys → (i : ℕ) (e : SortKey) → i < length keys → begins_run s i (get_or keys i e) first ≡ true
      → All (λ (k : SortKey). key_values s k ≡ key_values s first) (take i keys) → (0 < i) × ((d : SortKey) → key_values s (get_or keys i d) ≢ key_values s (get_or keys 0 d))
  begins_there run_starts i e less begins before = elim (cases_lt 0 i) [
    | inl after ↦ (after, has_run_start (get_or keys i e).run_start refl (take_with_periods i e after ∙ begins) after)
    | inr none ↦ let zeroth : nat_lt 0 i ≡ false = search (rules, nat_tests, none) in absurd (cc (ap (λ b. b && decided i e) (sym zeroth) ∙ begins))
  ]
    where
      has_run_start : (m : RunStart) → (get_or keys i e).run_start ≡ m → begins_by m (is_ne (value_key_cmp s (get_or keys i e) first)) ≡ true → 0 < i → (d : SortKey) → key_values s (get_or keys i d) ≢ key_values s (get_or keys 0 d)
      has_run_start Unknown is apart after = is_apart i e less apart
      has_run_start Begins is apart after = run_starts_apart run_starts i e less after is before
      has_run_start GoesOn is apart after = cc

  -- or it continues the run
  pub goes_on_there : HaveRunStarts s keys → (i : ℕ) (e : SortKey) → i < length keys → begins_run s i (get_or keys i e) first ≡ false
      → All (λ (k : SortKey). key_values s k ≡ key_values s first) (take i keys) → All (λ (k : SortKey). key_values s k ≡ key_values s first) (take (i + 1) keys)
  goes_on_there run_starts i e less goes_on before = elim (cases_lt 0 i) [
    | inl after ↦ has_run_start (get_or keys i e).run_start refl (take_with_periods i e after ∙ goes_on) after
    | inr none ↦
        let zeroth : i ≡ 0 = omega (arith, none) in
        All-more (λ (k : SortKey). key_values s k ≡ key_values s first) keys i e less before
        (ap (λ n. key_values s (get_or keys n e)) zeroth ∙ ap (key_values s) (sym (is_first e)))
  ]
    where
      has_run_start : (m : RunStart) → (get_or keys i e).run_start ≡ m → begins_by m (is_ne (value_key_cmp s (get_or keys i e) first)) ≡ false → 0 < i → All (λ (k : SortKey). key_values s k ≡ key_values s first) (take (i + 1) keys)
      has_run_start Unknown is apart after = run_more i e less apart before
      has_run_start Begins is apart after = cc
      has_run_start GoesOn is apart after = run_starts_alike run_starts i e less after is before

-- ---- the values that keys begin with

pub first_prefix_front : (values : List Value) → first_prefix (take 1 values) ≡ first_prefix values
first_prefix_front [] = refl
first_prefix_front (v ∷ values) = refl

pub begins_front : (values : List Value) → BeginsWithBytes (take 1 values) → BeginsWithBytes values
begins_front [] bytes = tt
begins_front (v ∷ values) bytes = bytes

-- no value is left to compare
pub compared_none : (s : SortInputState) (a b : SortKey) (first : ℕ) → ((of : Side) → length (columns_on s of) ≤ first)
    → Equal ≡ values_cmp (drop first (key_values s a)) (drop first (key_values s b))
compared_none s a b first past = ap (values_cmp []) (sym (none b)) ∙ ap (λ l. values_cmp l (drop first (key_values s b))) (sym (none a))
  where
    none : (k : SortKey) → drop first (key_values s k) ≡ []
    none k = drop_all first (key_values s k) (omega (arith, past k.side, length-map (columns_on s k.side) (value_at (key_row s k).values)))
