-- The covers of the parents decide what a row of the child misses.
use Rattle.std.proofs.Common.{◌≡◌, ◌≢◌, ◌∙◌, ℕ, ◌+◌, ◌<◌, ◌≤◌, Bool, true, false, cond, ◌&&◌, ◌||◌, List, Option, Some, None, ap, refl, sym, subst, arith, get_or, length, min, inl, inr}
use Rattle.std.specs.Prelude.{◌⊎◌, nat_le, nat_lt, slice_get}
use Rattle.std.specs.Cmp.{Equal-is}
use Rattle.std.specs.List.{list_any}
use Rattle.std.specs.List.Sorted.{IsPartitionedBy, IsPartitionPoint}
use Rattle.std.specs.Ordering.{eq_by_cmp, is_eq, is_lt}
use Rattle.std.specs.declared.cmp.Ordering.{Ordering}
use Rattle.std.specs.declared.cmp.Ordering.TheVariants.{Equal, Greater, Less}
use Rattle.std.proofs.lemmas.Bool.{cases_lt}
use Rattle.std.proofs.lemmas.Bool.Decides.{nat_tests}
use Rattle.std.proofs.lemmas.Cmp.{tied_back}
use Rattle.std.proofs.lemmas.List.{get_or_default}
use Rattle.std.proofs.lemmas.List.Folds.{list_any_at, list_any_none}
use Rattle.std.proofs.lemmas.Option.{slice_get-get_or, slice_get_cases}
use Rattle.tq_base.specs.Keys.{key_values, value_key_cmp, IsSortKey, SortInputState}
use Rattle.tq_base.specs.SortKeyLaws.{alike, told, value_key_cmp_total}
use Rattle.tq_base.specs.ValueOrder.{eq_from_same, same_from_eq, values_cmp}
use Rattle.tq_base.specs.declared.sort_input.SortKey.{SortKey}
use Rattle.tq_check.specs.Covers.{is_covering, is_passed, AreCovers, IsBefore}
use Rattle.tq_check.specs.OrphanPasses.{missing_case, missing_until, of_values}
use Rattle.tq_check.specs.Orphans.{missing_in}
use Rattle.tq_check.specs.declared.covers.Cover.{Cover}
use Rattle.tq_check.proofs.CoverLemmas.{at_most, equal_then, greater_back, less_back, less_equal}
use Rattle.tq_check.proofs.InstantLemmas.{missing_found, nothing_missing, IsMissing}

-- ---- tests

ended : (b : Bool) (x y at : ℕ) → y ≤ at → (b && (nat_le x at && nat_lt at y)) ≡ false
ended false x y at least = refl
ended true x y at least = grind (arith, nat_tests, least)

not_begun : (b : Bool) (x y at : ℕ) → at < x → (b && (nat_le x at && nat_lt at y)) ≡ false
not_begun false x y at less = refl
not_begun true x y at less = grind (arith, nat_tests, less)

contains : (b : Bool) (x y at : ℕ) → b ≡ true → x ≤ at → at < y → (b && (nat_le x at && nat_lt at y)) ≡ true
contains true x y at is least less = grind (arith, nat_tests, least, less)
contains false x y at is least less = cc

above : (m n : ℕ) → nat_le m n ≡ false → n < m
above m n is = grind (arith, nat_tests, is)

most_is : (m n : ℕ) → m ≤ n → nat_le m n ≡ true
most_is m n most = grind (arith, nat_tests, most)

-- the value is there if the test passes
there : {X : Type 0} (b : Bool) (x y : X) → cond b (Some x) None ≡ Some y → (b ≡ true) × (x ≡ y)
there true x y is = (refl, cc)
there false x y is = cc

module _ (s : SortInputState) (key : SortKey) (covers : List Cover) (are : AreCovers s covers) (is_key : IsSortKey s key) where
  abbrev order : SortKey → SortKey → Ordering
  order = value_key_cmp s

  abbrev has : ℕ → Bool
  has at = list_any (is_covering s (key_values s key) at) covers

  -- ---- which covers lie before the key's row

  from_less : (cover other : Cover) → IsBefore s cover other → order other.key key ≡ Less → order cover.key key ≡ Less
  from_less cover other (inl one) here = (value_key_cmp_total s).trans cover.key other.key key one here
  from_less cover other (inr one) here = equal_then (value_key_cmp_total s) Less cover.key other.key key one.0 here

  passed_less : (cover : Cover) → order cover.key key ≡ Less → is_passed s key cover ≡ true
  passed_less cover here = ap (λ o. is_lt o || (is_eq o && nat_le cover.end key.start)) here

  passed_equal : (cover : Cover) → order cover.key key ≡ Equal → cover.end ≤ key.start → is_passed s key cover ≡ true
  passed_equal cover here most = λ i. is_lt (here i) || (is_eq (here i) && most_is cover.end key.start most i)

  passed_end : (cover : Cover) → order cover.key key ≡ Equal → is_passed s key cover ≡ true → cover.end ≤ key.start
  passed_end cover here is =
      let test : nat_le cover.end key.start ≡ true = sym (ap (λ o. is_lt o || (is_eq o && nat_le cover.end key.start)) here) ∙ is in
      at_most cover.end key.start test

  from_equal : (cover other : Cover) → IsBefore s cover other → other.key.start < other.end → order other.key key ≡ Equal → other.end ≤ key.start → is_passed s key cover ≡ true
  from_equal cover other (inl one) some here most = passed_less cover (less_equal (value_key_cmp_total s) cover.key other.key key one here)
  from_equal cover other (inr one) some here most =
      passed_equal cover (equal_then (value_key_cmp_total s) Equal cover.key other.key key one.0 here) (let before = one.1 in omega (arith, before, some, most))

  passed_before : (cover other : Cover) → IsBefore s cover other → other.key.start < other.end → is_passed s key other ≡ true → is_passed s key cover ≡ true
  passed_before cover other before some is = by (order other.key key) refl
    where
      by : (r : Ordering) → order other.key key ≡ r → is_passed s key cover ≡ true
      by Less here = passed_less cover (from_less cover other before here)
      by Equal here = from_equal cover other before some here (passed_end other here is)
      by Greater here = let none : is_passed s key other ≡ false = ap (λ o. is_lt o || (is_eq o && nat_le other.end key.start)) here in cc (none, is)

  pub partitioned : IsPartitionedBy (is_passed s key) covers
  partitioned i j d most less is = elim (cases_lt i j) [
    | inl before ↦ passed_before (get_or covers i d) (get_or covers j d) (are.apart i j d before less) (are.some j d less) is
    | inr least ↦ let same : j ≡ i = omega (arith, most, least) in subst (λ n. is_passed s key (get_or covers n d) ≡ true) same is
  ]

  -- ---- which covers contain no instant

  other_values : (cover : Cover) → IsSortKey s cover.key → order cover.key key ≢ Equal → (at : ℕ) → is_covering s (key_values s key) at cover ≡ false
  other_values cover is differ at = by (eq_by_cmp values_cmp (key_values s key) (key_values s cover.key)) refl
    where
      by : (b : Bool) → eq_by_cmp values_cmp (key_values s key) (key_values s cover.key) ≡ b → is_covering s (key_values s key) at cover ≡ false
      by false apart = ap (λ b. b && (nat_le cover.key.start at && nat_lt at cover.end)) apart
      by true equal = absurd (differ (alike s cover.key key is is_key (sym (same_from_eq (key_values s key) (key_values s cover.key) equal))))

  beyond : (cover : Cover) → IsSortKey s cover.key → order key cover.key ≡ Less → (at : ℕ) → is_covering s (key_values s key) at cover ≡ false
  beyond cover is less at =
      other_values cover is (λ equal. let greater : order cover.key key ≡ Greater = greater_back (value_key_cmp_total s) cover.key key less in cc (greater, equal)) at

  passed_empty : (cover : Cover) → IsSortKey s cover.key → is_passed s key cover ≡ true → (at : ℕ) → key.start ≤ at → is_covering s (key_values s key) at cover ≡ false
  passed_empty cover is passed at least = by (order cover.key key) refl
    where
      by : (r : Ordering) → order cover.key key ≡ r → is_covering s (key_values s key) at cover ≡ false
      by Less here = other_values cover is (λ equal. cc (here, equal)) at
      by Equal here =
          let end = passed_end cover here passed in
          ended (eq_by_cmp values_cmp (key_values s key) (key_values s cover.key)) cover.key.start cover.end at (omega (arith, end, least))
      by Greater here = other_values cover is (λ equal. cc (here, equal)) at

  -- the covers from a place on do not lie before the key's row
  abbrev AreOpen : ℕ → Type 0
  AreOpen j = (i : ℕ) (d : Cover) → j ≤ i → i < length covers → is_passed s key (get_or covers i d) ≡ false

  not_less : (cover : Cover) → is_passed s key cover ≡ false → order cover.key key ≢ Less
  not_less cover waits here = let passed = passed_less cover here in cc (passed, waits)

  -- a cover after one with the key's values, or after one with greater values
  after_equal : (first other : Cover) → IsSortKey s other.key → first.key.start < first.end → IsBefore s first other → order first.key key ≡ Equal → (at : ℕ) → at < first.end → is_covering s (key_values s key) at other ≡ false
  after_equal first other is some (inl one) here at less =
      beyond other is (sym ((value_key_cmp_total s).congr first.key key other.key here) ∙ one) at
  after_equal first other is some (inr one) here at less =
      let before = one.1 in
      not_begun (eq_by_cmp values_cmp (key_values s key) (key_values s other.key)) other.key.start other.end at (omega (arith, before, less))

  after_greater : (first other : Cover) → IsSortKey s other.key → IsBefore s first other → order first.key key ≡ Greater → (at : ℕ) → is_covering s (key_values s key) at other ≡ false
  after_greater first other is (inl one) here at =
      beyond other is ((value_key_cmp_total s).trans key first.key other.key (less_back (value_key_cmp_total s) key first.key here) one) at
  after_greater first other is (inr one) here at =
      beyond other is (less_equal (value_key_cmp_total s) key first.key other.key (less_back (value_key_cmp_total s) key first.key here) one.0) at

  -- before the next cover with the key's values, no cover from the place on contains an instant
  ahead : (j at : ℕ) → AreOpen j → ((cover : Cover) → of_values s key (slice_get covers j) ≡ Some cover → at < cover.key.start) → (i : ℕ) (d : Cover) → j ≤ i → i < length covers
      → is_covering s (key_values s key) at (get_or covers i d) ≡ false
  ahead j at waits bound i d least less = by (order (get_or covers j d).key key) refl
    where
      inside : j < length covers
      inside = omega (arith, least, less)

      by : (r : Ordering) → order (get_or covers j d).key key ≡ r → is_covering s (key_values s key) at (get_or covers i d) ≡ false
      by Less here = absurd (not_less (get_or covers j d) (waits j d (omega arith) inside) here)
      by Equal here =
          let first = get_or covers j d in
          let found = slice_get-get_or covers j d inside in
          let begins : at < first.key.start = bound first (ap (of_values s key) found ∙ ap (λ o. cond (is_eq o) (Some first) None) here) in
          let some : first.key.start < first.end = are.some j d inside in
          elim (cases_lt j i) [
            | inl before ↦ after_equal first (get_or covers i d) (are.each i d less) some (are.apart j i d before less) here at (omega (arith, begins, some))
            | inr most ↦
                let same : j ≡ i = omega (arith, least, most) in
                subst (λ n. is_covering s (key_values s key) at (get_or covers n d) ≡ false) same
                (not_begun (eq_by_cmp values_cmp (key_values s key) (key_values s first.key)) first.key.start first.end at begins)
          ]
      by Greater here = elim (cases_lt j i) [
        | inl before ↦ after_greater (get_or covers j d) (get_or covers i d) (are.each i d less) (are.apart j i d before less) here at
        | inr most ↦
            let same : j ≡ i = omega (arith, least, most) in
            subst (λ n. is_covering s (key_values s key) at (get_or covers n d) ≡ false) same
            (other_values (get_or covers j d) (are.each j d inside) (λ equal. cc (here, equal)) at)
      ]

  -- ---- the covers with the key's values

  record IsAt (j : ℕ) (cover : Cover) : Type 0 where
    pub inside : j < length covers
    pub here : get_or covers j cover ≡ cover
    pub same : order cover.key key ≡ Equal

  is_at : (j : ℕ) (cover : Cover) → of_values s key (slice_get covers j) ≡ Some cover → IsAt j cover
  is_at j cover is = by (slice_get_cases covers j).1
    where
      by : ((x : Cover) × (j < length covers) × (slice_get covers j ≡ Some x) × (get_or covers j x ≡ x)) ⊎ ((length covers ≤ j) × (slice_get covers j ≡ None)) → IsAt j cover
      by (inl found) =
          let both = there (is_eq (order found.0.key key)) found.0 cover (sym (ap (of_values s key) found.2) ∙ is) in
          subst (IsAt j) both.1 (record { inside = found.1; here = found.3; same = (Equal-is (order found.0.key key)).0 both.0 })
      by (inr none) = let nothing : None ≡ Some cover = sym (ap (of_values s key) none.1) ∙ is in cc

  -- a cover contains its instants
  held_at : (j : ℕ) (cover : Cover) → IsAt j cover → (at : ℕ) → cover.key.start ≤ at → at < cover.end → has at ≡ true
  held_at j cover is at least less =
      let is_cover : IsSortKey s cover.key = subst (λ (c : Cover). IsSortKey s c.key) is.here (are.each j cover is.inside) in
      let values = eq_from_same (key_values s key) (key_values s cover.key) (sym (told s cover.key key is_cover is_key is.same)) in
      list_any_at (is_covering s (key_values s key) at) covers j cover is.inside
      (subst (λ (c : Cover). is_covering s (key_values s key) at c ≡ true) (sym is.here)
      (contains (eq_by_cmp values_cmp (key_values s key) (key_values s cover.key)) cover.key.start cover.end at values least less))

  some_at : (j : ℕ) (cover : Cover) → IsAt j cover → cover.key.start < cover.end
  some_at j cover is = subst (λ (c : Cover). c.key.start < c.end) is.here (are.some j cover is.inside)

  -- ---- up to the next cover

  -- the covers before a place contain no instant from `from` on
  abbrev AreOver : ℕ → ℕ → Type 0
  AreOver j from = (i : ℕ) (d : Cover) (at : ℕ) → i < j → i < length covers → from ≤ at → is_covering s (key_values s key) at (get_or covers i d) ≡ false

  nothing : (j from at : ℕ) → AreOver j from → AreOpen j → from ≤ at → ((cover : Cover) → of_values s key (slice_get covers j) ≡ Some cover → at < cover.key.start) → has at ≡ false
  nothing j from at over waits least bound =
      list_any_none (is_covering s (key_values s key) at) covers (λ i d less. elim (cases_lt i j) [
        | inl before ↦ over i d at before less least
        | inr from_j ↦ ahead j at waits bound i d from_j less
      ])

  until : (j from end : ℕ) → from < end → AreOver j from → AreOpen j → ((cover : Cover) → of_values s key (slice_get covers j) ≡ Some cover → from < cover.key.start)
      → IsMissing has from end (missing_until from end (of_values s key (slice_get covers j)))
  until j from end some over waits later = by (of_values s key (slice_get covers j)) refl
    where
      by : (o : Option Cover) → of_values s key (slice_get covers j) ≡ o → IsMissing has from end (missing_until from end (of_values s key (slice_get covers j)))
      by None none = subst (λ o. IsMissing has from end (missing_until from end o)) (sym none) (record {
        from_is = refl;
        some = some;
        most = omega arith;
        none = λ t least less. nothing j from t over waits least (λ cover is. let no : None ≡ Some cover = sym none ∙ is in cc);
        next = inl refl;
      })
      by (Some cover) is =
          let at = is_at j cover is in
          let long = some_at j cover at in
          let starts : from < cover.key.start = later cover is in
          subst (λ o. IsMissing has from end (missing_until from end o)) (sym is) (record {
            from_is = refl;
            some = omega (arith, some, starts);
            most = omega arith;
            none = λ t least less.
                nothing j from t over waits least (λ other other_is.
                let same : Some cover ≡ Some other = sym is ∙ other_is in
                let equal : cover ≡ other = cc in
                subst (λ (c : Cover). t < c.key.start) equal (omega (arith, less)));
            next = elim (cases_lt cover.key.start end) [
              | inl before ↦
                  let to : min end cover.key.start ≡ cover.key.start = omega (arith, before) in
                  inr (ap has to ∙ held_at j cover at cover.key.start (omega arith) long)
              | inr least ↦ inl (omega (arith, least))
            ];
          })

  -- ---- what is missing

  module _ (j end : ℕ) (some : key.start < end) (point : IsPartitionPoint (λ cover. is_passed s key cover ≡ true) (λ cover. is_passed s key cover ≡ false) covers j) where
    from_place : AreOpen j
    from_place i d least less = point.1 i d least less

    over : AreOver j key.start
    over i d at before less least = passed_empty (get_or covers i d) (are.each i d less) (point.0 i d (omega arith) before) at least

    whole : ((cover : Cover) → of_values s key (slice_get covers j) ≡ Some cover → key.start < cover.key.start)
        → Some (missing_until key.start end (of_values s key (slice_get covers j))) ≡ missing_in has key.start end
    whole later =
        sym (missing_found has key.start end key.start (missing_until key.start end (of_values s key (slice_get covers j))) (omega arith) (λ t least less. absurd (omega (arith, least, less)))
        (until j key.start end some over from_place later))

    module _ (cover : Cover) (is : of_values s key (slice_get covers j) ≡ Some cover) (starts : cover.key.start ≤ key.start) where
      there_at : IsAt j cover
      there_at = is_at j cover is

      lasts : key.start < cover.end
      lasts =
          let waits_j : is_passed s key cover ≡ false = subst (λ (c : Cover). is_passed s key c ≡ false) there_at.here (from_place j cover (omega arith) there_at.inside) in
          let test : nat_le cover.end key.start ≡ false = sym (ap (λ o. is_lt o || (is_eq o && nat_le cover.end key.start)) there_at.same) ∙ waits_j in
          above cover.end key.start test

      covered : (t : ℕ) → key.start ≤ t → t < cover.end → has t ≡ true
      covered t least less = held_at j cover there_at t (omega (arith, starts, least)) less

      over_next : AreOver (j + 1) cover.end
      over_next i d t before less least = elim (cases_lt i j) [
        | inl earlier ↦ over i d t earlier less (omega (arith, lasts, least))
        | inr from_j ↦
            let same : j ≡ i = omega (arith, before, from_j) in
            let first : get_or covers j d ≡ cover = get_or_default covers j d cover there_at.inside ∙ there_at.here in
            subst (λ n. is_covering s (key_values s key) t (get_or covers n d) ≡ false) same
            (subst (λ (c : Cover). is_covering s (key_values s key) t c ≡ false) (sym first)
            (ended (eq_by_cmp values_cmp (key_values s key) (key_values s cover.key)) cover.key.start cover.end t least))
      ]

      apart_after : (other : Cover) → order other.key key ≡ Equal → IsBefore s cover other → cover.end < other.key.start
      apart_after other same (inl less) =
          let equal : order cover.key other.key ≡ Equal =
          equal_then (value_key_cmp_total s) Equal cover.key key other.key there_at.same (tied_back (value_key_cmp_total s) other.key key same) in
          cc (less, equal)
      apart_after other same (inr both) = both.1

      next_later : (other : Cover) → of_values s key (slice_get covers (j + 1)) ≡ Some other → cover.end < other.key.start
      next_later other other_is =
          let other_at = is_at (j + 1) other other_is in
          let first : get_or covers j other ≡ cover = get_or_default covers j other cover there_at.inside ∙ there_at.here in
          let before : IsBefore s cover other =
          subst (λ (c : Cover). IsBefore s c other) first (subst (IsBefore s (get_or covers j other)) other_at.here (are.apart j (j + 1) other (omega arith) other_at.inside)) in
          apart_after other other_at.same before

      case_is : (b : Bool) → nat_le end cover.end ≡ b
          → cond (nat_le end cover.end) None (Some (missing_until cover.end end (of_values s key (slice_get covers (j + 1))))) ≡ missing_in has key.start end
      case_is true short =
          ap (λ b. cond b None (Some (missing_until cover.end end (of_values s key (slice_get covers (j + 1)))))) short
          ∙ sym (nothing_missing has key.start end (omega (arith, some)) (λ t least less. covered t least (let most = at_most end cover.end short in omega (arith, less, most))))
      case_is false long =
          let more : cover.end < end = above end cover.end long in
          ap (λ b. cond b None (Some (missing_until cover.end end (of_values s key (slice_get covers (j + 1)))))) long
          ∙ sym (missing_found has key.start end cover.end (missing_until cover.end end (of_values s key (slice_get covers (j + 1)))) (omega (arith, lasts)) covered
          (until (j + 1) cover.end end more over_next (λ i d least less. from_place i d (omega (arith, least)) less) next_later))

    choose : (cover : Cover) → of_values s key (slice_get covers j) ≡ Some cover → (b : Bool) → nat_le cover.key.start key.start ≡ b
        → missing_case (Some cover) (of_values s key (slice_get covers (j + 1))) key.start end ≡ missing_in has key.start end
    choose cover is true starts =
        ap (λ b. cond b (cond (nat_le end cover.end) None (Some (missing_until cover.end end (of_values s key (slice_get covers (j + 1)))))) (Some (missing_until key.start end (Some cover)))) starts
        ∙ case_is cover is (at_most cover.key.start key.start starts) (nat_le end cover.end) refl
    choose cover is false later =
        ap (λ b. cond b (cond (nat_le end cover.end) None (Some (missing_until cover.end end (of_values s key (slice_get covers (j + 1)))))) (Some (missing_until key.start end (Some cover)))) later
        ∙ ap (λ o. Some (missing_until key.start end o)) (sym is)
        ∙ whole (λ other other_is.
        let same : Some cover ≡ Some other = sym is ∙ other_is in
        let equal : cover ≡ other = cc in
        subst (λ (c : Cover). key.start < c.key.start) equal (above cover.key.start key.start later))

    by_first : (o : Option Cover) → of_values s key (slice_get covers j) ≡ o
        → missing_case (of_values s key (slice_get covers j)) (of_values s key (slice_get covers (j + 1))) key.start end ≡ missing_in has key.start end
    by_first None none =
        ap (λ o. missing_case o (of_values s key (slice_get covers (j + 1))) key.start end) none
        ∙ ap (λ o. Some (missing_until key.start end o)) (sym none)
        ∙ whole (λ cover is. let no : None ≡ Some cover = sym none ∙ is in cc)
    by_first (Some cover) is =
        ap (λ o. missing_case o (of_values s key (slice_get covers (j + 1))) key.start end) is ∙ choose cover is (nat_le cover.key.start key.start) refl

    pub missing_is : missing_case (of_values s key (slice_get covers j)) (of_values s key (slice_get covers (j + 1))) key.start end ≡ missing_in has key.start end
    missing_is = by_first (of_values s key (slice_get covers j)) refl
