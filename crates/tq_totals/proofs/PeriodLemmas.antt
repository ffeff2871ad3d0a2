-- The days at which periods begin, and the lines of periods.
use Rattle.std.proofs.Common.{◌≡◌, ◌≢◌, ◌⊎◌, zero, suc, length-append, subst, inl, inr, ◌∙◌, ◌≤◌, ◌<◌, ◌+◌, ◌-◌, ◌==◌, ◌++◌, ◌∷◌, [], ℕ, Bool, true, false, cond, ◌||◌, List, ap, append_assoc, arith, get_or, length, map, refl, sym}
use Rattle.std.proofs.Math.Seq.{get_or-append_seam}
use Rattle.std.proofs.lemmas.Bool.{cases_lt, eqb-true, eqb-false}
use Rattle.std.proofs.lemmas.List.{append-nil, flat_map_more, get_or_append_left, get_or_default, get_or_past, map-id}
use Rattle.std.proofs.lemmas.List.Elements.{All-filter, All-from_get_or, filter-append}
use Rattle.std.proofs.lemmas.List.Folds.{flat_map-map}
use Rattle.std.proofs.lemmas.List.FromFn.{get_or-range_with_len, length-range_with_len, map-range_with_len_more}
use Rattle.std.proofs.lemmas.Slice.Eq.{bytes_eq-Decides}
use Rattle.std.specs.List.{filter, flat_map, range_with_len}
use Rattle.std.specs.Prelude.{All, not}
use Rattle.std.specs.Str.{bytes_eq}
use Rattle.tq_totals.specs.Calendar.{begins, first_days, label, IsCalendar, PeriodsAreRuns}
use Rattle.tq_totals.specs.declared.unit.Unit.{Unit}

-- one more number after a range
pub range_more : (a j : ℕ) → a ≤ j → range_with_len a (j + 1 - a) ≡ range_with_len a (j - a) ++ j ∷ []
range_more a j order =
    ap (range_with_len a) (let e : j + 1 - a ≡ (j - a) + 1 = omega arith in e)
    ∙ sym (map-id (range_with_len a ((j - a) + 1)))
    ∙ map-range_with_len_more (λ (n : ℕ). n) a (j - a) j (omega arith)
    ∙ ap (λ l. l ++ j ∷ []) (map-id (range_with_len a (j - a)))

-- one more day
pub days_more : (unit : Unit) (first day : ℕ) → first ≤ day → first_days unit first (day + 1) ≡ first_days unit first day ++ cond (begins unit first day) (day ∷ []) []
days_more unit first day order =
    ap (filter (begins unit first)) (range_more first day order) ∙ filter-append (begins unit first) (range_with_len first (day - first)) (day ∷ [])

pub none_before : (unit : Unit) (first day : ℕ) → day ≤ first → first_days unit first day ≡ []
none_before unit first day order = ap (λ n. filter (begins unit first) (range_with_len first n)) (let e : day - first ≡ 0 = omega arith in e)

pub begins_is : (unit : Unit) (first day : ℕ) (is_first result : Bool) (last new : List ℕ) → first ≤ day → is_first ≡ (day == first)
    → (first < day → last ≡ label unit (day - 1)) → new ≡ label unit day → result ≡ (is_first || not (bytes_eq last new)) → result ≡ begins unit first day
begins_is unit first day is_first result last new order same before is r = by (day == first) refl
  where
    by : (b : Bool) → (day == first) ≡ b → result ≡ begins unit first day
    by true e = r ∙ rw (same, e) refl
    by false e =
        let apart : first < day = omega (arith, eqb-false day first e) in
        r ∙ rw (same, e, before apart, is) refl

-- no period begins at a day that is not the first and has the label of the day before, and conversely
begins_apart : (unit : Unit) (first day : ℕ) → first < day → begins unit first day ≡ true → label unit (day - 1) ≢ label unit day
begins_apart unit first day later e same = by (day == first) (bytes_eq (label unit (day - 1)) (label unit day)) refl refl e
  where
    by : (a b : Bool) → (day == first) ≡ a → bytes_eq (label unit (day - 1)) (label unit day) ≡ b → (a || not b) ≡ true → ⊥
    by true b is _ _ = absurd (omega (arith, eqb-true day first is, later))
    by false true _ is none = cc
    by false false _ is _ = let test = (bytes_eq-Decides (label unit (day - 1)) (label unit day)).1 same in cc

begins_same : (unit : Unit) (first day : ℕ) → begins unit first day ≡ false → (day ≢ first) × (label unit (day - 1) ≡ label unit day)
begins_same unit first day e = by (day == first) (bytes_eq (label unit (day - 1)) (label unit day)) refl refl e
  where
    by : (a b : Bool) → (day == first) ≡ a → bytes_eq (label unit (day - 1)) (label unit day) ≡ b → (a || not b) ≡ false → (day ≢ first) × (label unit (day - 1) ≡ label unit day)
    by true b is _ none = cc
    by false true is same _ = (eqb-false day first is, (bytes_eq-Decides (label unit (day - 1)) (label unit day)).0 same)
    by false false _ is none = cc

-- the pieces of a line, appended one by one
pub line_pieces : (t a b c d : List ℕ) → (((((((t ++ a) ++ 44 ∷ []) ++ b) ++ 44 ∷ []) ++ c) ++ 44 ∷ []) ++ d) ++ 10 ∷ [] ≡ t ++ (a ++ 44 ∷ (b ++ 44 ∷ (c ++ 44 ∷ (d ++ 10 ∷ []))))
line_pieces t a b c d = simp append_assoc refl

abbrev whole : List ℕ → List ℕ
whole text = text

-- one more piece, computed from its place
pub flat_map_step : (f : ℕ → List ℕ) (text : List ℕ) (n : ℕ)
    → (text ++ flat_map f (range_with_len 0 n)) ++ f n ≡ text ++ flat_map f (range_with_len 0 (n + 1))
flat_map_step f text n =
    ap (λ l. (text ++ l) ++ f n) (sym (flat_map-map whole f (range_with_len 0 n)))
    ∙ flat_map_more whole text (map f (range_with_len 0 n)) (f n)
    ∙ ap (λ l. text ++ flat_map whole l) (sym (map-range_with_len_more f 0 n n (omega arith)))
    ∙ ap (λ l. text ++ l) (flat_map-map whole f (range_with_len 0 (n + 1)))

-- the days at which periods begin lie before the end
pub days_within : (unit : Unit) (first end last : ℕ) → end ≤ last → All (λ day. day ≤ last) (first_days unit first end)
days_within unit first end last most =
    All-filter (begins unit first) (λ day. day ≤ last) (range_with_len first (end - first))
    (All-from_get_or (λ day. day ≤ last) (range_with_len first (end - first)) 0 (λ i within.
    let short : i < end - first = omega (arith, within, length-range_with_len first (end - first)) in
    omega (arith, get_or-range_with_len first (end - first) i 0 short)))

-- ---- the periods are runs

-- days at which runs of equal labels begin, and the end of the last run
module _ (of : ℕ → List ℕ) (first : ℕ) where
  pub record AreRuns (end : ℕ) (days : List ℕ) : Type 0 where
    pub none : end ≤ first → days ≡ []
    pub some : first < end → 0 < length days
    pub begun : first < end → get_or days 0 0 ≡ first
    pub rises : (k : ℕ) → k < length days → get_or days k 0 < get_or days (k + 1) end
    pub labels : (k day : ℕ) → k < length days → get_or days k 0 ≤ day → day < get_or days (k + 1) end → of day ≡ of (get_or days k 0)
    pub differ : (k : ℕ) → k + 1 < length days → of (get_or days k 0) ≢ of (get_or days (k + 1) 0)

  -- a run ends where the next begins, or is the last one
  abbrev IsEnd : ℕ → List ℕ → ℕ → Type 0
  IsEnd end days k =
      ((k + 1 < length days) × (get_or days (k + 1) (end + 1) ≡ get_or days (k + 1) end))
      ⊎ ((k + 1 ≡ length days) × (get_or days (k + 1) (end + 1) ≡ end + 1) × (get_or days (k + 1) end ≡ end))

  end_is : (end : ℕ) (days : List ℕ) (k : ℕ) → k < length days → IsEnd end days k
  end_is end days k within = by (cases_lt (k + 1) (length days))
    where
      by : (k + 1 < length days) ⊎ (length days ≤ k + 1) → IsEnd end days k
      by (inl less) = inl (less, get_or_default days (k + 1) (end + 1) end less)
      by (inr last) = inr (omega (arith, last, within), get_or_past days (k + 1) (end + 1) last, get_or_past days (k + 1) end last)

  -- one more day, with the label of the day before
  pub run_goes_on : (end : ℕ) (days : List ℕ) → first < end → of (end - 1) ≡ of end → AreRuns end days → AreRuns (end + 1) days
  run_goes_on end days later same is = record {
    none = λ early. absurd (omega (arith, early, later));
    some = λ _. is.some later;
    begun = λ _. is.begun later;
    rises = λ k within. rise k within (end_is end days k within);
    labels = λ k day within from to. label_is k day within from to (end_is end days k within) (cases_lt day end);
    differ = is.differ;
  }
    where
      rise : (k : ℕ) → k < length days → IsEnd end days k → get_or days k 0 < get_or days (k + 1) (end + 1)
      rise k within (inl e) = omega (arith, e.1, is.rises k within)
      rise k within (inr e) = omega (arith, e.1, e.2, is.rises k within)

      label_is : (k day : ℕ) → k < length days → get_or days k 0 ≤ day → day < get_or days (k + 1) (end + 1) → IsEnd end days k → (day < end) ⊎ (end ≤ day) → of day ≡ of (get_or days k 0)
      label_is k day within from to (inl e) _ = is.labels k day within from (omega (arith, e.1, to))
      label_is k day within from to (inr e) (inl early) = is.labels k day within from (omega (arith, e.2, early))
      label_is k day within from to (inr e) (inr last) =
          let is_end : day ≡ end = omega (arith, e.1, to, last) in
          let before = is.labels k (end - 1) within (omega (arith, e.2, is.rises k within)) (omega (arith, e.2, later)) in
          ap of is_end ∙ sym same ∙ before

  -- a place in the days with one more day at the end
  more_at : (end : ℕ) (days : List ℕ) (k d : ℕ) → k < length days → get_or (days ++ end ∷ []) k d ≡ get_or days k d
  more_at end days k d within = get_or_append_left days (end ∷ []) d k within

  last_at : (end : ℕ) (days : List ℕ) (k d : ℕ) → k ≡ length days → get_or (days ++ end ∷ []) k d ≡ end
  last_at end days k d is = ap (λ n. get_or (days ++ end ∷ []) n d) is ∙ get_or-append_seam days end [] d

  past_at : (end : ℕ) (days : List ℕ) (k d : ℕ) → length days < k → get_or (days ++ end ∷ []) k d ≡ d
  past_at end days k d past = get_or_past (days ++ end ∷ []) k d (omega (arith, past, length-append days (end ∷ [])))

  -- the end of a run before the new one
  end_before : (end : ℕ) (days : List ℕ) (k : ℕ) → k < length days → get_or (days ++ end ∷ []) (k + 1) (end + 1) ≡ get_or days (k + 1) end
  end_before end days k within = by (cases_lt (k + 1) (length days))
    where
      by : (k + 1 < length days) ⊎ (length days ≤ k + 1) → get_or (days ++ end ∷ []) (k + 1) (end + 1) ≡ get_or days (k + 1) end
      by (inl less) = more_at end days (k + 1) (end + 1) less ∙ get_or_default days (k + 1) (end + 1) end less
      by (inr last) = last_at end days (k + 1) (end + 1) (omega (arith, last, within)) ∙ sym (get_or_past days (k + 1) end last)

  -- one more day, at which a run begins
  pub run_begins : (end : ℕ) (days : List ℕ) → first ≤ end → (first < end → of (end - 1) ≢ of end) → AreRuns end days → AreRuns (end + 1) (days ++ end ∷ [])
  run_begins end days order apart is = record {
    none = λ early. absurd (omega (arith, early, order));
    some = λ _. omega (arith, longer);
    begun = λ _. begun_is (cases_lt first end);
    rises = λ k within. rise k (cases_lt k (length days)) within;
    labels = λ k day within from to. label_is k day (cases_lt k (length days)) within from to;
    differ = λ k within. differs k (cases_lt (k + 1) (length days)) within;
  }
    where
      longer : length (days ++ end ∷ []) ≡ length days + 1
      longer = length-append days (end ∷ [])

      begun_is : (first < end) ⊎ (end ≤ first) → get_or (days ++ end ∷ []) 0 0 ≡ first
      begun_is (inl later) = more_at end days 0 0 (is.some later) ∙ is.begun later
      begun_is (inr early) = last_at end days 0 0 (sym (ap length (is.none early))) ∙ (let e : end ≡ first = omega (arith, early, order) in e)

      rise : (k : ℕ) → (k < length days) ⊎ (length days ≤ k) → k < length (days ++ end ∷ []) → get_or (days ++ end ∷ []) k 0 < get_or (days ++ end ∷ []) (k + 1) (end + 1)
      rise k (inl less) within = omega (arith, more_at end days k 0 less, end_before end days k less, is.rises k less)
      rise k (inr last) within = omega (arith, last_at end days k 0 (omega (arith, last, within, longer)), past_at end days (k + 1) (end + 1) (omega (arith, last)))

      label_is : (k day : ℕ) → (k < length days) ⊎ (length days ≤ k) → k < length (days ++ end ∷ []) → get_or (days ++ end ∷ []) k 0 ≤ day
          → day < get_or (days ++ end ∷ []) (k + 1) (end + 1) → of day ≡ of (get_or (days ++ end ∷ []) k 0)
      label_is k day (inl less) within from to =
          is.labels k day less (omega (arith, from, more_at end days k 0 less)) (omega (arith, to, end_before end days k less)) ∙ ap of (sym (more_at end days k 0 less))
      label_is k day (inr last) within from to =
          let place : k ≡ length days = omega (arith, last, within, longer) in
          ap of (let e : day ≡ get_or (days ++ end ∷ []) k 0 = omega (arith, from, to, last_at end days k 0 place, past_at end days (k + 1) (end + 1) (omega (arith, last))) in e)

      differs : (k : ℕ) → (k + 1 < length days) ⊎ (length days ≤ k + 1) → k + 1 < length (days ++ end ∷ [])
          → of (get_or (days ++ end ∷ []) k 0) ≢ of (get_or (days ++ end ∷ []) (k + 1) 0)
      differs k (inl less) within = λ same.
          is.differ k less (ap of (sym (more_at end days k 0 (omega (arith, less)))) ∙ same ∙ ap of (more_at end days (k + 1) 0 less))
      differs k (inr last) within = λ same.
          let place : k + 1 ≡ length days = omega (arith, last, within, longer) in
          let less : k < length days = omega (arith, place) in
          let until = get_or_past days (k + 1) end last in
          let later : first < end = some_later (cases_lt first end) less in
          apart later
          (is.labels k (end - 1) less (omega (arith, is.rises k less, until)) (omega (arith, until, later))
          ∙ ap of (sym (more_at end days k 0 less)) ∙ same ∙ ap of (last_at end days (k + 1) 0 place))
        where
          some_later : (first < end) ⊎ (end ≤ first) → k < length days → first < end
          some_later (inl later) less = later
          some_later (inr early) less = absurd (omega (arith, less, ap length (is.none early)))

-- the days from the first one on, as many as there are
runs_upto : (unit : Unit) (first n : ℕ) → AreRuns (label unit) first (first + n) (first_days unit first (first + n))
runs_upto unit first zero =
    let none = none_before unit first (first + 0) (omega arith) in
    record {
      none = λ _. none;
      some = λ later. absurd (omega (arith, later));
      begun = λ later. absurd (omega (arith, later));
      rises = λ k within. absurd (omega (arith, within, ap length none));
      labels = λ k day within from to. absurd (omega (arith, within, ap length none));
      differ = λ k within. absurd (omega (arith, within, ap length none));
    }
runs_upto unit first (suc n) = by (begins unit first (first + n)) refl (runs_upto unit first n)
  where
    day : ℕ
    day = first + n

    by : (b : Bool) → begins unit first (first + n) ≡ b → AreRuns (label unit) first (first + n) (first_days unit first (first + n)) → AreRuns (label unit) first (first + suc n) (first_days unit first (first + suc n))
    by true e is =
        subst (λ m. AreRuns (label unit) first m (first_days unit first m)) (let m : first + n + 1 ≡ first + suc n = omega arith in m)
        (subst (AreRuns (label unit) first (first + n + 1)) (sym (days_more unit first (first + n) (omega arith) ∙ ap (λ b. first_days unit first (first + n) ++ cond b ((first + n) ∷ []) []) e))
        (run_begins (label unit) first (first + n) (first_days unit first (first + n)) (omega arith) (λ later. begins_apart unit first (first + n) later e) is))
    by false e is =
        let apart = begins_same unit first (first + n) e in
        subst (λ m. AreRuns (label unit) first m (first_days unit first m)) (let m : first + n + 1 ≡ first + suc n = omega arith in m)
        (subst (AreRuns (label unit) first (first + n + 1)) (sym (days_more unit first (first + n) (omega arith) ∙ ap (λ b. first_days unit first (first + n) ++ cond b ((first + n) ∷ []) []) e ∙ append-nil (first_days unit first (first + n))))
        (run_goes_on (label unit) first (first + n) (first_days unit first (first + n)) (omega (arith, apart.0)) apart.1 is))

pub periods_are : PeriodsAreRuns
periods_are unit first end = by (cases_lt first end)
  where
    seen : (end : ℕ) (days : List ℕ) → AreRuns (label unit) first end days → IsCalendar unit first end days
    seen end days is = record { none = is.none; some = is.some; begun = is.begun; rises = is.rises; labels = is.labels; differ = is.differ }

    by : (first < end) ⊎ (end ≤ first) → IsCalendar unit first end (first_days unit first end)
    by (inl later) = subst (λ m. IsCalendar unit first m (first_days unit first m)) (let m : first + (end - first) ≡ end = omega (arith, later) in m)
        (seen (first + (end - first)) (first_days unit first (first + (end - first))) (runs_upto unit first (end - first)))
    by (inr early) =
        let none = none_before unit first end early in
        record {
          none = λ _. none;
          some = λ later. absurd (omega (arith, later, early));
          begun = λ later. absurd (omega (arith, later, early));
          rises = λ k within. absurd (omega (arith, within, ap length none));
          labels = λ k day within from to. absurd (omega (arith, within, ap length none));
          differ = λ k within. absurd (omega (arith, within, ap length none));
        }
