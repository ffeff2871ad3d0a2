-- The first days of a unit, day by day, and the unit that is chosen.
use Rattle.std.proofs.Common.{All, ◌≡◌, ◌∙◌, ℕ, zero, suc, ◌+◌, ◌-◌, ◌<◌, ◌≤◌, Bool, true, false, cond, not, nat_le, List, [], ◌∷◌, ◌++◌, ap, sym, arith, drop, get_or, inl, inr, length, length-take, min, take, refl}
use Rattle.std.proofs.lemmas.Bool.{cases_lt}
use Rattle.std.proofs.lemmas.Bool.Decides.{nat_tests}
use Rattle.std.proofs.lemmas.List.{append-nil, drop_all, drop_more, map-id, take_all, take_at}
use Rattle.std.proofs.lemmas.List.Elements.{All-filter, filter-append, filter_passes}
use Rattle.std.proofs.lemmas.List.Filters.{length-filter_both}
use Rattle.std.proofs.lemmas.List.FromFn.{get_or-range_with_len, length-range_with_len, map-range_with_len_more}
use Rattle.std.specs.List.{filter, range_with_len}
use Rattle.tq_draw.specs.Calendar.{finer_units, first_days, is_first, unit_among, unit_of}
use Rattle.tq_draw.specs.declared.calendar.Unit.{Unit}
use Rattle.tq_draw.specs.declared.calendar.Unit.TheVariants.{Millennium}

-- the first days before this day
abbrev pub before : Unit → ℕ → ℕ → List ℕ
before unit first day = filter (is_first unit) (range_with_len first (day - first))

range_more : (a j : ℕ) → a ≤ j → range_with_len a (j + 1 - a) ≡ range_with_len a (j - a) ++ j ∷ []
range_more a j order =
    ap (range_with_len a) (let e : j + 1 - a ≡ (j - a) + 1 = omega arith in e)
    ∙ sym (map-id (range_with_len a ((j - a) + 1)))
    ∙ map-range_with_len_more (λ (n : ℕ). n) a (j - a) j (omega arith)
    ∙ ap (λ l. l ++ j ∷ []) (map-id (range_with_len a (j - a)))

-- one more day
pub before_more : (unit : Unit) (first day : ℕ) → first ≤ day
    → before unit first (day + 1) ≡ before unit first day ++ cond (is_first unit day) (day ∷ []) []
before_more unit first day order =
    ap (filter (is_first unit)) (range_more first day order) ∙ filter-append (is_first unit) (range_with_len first (day - first)) (day ∷ [])

-- more days, of which none begins a period
pub before_skips : (unit : Unit) (first day n : ℕ) → first ≤ day → ((other : ℕ) → day ≤ other → other < day + n → is_first unit other ≡ false)
    → before unit first (day + n) ≡ before unit first day
before_skips unit first day zero from none = ap (before unit first) (let e : day + 0 ≡ day = omega arith in e)
before_skips unit first day (suc n) from none =
    let last = none (day + n) (omega arith) (omega arith) in
    ap (before unit first) (let e : day + suc n ≡ day + n + 1 = omega arith in e)
    ∙ before_more unit first (day + n) (omega (arith, from))
    ∙ ap (λ b. before unit first (day + n) ++ cond b ((day + n) ∷ []) []) last
    ∙ append-nil (before unit first (day + n))
    ∙ before_skips unit first day n from (λ other low high. none other low (omega (arith, high)))

range_split : (a m n : ℕ) → range_with_len a (m + n) ≡ range_with_len a m ++ range_with_len (a + m) n
range_split a zero n = ap (range_with_len a) (let e : 0 + n ≡ n = omega arith in e) ∙ ap (λ k. range_with_len k n) (let e : a ≡ a + 0 = omega arith in e)
range_split a (suc m) n =
    ap (range_with_len a) (let e : suc m + n ≡ suc (m + n) = omega arith in e)
    ∙ ap (λ l. a ∷ l) (range_split (a + 1) m n)
    ∙ ap (λ k. a ∷ (range_with_len (a + 1) m ++ range_with_len k n)) (let e : a + 1 + m ≡ a + suc m = omega arith in e)

split : (unit : Unit) (first day end : ℕ) → first ≤ day → day ≤ end
    → filter (is_first unit) (range_with_len first (end - first)) ≡ before unit first day ++ filter (is_first unit) (range_with_len day (end - day))
split unit first day end from to =
    ap (λ n. filter (is_first unit) (range_with_len first n)) (let e : end - first ≡ (day - first) + (end - day) = omega arith in e)
    ∙ ap (filter (is_first unit)) (range_split first (day - first) (end - day))
    ∙ filter-append (is_first unit) (range_with_len first (day - first)) (range_with_len (first + (day - first)) (end - day))
    ∙ ap (λ k. before unit first day ++ filter (is_first unit) (range_with_len k (end - day))) (let e : first + (day - first) ≡ day = omega arith in e)

-- enough days were found
pub front_taken : (unit : Unit) (first last day most : ℕ) → first ≤ day → day ≤ min last 3652059 → length (before unit first day) ≡ most
    → before unit first day ≡ take most (first_days unit first last)
unfolding first_days
front_taken unit first last day most from to long =
    let rest = filter (is_first unit) (range_with_len day (min last 3652059 - day)) in
    sym (ap (take most) (split unit first day (min last 3652059) from to) ∙ take_at (before unit first day) rest most long)

-- all days were searched
pub whole_taken : (unit : Unit) (first last day most : ℕ) → first ≤ day → (first < day → day ≤ min last 3652059) → min last 3652059 ≤ day
    → length (before unit first day) ≤ most → before unit first day ≡ take most (first_days unit first last)
unfolding first_days
whole_taken unit first last day most from within end few =
    let same : day - first ≡ min last 3652059 - first =
    elim (cases_lt first day) [ inl later ↦ omega (arith, within later) | inr begun ↦ omega arith ] in
    sym (take_all most (before unit first day) few) ∙ ap (λ n. take most (filter (is_first unit) (range_with_len first n))) same

-- a day that is found lies in the scale
pub days_within : (unit : Unit) (first last : ℕ) → All (λ day. (first ≤ day) × (day < last)) (first_days unit first last)
unfolding first_days
days_within unit first last =
    let n = min last 3652059 - first in
    All-filter (is_first unit) (λ day. (first ≤ day) × (day < last)) (range_with_len first n)
    (λ k d less.
    let within : k < n = omega (arith, length-range_with_len first n, less) in
    rw (get_or-range_with_len first n k d within) (omega arith, omega (arith, within)))

-- it begins a period of the unit, and has a date
pub firsts : (unit : Unit) (first last : ℕ) → All (λ day. (is_first unit day ≡ true) × (day ≤ 3652058)) (first_days unit first last)
unfolding first_days
firsts unit first last k d less =
    let n = min last 3652059 - first in
    let range = range_with_len first n in
    let dated = All-filter (is_first unit) (λ day. day ≤ 3652058) range
    (λ i e below.
    let within : i < n = omega (arith, length-range_with_len first n, below) in
    rw (get_or-range_with_len first n i e within) (omega (arith, within))) in
    (filter_passes (is_first unit) range k d less, dated k d less)

few_days : (unit : Unit) (first last : ℕ) → length (first_days unit first last) ≤ 3652059
unfolding first_days
few_days unit first last =
    let days = range_with_len first (min last 3652059 - first) in
    let both = length-filter_both (is_first unit) (λ day. not (is_first unit day)) (λ day. refl) days in
    omega (arith, both, length-range_with_len first (min last 3652059 - first))

fits_from : (most n : ℕ) → n ≤ most → nat_le n most ≡ true
fits_from most n few = grind (arith, nat_tests)

wide_from : (most n : ℕ) → most < n → nat_le n most ≡ false
wide_from most n many = grind (arith, nat_tests)

-- the next unit has few enough first days
pub unit_fits : (units : List Unit) (d : Unit) (i most first last : ℕ) (days : List ℕ) → i < length units
    → days ≡ take (most + 1) (first_days (get_or units i d) first last) → length days ≤ most
    → days ≡ first_days (unit_among (drop i units) most first last) first last
unit_fits units d i most first last days within is few =
    let unit = get_or units i d in
    let whole = first_days unit first last in
    let short : length whole ≤ most = omega (arith, ap (λ (l : List ℕ). length l) is, length-take (most + 1) whole) in
    let chosen : unit_among (drop i units) most first last ≡ unit =
    ap (λ (l : List Unit). unit_among l most first last) (drop_more units i d within)
    ∙ ap (λ (b : Bool). cond b unit (unit_among (drop (i + 1) units) most first last)) (fits_from most (length whole) short) in
    is ∙ take_all (most + 1) whole (omega (arith, short)) ∙ ap (λ (u : Unit). first_days u first last) (sym chosen)

-- or too many
pub unit_is_fine : (units : List Unit) (d : Unit) (i most first last : ℕ) (days : List ℕ) → i < length units
    → days ≡ take (most + 1) (first_days (get_or units i d) first last) → most < length days
    → unit_among (drop (i + 1) units) most first last ≡ unit_among (drop i units) most first last
unit_is_fine units d i most first last days within is many =
    let unit = get_or units i d in
    let whole = first_days unit first last in
    let long : most < length whole = omega (arith, ap (λ (l : List ℕ). length l) is, length-take (most + 1) whole) in
    sym (ap (λ (l : List Unit). unit_among l most first last) (drop_more units i d within)
    ∙ ap (λ (b : Bool). cond b unit (unit_among (drop (i + 1) units) most first last)) (wide_from most (length whole) long))

-- no unit is left but the coarsest
pub coarsest : (i most first last : ℕ) → 6 ≤ i → unit_among (drop i finer_units) most first last ≡ Millennium
coarsest i most first last end = ap (λ (l : List Unit). unit_among l most first last) (drop_all i finer_units end)

pub all_days : (first last : ℕ) → take 3652059 (first_days Millennium first last) ≡ first_days Millennium first last
all_days first last = take_all 3652059 (first_days Millennium first last) (few_days Millennium first last)

pub unit_is : (most first last : ℕ) → unit_among finer_units most first last ≡ unit_of most first last
unfolding unit_of
unit_is most first last = refl
