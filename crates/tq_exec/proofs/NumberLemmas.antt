-- Numbers of 64 signed bits: those of rows that fit their tables, and what is made of them.
use Rattle.std.proofs.Common.{◌≡◌, ℕ, zero, suc, ◌<◌, Bool, true, false, cond, List, [], ◌∷◌, ◌++◌, map, length, get_or, Option, Some, None, refl, sym, ap, subst, arith}
use Rattle.std.specs.Prelude.{All, FitsSigned, IsSomeAnd, pos, filter, slice_get}
use Rattle.std.specs.Int.{w64}
use Rattle.std.proofs.lemmas.Bool.Decides.{nat_tests}
use Rattle.std.proofs.lemmas.Int.{fits_signed_from_abs}
use Rattle.std.proofs.lemmas.List.Concat.{flat_map-cons}
use Rattle.std.proofs.lemmas.List.Elements.{All-append, All-cons, All-filter, All-tail, All-weaker}
use Rattle.std.proofs.lemmas.List.Sums.{sum_by-cons}
use Rattle.tq_base.specs.declared.catalogue.Catalogue.{Catalogue}
use Rattle.tq_base.specs.declared.catalogue.Column.{Column}
use Rattle.tq_base.specs.declared.catalogue.Kind.{Kind}
use Rattle.tq_base.specs.declared.catalogue.Kind.TheVariants as kind
use Rattle.tq_base.specs.declared.catalogue.Schema.{Schema}
use Rattle.tq_base.specs.declared.value.Value.{Value}
use Rattle.tq_base.specs.declared.fragment.Fragment.{Fragment}
use Rattle.tq_base.specs.declared.period.Period.{Period}
use Rattle.tq_base.specs.Catalogues.{Fit, IsOfKind}
use Rattle.tq_base.specs.Contents.{Int, Text}
use Rattle.tq_base.specs.Fragments.{at, occurrences}
use Rattle.tq_base.specs.Periods.{holds}
use Rattle.tq_base.specs.ValueOrder.{eq_from_same}
use Rattle.tq_event.specs.Recorded.{HasTable}
use Rattle.tq_condition.specs.declared.condition.Test.{Test}
use Rattle.tq_base.specs.RowValues.{number_of, value_at}
use Rattle.tq_condition.specs.Ordinary.{HasInside, IsEmptyOutside, admits, product, product_of, selection}
use Rattle.tq_agg.specs.Grouping.{AreSummable, Row}
use Rattle.tq_exec.specs.OutputPlaces.{AreNumbers}
use Rattle.tq_exec.specs.Fitting.{AreFitting}
use Rattle.tq_exec.specs.Answers.{lists_at, ValidRows}
use Rattle.tq_exec.proofs.BagLemmas.{is_it, one_if, split}

abbrev pub IsNumber : Value → Type 0
IsNumber value = FitsSigned w64 (number_of value)

-- the numbers of all rows that are valid at some instant
abbrev pub AreValidNumbers : ValidRows → Type 0
AreValidNumbers valid = (table t : ℕ) → All AreNumbers (valid table t)

-- what holds of the first, and of the others
pub first_of : {X : Type 0} (P : X → Type 0) (x : X) (xs : List X) → All P (x ∷ xs) → P x
first_of P x xs all = all 0 x (omega arith)

pub others_of : {X : Type 0} (P : X → Type 0) (x : X) (xs : List X) → All P (x ∷ xs) → All P xs
others_of P x xs all = All-tail P x xs all

-- of a row that stands in a list
pub one_of : (P : Row → Type 0) (rows : List Row) (v : Row) → 0 < occurrences rows v → All P rows → P v
one_of P rows v some all =
    let s = split rows v some in
    middle s.before s.after (subst (All P) s.is all)
  where
    middle : (before after : List Row) → All P (before ++ v ∷ after) → P v
    middle [] after all = first_of P v after all
    middle (row ∷ before) after all = middle before after (others_of P row (before ++ v ∷ after) all)

pub none_of : {X : Type 0} (P : X → Type 0) → All P []
none_of P k d less = absurd (omega (arith, less))

-- ---- rows that fit their tables

pub zero_fits : FitsSigned w64 (pos 0)
zero_fits = fits_signed_from_abs w64 (pos 0) (omega arith)

of_kind : (k : Kind) (value : Value) → IsOfKind k value → IsNumber value
of_kind kind.Int (Int n) is = is
of_kind kind.Int (Text t) is = absurd is
of_kind kind.Text (Int n) is = absurd is
of_kind kind.Text (Text t) is = zero_fits

fitting : (columns : List Column) (values : List Value) → Fit columns values → AreNumbers values
fitting [] [] fit = none_of IsNumber
fitting [] (v ∷ vs) fit = absurd fit
fitting (c ∷ cs) [] fit = absurd fit
fitting (c ∷ cs) (v ∷ vs) fit = All-cons IsNumber v vs (of_kind c.kind v fit.0) (fitting cs vs fit.1)

in_table : (schema : Option Schema) (values : List Value) → IsSomeAnd schema (λ (s : Schema). Fit s.columns values) → AreNumbers values
in_table None values is = absurd is
in_table (Some s) values is = fitting s.columns values is

-- the numbers of valid rows that fit their tables
pub numbers_fit : (catalogue : Catalogue) (valid : ValidRows) → AreFitting catalogue valid → AreValidNumbers valid
numbers_fit catalogue valid fit table t =
    All-weaker (HasTable catalogue table) AreNumbers (λ values has. in_table (slice_get catalogue.tables table) values has) (valid table t) (fit table t)

-- ---- rows of the sources' product

pairs_have : (row : Row) (right : List Row) → AreNumbers row → All AreNumbers right → All AreNumbers (map (λ r. row ++ r) right)
pairs_have row [] is all = none_of AreNumbers
pairs_have row (r ∷ right) is all =
    All-cons AreNumbers (row ++ r) (map (λ r. row ++ r) right) (All-append IsNumber row r is (first_of AreNumbers r right all)) (pairs_have row right is (others_of AreNumbers r right all))

product_has : (left right : List Row) → All AreNumbers left → All AreNumbers right → All AreNumbers (product left right)
product_has [] right on_left on_right = none_of AreNumbers
product_has (row ∷ left) right on_left on_right =
    subst (All AreNumbers) (sym (flat_map-cons (λ l. map (λ r. l ++ r) right) row left))
    (All-append AreNumbers (map (λ r. row ++ r) right) (product left right) (pairs_have row right (first_of AreNumbers row left on_left) on_right)
    (product_has left right (others_of AreNumbers row left on_left) on_right))

products_have : (valid : ValidRows) (t : ℕ) (numbers : List ℕ) → AreValidNumbers valid → All AreNumbers (product_of (lists_at valid t numbers))
products_have valid t [] all = All-cons AreNumbers [] [] (none_of IsNumber) (none_of AreNumbers)
products_have valid t (table ∷ []) all = all table t
products_have valid t (table ∷ next ∷ numbers) all =
    product_has (valid table t) (product_of (lists_at valid t (next ∷ numbers))) (all table t) (products_have valid t (next ∷ numbers) all)

-- ---- fragments

in_both : (rows found : List Row) (v : Row) → occurrences found v ≡ occurrences rows v → 0 < occurrences found v → All AreNumbers rows → AreNumbers v
in_both rows found v same some all = one_of AreNumbers rows v (omega (arith, same, some)) all

-- a row of a list stands in it
pub stands_at : (rows : List Row) (k : ℕ) (d : Row) → k < length rows → 0 < occurrences rows (get_or rows k d)
stands_at [] k d less = absurd (omega (arith, less))
stands_at (row ∷ rows) zero d less = omega (arith, sum_by-cons (is_it row) row rows, ap one_if (eq_from_same row row refl))
stands_at (row ∷ rows) (suc k) d less = omega (arith, stands_at rows k d (omega (arith, less)), sum_by-cons (is_it (get_or rows k d)) row rows)

starts_inside : (f : Fragment) → holds f.period f.period.start ≡ true
starts_inside f = let ordered : f.period.start < f.period.end = f.period.ordered in grind (arith, nat_tests)

-- a fragment's values stand among those valid at its start
pub stands : (out : List Fragment) (k : ℕ) (d : Fragment) → k < length out → 0 < occurrences (at out (get_or out k d).period.start) (get_or out k d).values
stands [] k d less = absurd (omega (arith, less))
stands (f ∷ out) zero d less = by_start (holds f.period f.period.start) (starts_inside f)
  where
    by_start : (b : Bool) → b ≡ true → 0 < occurrences (map (λ (g : Fragment). g.values) (cond b (f ∷ filter (λ (g : Fragment). holds g.period f.period.start) out) (filter (λ (g : Fragment). holds g.period f.period.start) out))) f.values
    by_start true is = omega (arith, sum_by-cons (is_it f.values) f.values (at out f.period.start), ap one_if (eq_from_same f.values f.values refl))
    by_start false is = cc
stands (f ∷ out) (suc k) d less = by_first (holds f.period (get_or out k d).period.start) (stands out k d (omega (arith, less)))
  where
    t : ℕ
    t = (get_or out k d).period.start

    by_first : (b : Bool) → 0 < occurrences (at out t) (get_or out k d).values
        → 0 < occurrences (map (λ (g : Fragment). g.values) (cond b (f ∷ filter (λ (g : Fragment). holds g.period t) out) (filter (λ (g : Fragment). holds g.period t) out))) (get_or out k d).values
    by_first true some = omega (arith, some, sum_by-cons (is_it (get_or out k d).values) f.values (at out t))
    by_first false some = some

-- what holds of all rows valid at some instant holds of each fragment
fragments_have : (out : List Fragment) (rows : ℕ → List Row) → ((t : ℕ) (v : Row) → occurrences (at out t) v ≡ occurrences (rows t) v) → ((t : ℕ) → All AreNumbers (rows t))
    → All (λ (f : Fragment). AreNumbers f.values) out
fragments_have out rows same all k d less =
    let f : Fragment = get_or out k d in
    in_both (rows f.period.start) (at out f.period.start) f.values (same f.period.start f.values) (stands out k d less) (all f.period.start)

pub number_at : (row : Row) (place : ℕ) → AreNumbers row → IsNumber (value_at row place)
number_at [] place all = zero_fits
number_at (value ∷ row) zero all = first_of IsNumber value row all
number_at (value ∷ row) (suc place) all = number_at row place (others_of IsNumber value row all)

summable : (places : List ℕ) (row : Row) → AreNumbers row → AreSummable places row
summable [] row all = none_of (λ place. IsNumber (value_at row place))
summable (place ∷ places) row all = All-cons (λ p. IsNumber (value_at row p)) place places (number_at row place all) (summable places row all)

pub fragments_sum : (places : List ℕ) (out : List Fragment) → All (λ (f : Fragment). AreNumbers f.values) out → All (λ (f : Fragment). AreSummable places f.values) out
fragments_sum places out = All-weaker (λ (f : Fragment). AreNumbers f.values) (λ (f : Fragment). AreSummable places f.values) (λ f is. summable places f.values is) out

passing_have : (valid : ValidRows) (t : ℕ) (numbers : List ℕ) (test : Option Test) → AreValidNumbers valid → All AreNumbers (selection test (product_of (lists_at valid t numbers)))
passing_have valid t numbers test all = All-filter (admits test) AreNumbers (product_of (lists_at valid t numbers)) (products_have valid t numbers all)

-- the values of the rows that pass in a window are numbers of 64 bits, or texts
pub passing_numbers : (valid : ValidRows) (window : Period) (numbers : List ℕ) (test : Option Test) (out : List Fragment)
    → HasInside window out (λ t v. occurrences (selection test (product_of (lists_at valid t numbers))) v) → IsEmptyOutside window out
    → AreValidNumbers valid → All (λ (f : Fragment). AreNumbers f.values) out
passing_numbers valid window numbers test out inside outside all =
    fragments_have out (λ t. within (holds window t) t) (λ t v. same t v (holds window t) refl) (λ t. have t (holds window t))
  where
    within : Bool → ℕ → List Row
    within b t = cond b (selection test (product_of (lists_at valid t numbers))) []

    same : (t : ℕ) (v : Row) (b : Bool) → holds window t ≡ b → occurrences (at out t) v ≡ occurrences (within b t) v
    same t v true is = inside t v is
    same t v false is = ap (λ l. occurrences l v) (outside t is)

    have : (t : ℕ) (b : Bool) → All AreNumbers (within b t)
    have t true = passing_have valid t numbers test all
    have t false = none_of AreNumbers

-- and can be summed
pub passing_sums : (valid : ValidRows) (window : Period) (numbers : List ℕ) (test : Option Test) (places : List ℕ) (out : List Fragment)
    → HasInside window out (λ t v. occurrences (selection test (product_of (lists_at valid t numbers))) v) → IsEmptyOutside window out
    → AreValidNumbers valid → All (λ (f : Fragment). AreSummable places f.values) out
passing_sums valid window numbers test places out inside outside all =
    fragments_sum places out (passing_numbers valid window numbers test out inside outside all)
