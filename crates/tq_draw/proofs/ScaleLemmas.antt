-- The least and the greatest of the bounds of some rows.
use Rattle.std.proofs.Common.{◌≡◌, ℕ, zero, suc, ◌+◌, ◌-◌, ◌<◌, ◌≤◌, true, ◌&&◌, nat_le, nat_lt, inl, inr, ◌⊎◌, List, [], ◌∷◌, length, get_or, arith, refl, Some, None}
use Rattle.std.proofs.Math.Nat.{le-max_left, le-max_right, le_trans, min-le_left, min-le_right}
use Rattle.std.proofs.lemmas.Bool.{cases_lt}
use Rattle.std.proofs.lemmas.Bool.Decides.{eqb_tells, nat_tests}
use Rattle.std.proofs.lemmas.List.Elements.{filter_passes}
use Rattle.std.specs.List.{fold}
use Rattle.tq_base.specs.declared.form.Form.{Form}
use Rattle.tq_base.specs.declared.form.Form.TheVariants.{Dates, Numbers}
use Rattle.tq_base.specs.declared.fragment.Fragment.{Fragment}
use Rattle.tq_base.specs.declared.period.Period.{Period}
use Rattle.tq_base.specs.declared.period.TheConstants.{FOREVER}
use Rattle.tq_draw.specs.Laws.{HasInstant, IsCovered, ScalesCoverRows, WindowsAreScales}
use Rattle.tq_draw.specs.Scales.{drawn_end, drawn_start, earlier, first_of, greatest_end, counts_in_scale, is_in_window, later, least_start, scale_of, shown_rows}
use Rattle.tq_draw.specs.declared.scale.Scale.{Scale}

abbrev lesser : Form → ℕ → Fragment → ℕ
lesser form least row = earlier form least row.period

abbrev greater : Form → ℕ → Fragment → ℕ
greater form greatest row = later form greatest row.period

earlier_below : (form : Form) (least : ℕ) (period : Period) → earlier form least period ≤ least
earlier_below form least period = grind (arith, min-le_left)

later_above : (form : Form) (greatest : ℕ) (period : Period) → greatest ≤ later form greatest period
later_above form greatest period = grind (arith, le-max_left)

earlier_at : (form : Form) (least : ℕ) (period : Period) → counts_in_scale form period ≡ true → earlier form least period ≤ drawn_start form period
earlier_at form least period counted = rw counted (min-le_right least (drawn_start form period))

later_at : (form : Form) (greatest : ℕ) (period : Period) → counts_in_scale form period ≡ true → drawn_end period ≤ later form greatest period
later_at form greatest period counted = rw counted (le-max_right greatest (drawn_end period))

least_below : (form : Form) (least : ℕ) (rows : List Fragment) → fold (lesser form) least rows ≤ least
least_below form least [] = omega arith
least_below form least (row ∷ rows) = le_trans (least_below form (lesser form least row) rows) (earlier_below form least row.period)

least_at : (form : Form) (least : ℕ) (rows : List Fragment) (place : ℕ) (d : Fragment) → place < length rows
    → counts_in_scale form (get_or rows place d).period ≡ true → fold (lesser form) least rows ≤ drawn_start form (get_or rows place d).period
least_at form least [] place d within counted = absurd (omega arith)
least_at form least (row ∷ rows) zero d within counted = le_trans (least_below form (lesser form least row) rows) (earlier_at form least row.period counted)
least_at form least (row ∷ rows) (suc place) d within counted = least_at form (lesser form least row) rows place d (omega arith) counted

greatest_above : (form : Form) (greatest : ℕ) (rows : List Fragment) → greatest ≤ fold (greater form) greatest rows
greatest_above form greatest [] = omega arith
greatest_above form greatest (row ∷ rows) =
    le_trans (later_above form greatest row.period) (greatest_above form (greater form greatest row) rows)

greatest_at : (form : Form) (greatest : ℕ) (rows : List Fragment) (place : ℕ) (d : Fragment) → place < length rows
    → counts_in_scale form (get_or rows place d).period ≡ true → drawn_end (get_or rows place d).period ≤ fold (greater form) greatest rows
greatest_at form greatest [] place d within counted = absurd (omega arith)
greatest_at form greatest (row ∷ rows) zero d within counted =
    le_trans (later_at form greatest row.period counted) (greatest_above form (greater form greatest row) rows)
greatest_at form greatest (row ∷ rows) (suc place) d within counted = greatest_at form (greater form greatest row) rows place d (omega arith) counted

-- a drawn end is after the start, and shows the end unless there is none
ends : (period : Period) (last : ℕ) → drawn_end period ≤ last → (period.start < last) × ((period.end ≤ last) ⊎ (period.end ≡ FOREVER))
ends period last below =
    elim (eqb_tells period.end FOREVER) [
      | inl same ↦ let after : period.start + 1 ≤ last = rw same.0 at below in (omega arith, inr same.1)
      | inr other ↦ let after : period.end ≤ last = rw other.0 at below in (omega (arith, after, period.ordered), inl after)
    ]

held : (start instant end : ℕ) → start ≤ instant → instant < end → (nat_le start instant && nat_lt instant end) ≡ true
held start instant end from before = grind (arith, nat_tests)

-- a period that does not begin before the scale, and whose drawn part does not end after it
covered : (form : Form) (scale : Scale) (period : Period) → scale.first ≤ period.start → drawn_end period ≤ scale.last → IsCovered form scale period
covered form scale period from below =
    let end = ends period scale.last below in
    record {
      shown = (period.start, from, end.0, held period.start period.start period.end (omega arith) period.ordered);
      start = inl from;
      end = end.1;
    }

-- a period from instant 0, in dates, with an end
covered_at_end : (scale : Scale) (period : Period) → period.start ≡ 0 → scale.first ≤ period.end - 1 → period.end ≤ scale.last
    → IsCovered Dates scale period
covered_at_end scale period zero_start from below =
    let some = period.ordered in
    record {
      shown = (period.end - 1, from, omega (arith, some), held period.start (period.end - 1) period.end (omega (arith, some)) (omega (arith, some)));
      start = inr (refl, zero_start);
      end = inl below;
    }

-- a period from instant 0, in dates, without an end
covered_always : (scale : Scale) (period : Period) → scale.first < scale.last → scale.first < FOREVER → period.start ≡ 0 → period.end ≡ FOREVER
    → IsCovered Dates scale period
covered_always scale period some before zero_start no_end =
    record {
      shown = (scale.first, omega arith, some, held period.start scale.first period.end (omega arith) (omega arith));
      start = inr (refl, zero_start);
      end = inr no_end;
    }

abbrev Counts : Form → Scale → Period → Type 0
Counts form scale period = counts_in_scale form period ≡ true → (scale.first ≤ drawn_start form period) × (drawn_end period ≤ scale.last)

covered_if_counted : (form : Form) (scale : Scale) (period : Period) → scale.first < scale.last → scale.first < FOREVER → Counts form scale period
    → IsCovered form scale period
covered_if_counted Numbers scale period some before counted = let (from, below) = counted refl in covered Numbers scale period from below
covered_if_counted Dates scale period some before counted =
    elim (eqb_tells period.start 0) [
      | inl first ↦ elim (eqb_tells period.end FOREVER) [
        | inl no_end ↦ covered_always scale period some before first.1 no_end.1
        | inr end ↦
            let bounds = counted (rw (first.0, end.0)) in
            covered_at_end scale period first.1 (rw first.0 at bounds.0) (rw end.0 at bounds.1)
      ]
      | inr after ↦
          let bounds = counted (rw after.0) in
          covered Dates scale period (rw after.0 at bounds.0) bounds.1
    ]

first_below : (form : Form) (rows : List Fragment) → (first_of form rows ≤ least_start form rows) × (first_of form rows < FOREVER)
first_below form rows =
    let below = least_below form FOREVER rows in
    elim (eqb_tells (least_start form rows) FOREVER) [
      | inl same ↦ rw same.0 (omega arith, omega arith)
      | inr other ↦ rw other.0 (omega arith, omega (arith, below, other.1))
    ]

pub scales_cover_rows : ScalesCoverRows
scales_cover_rows form room rows bounded place d within =
    let first = first_below form rows in
    let period = (get_or rows place d).period in
    let scale = scale_of form room None rows in
    covered_if_counted form scale period
    (let after = le-max_right (greatest_end form rows) (first_of form rows + 1) in omega arith)
    first.1
    (λ counted. (
      le_trans first.0 (least_at form FOREVER rows place d within counted),
      le_trans (greatest_at form 0 rows place d within counted) (le-max_left (greatest_end form rows) (first_of form rows + 1)),
    ))

first_of_both : (a b c d : ℕ) → (nat_lt a b && nat_lt c d) ≡ true → a < b
first_of_both a b c d is = grind (arith, nat_tests)

second_of_both : (a b c d : ℕ) → (nat_lt a b && nat_lt c d) ≡ true → c < d
second_of_both a b c d is = grind (arith, nat_tests)

-- a window and a period in it have the later of their first instants in common
common : (scale : Scale) (period : Period) → scale.first < scale.last → period.start < scale.last → scale.first < period.end → HasInstant scale period
common scale period some before after =
    elim (cases_lt period.start scale.first) [
      | inl earlier ↦ (scale.first, omega arith, some, held period.start scale.first period.end (omega arith) after)
      | inr later ↦ (period.start, later, before, held period.start period.start period.end (omega arith) period.ordered)
    ]

pub windows_are_scales : WindowsAreScales
windows_are_scales form room window rows =
    let shown = shown_rows (Some window) rows in
    let scale = scale_of form room (Some window) shown in
    record {
      first = refl;
      last = refl;
      rows = λ place d within.
          let period = (get_or shown place d).period in
          let passes = filter_passes (λ (row : Fragment). is_in_window (Some window) row.period) rows place d within in
          common scale period window.ordered
          (first_of_both period.start window.end window.start period.end passes)
          (second_of_both period.start window.end window.start period.end passes);
    }
