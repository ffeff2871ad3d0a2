-- The counts of overlapping and meeting rows do not depend on the order of the rows.
use Rattle.std.proofs.Common.{◌≡◌, ◌∙◌, ℕ, ◌+◌, Bool, true, false, true≢false, cond, not, ◌&&◌, ◌||◌, List, [], ◌∷◌, ap, refl, sym, arith}
use Rattle.std.specs.Prelude.{IsPermutation, ◌==◌}
use Rattle.std.specs.List.{list_any}
use Rattle.std.specs.Ordering.{eq_by_cmp}
use Rattle.std.proofs.lemmas.Bool.Decides.{nat_tests}
use Rattle.std.proofs.lemmas.List.Sorted.{list_any-IsPermutation}
use Rattle.tq_base.specs.declared.fragment.Fragment.{Fragment}
use Rattle.tq_base.specs.ValueOrder.{values_cmp, same_from_eq, eq_from_same}
use Rattle.tq_check.specs.EqualRows.{count_rows, covers, ends_at, is_meeting, is_overlapping, meeting, overlapping, starts_at}
use Rattle.tq_check.proofs.Permuting.{count_permuted, IsFair}

-- whether the row has the start and the values of the other
abbrev starts_with : Fragment → Fragment → Bool
starts_with x y = starts_at x.values x.period.start y

-- if it has, tests of the values and the start give the same result
same_place : (x y : Fragment) → starts_with x y ≡ true → (x.values ≡ y.values) × (y.period.start ≡ x.period.start)
same_place x y is = both (eq_by_cmp values_cmp x.values y.values) refl is
  where
    both : (b : Bool) → eq_by_cmp values_cmp x.values y.values ≡ b → (b && (y.period.start == x.period.start)) ≡ true → (x.values ≡ y.values) × (y.period.start ≡ x.period.start)
    both true here told = (same_from_eq x.values y.values here, grind (arith, nat_tests, told))
    both false here told = absurd (true≢false (sym told))

turned : (x y : Fragment) → starts_with x y ≡ true → starts_with y x ≡ true
turned x y is =
    let place = same_place x y is in
    let values : eq_by_cmp values_cmp y.values x.values ≡ true = eq_from_same y.values x.values (sym place.0) in
    let start : (x.period.start == y.period.start) ≡ true = grind (arith, nat_tests, place.1) in
    λ i. values i && start i

-- 1 if the test is true
abbrev one_if : Bool → ℕ
one_if b = cond b 1 0

-- a row that starts with an equal one overlaps it, and both overlap the same other rows
abbrev either_of : (List Fragment → Fragment → Bool) → List Fragment → Fragment → Fragment → Type 0
either_of test above x y = cond (test above x) 1 0 + cond (test (x ∷ above) y) 1 0 ≡ cond (test above y) 1 0 + cond (test (y ∷ above) x) 1 0

module _ (rows : List Fragment) where
  overlaps_place : (above : List Fragment) (x y : Fragment) → starts_with x y ≡ true → is_overlapping rows above x ≡ is_overlapping rows above y
  overlaps_place above x y is =
      let place = same_place x y is in
      λ i. list_any (covers (place.0 i) (sym place.1 i)) rows || list_any (starts_at (place.0 i) (sym place.1 i)) above

  meets_place : (above : List Fragment) (x y : Fragment) → starts_with x y ≡ true → is_meeting rows above x ≡ is_meeting rows above y
  meets_place above x y is =
      let place = same_place x y is in
      λ i. not (overlaps_place above x y is i) && list_any (ends_at (place.0 i) (sym place.1 i)) rows

  -- a row overlaps below a row that it starts with; below another row, nothing changes
  below_equal : (above : List Fragment) (x y : Fragment) → starts_with y x ≡ true → is_overlapping rows (x ∷ above) y ≡ true
  below_equal above x y is =
      ap (λ b. list_any (covers y.values y.period.start) rows || (b || list_any (starts_at y.values y.period.start) above)) is
      ∙ or_true (list_any (covers y.values y.period.start) rows)
    where
      or_true : (b : Bool) → (b || true) ≡ true
      or_true true = refl
      or_true false = refl

  below_other : (above : List Fragment) (x y : Fragment) → starts_with y x ≡ false → is_overlapping rows (x ∷ above) y ≡ is_overlapping rows above y
  below_other above x y is =
      ap (λ b. list_any (covers y.values y.period.start) rows || (b || list_any (starts_at y.values y.period.start) above)) is

  overlapping_either : (above : List Fragment) (x y : Fragment) → either_of (is_overlapping rows) above x y
  overlapping_either above x y = by (starts_with x y) refl (starts_with y x) refl
    where
      by : (b : Bool) → starts_with x y ≡ b → (c : Bool) → starts_with y x ≡ c → either_of (is_overlapping rows) above x y
      by true here true there =
          let one = ap one_if (below_equal above x y there) in
          let two = ap one_if (below_equal above y x here) in
          let same = ap one_if (overlaps_place above x y here) in
          omega (arith, one, two, same)
      by false here false there =
          let one = ap one_if (below_other above x y there) in
          let two = ap one_if (below_other above y x here) in
          omega (arith, one, two)
      by true here false there = let back = turned x y here in cc
      by false here true there = let back = turned y x there in cc

  meeting_either : (above : List Fragment) (x y : Fragment) → either_of (is_meeting rows) above x y
  meeting_either above x y = by (starts_with x y) refl (starts_with y x) refl
    where
      ends : Fragment → Bool
      ends z = list_any (ends_at z.values z.period.start) rows

      by : (b : Bool) → starts_with x y ≡ b → (c : Bool) → starts_with y x ≡ c → either_of (is_meeting rows) above x y
      by true here true there =
          let one = ap (λ b. one_if (not b && ends y)) (below_equal above x y there) in
          let two = ap (λ b. one_if (not b && ends x)) (below_equal above y x here) in
          let same = ap one_if (meets_place above x y here) in
          omega (arith, one, two, same)
      by false here false there =
          let one = ap (λ b. one_if (not b && ends y)) (below_other above x y there) in
          let two = ap (λ b. one_if (not b && ends x)) (below_other above y x here) in
          omega (arith, one, two)
      by true here false there = let back = turned x y here in cc
      by false here true there = let back = turned y x there in cc

  pub overlapping_fair : IsFair (is_overlapping rows)
  overlapping_fair = record {
    alike = λ xs ys x same i. list_any (covers x.values x.period.start) rows || same (starts_at x.values x.period.start) i;
    either = overlapping_either;
  }

  pub meeting_fair : IsFair (is_meeting rows)
  meeting_fair = record {
    alike = λ xs ys x same i. not (list_any (covers x.values x.period.start) rows || same (starts_at x.values x.period.start) i) && list_any (ends_at x.values x.period.start) rows;
    either = meeting_either;
  }

-- the same number of rows overlap in any order
pub overlapping_permuted : (rows order : List Fragment) → IsPermutation rows order → overlapping order ≡ overlapping rows
overlapping_permuted rows order same =
    let passed : (p : Fragment → Bool) → list_any p order ≡ list_any p rows = λ p. sym (list_any-IsPermutation p rows order same) in
    (λ i. count_rows (λ above row. passed (covers row.values row.period.start) i || list_any (starts_at row.values row.period.start) above) [] order)
    ∙ count_permuted (is_overlapping rows) (overlapping_fair rows) rows order same

-- and the same number meet
pub meeting_permuted : (rows order : List Fragment) → IsPermutation rows order → meeting order ≡ meeting rows
meeting_permuted rows order same =
    let passed : (p : Fragment → Bool) → list_any p order ≡ list_any p rows = λ p. sym (list_any-IsPermutation p rows order same) in
    (λ i. count_rows (λ above row. not (passed (covers row.values row.period.start) i || list_any (starts_at row.values row.period.start) above) && passed (ends_at row.values row.period.start) i) [] order)
    ∙ count_permuted (is_meeting rows) (meeting_fair rows) rows order same
