-- The bytes of a bar mean what the law says.
use Rattle.std.proofs.Common.{◌≡◌, ◌≢◌, ◌∙◌, ℕ, ◌+◌, ◌<◌, ◌≤◌, Bool, true, false, cond, ◌&&◌, inl, inr, get_or, ap, sym, refl, nat_le, nat_lt, arith}
use Rattle.std.proofs.lemmas.Bool.{cases_lt}
use Rattle.std.proofs.lemmas.Bool.Decides.{nat_tests}
use Rattle.std.proofs.lemmas.List.FromFn.{get_or-map-range_with_len, length-map-range_with_len}
use Rattle.tq_base.specs.declared.period.Period.{Period}
use Rattle.tq_draw.specs.Bars.{bar_byte, bar_of, is_valid_in}
use Rattle.tq_draw.specs.Laws.{BarsMatchRows, InstantsAreDrawn, IsValidIn}
use Rattle.tq_draw.specs.Scales.{edge, IsScale}
use Rattle.tq_draw.specs.declared.scale.Scale.{Scale}
use Rattle.tq_draw.proofs.EdgeLemmas.{cells_tile, edge_grows}

byte_at : (scale : Scale) (period : Period) (cell : ℕ) → cell < scale.cells → get_or (bar_of scale period) cell 0 ≡ bar_byte scale period cell
byte_at scale period cell within = get_or-map-range_with_len (bar_byte scale period) 0 scale.cells cell cell 0 within (omega arith)

abbrev shade : Bool → ℕ
shade test = cond test 35 46

filled_is : (test : Bool) → shade test ≡ 35 → test ≡ true
filled_is true is = refl
filled_is false is = absurd (omega arith)

empty_is : (test : Bool) → shade test ≢ 35 → shade test ≡ 46
empty_is true other = absurd (other refl)
empty_is false other = refl

both : (a b c d : ℕ) → a < b → c < d → (nat_lt a b && nat_lt c d) ≡ true
both a b c d first second = grind (arith, nat_tests)

first_of_both : (a b c d : ℕ) → (nat_lt a b && nat_lt c d) ≡ true → a < b
first_of_both a b c d is = grind (arith, nat_tests)

second_of_both : (a b c d : ℕ) → (nat_lt a b && nat_lt c d) ≡ true → c < d
second_of_both a b c d is = grind (arith, nat_tests)

held : (start instant end : ℕ) → start ≤ instant → instant < end → (nat_le start instant && nat_lt instant end) ≡ true
held start instant end from before = grind (arith, nat_tests)

begun : (start instant end : ℕ) → (nat_le start instant && nat_lt instant end) ≡ true → start ≤ instant
begun start instant end is = grind (arith, nat_tests)

open_yet : (start instant end : ℕ) → (nat_le start instant && nat_lt instant end) ≡ true → instant < end
open_yet start instant end is = grind (arith, nat_tests)

-- if a period begins before a cell ends, and ends after it begins, they have the later of their first instants in
-- common
shared : (scale : Scale) → IsScale scale → (period : Period) (cell : ℕ) → period.start < edge scale (cell + 1) → edge scale cell < period.end
    → IsValidIn scale period cell
shared scale is period cell before after =
    let grows = edge_grows scale is cell in
    elim (cases_lt period.start (edge scale cell)) [
      | inl earlier ↦ (edge scale cell, (omega arith, grows), held period.start (edge scale cell) period.end (omega arith) after)
      | inr later ↦ (period.start, (later, before), held period.start period.start period.end (omega arith) period.ordered)
    ]

valid : (scale : Scale) → IsScale scale → (period : Period) (cell : ℕ) → bar_byte scale period cell ≡ 35 → IsValidIn scale period cell
valid scale is period cell filled =
    let tests = filled_is (is_valid_in scale period cell) filled in
    shared scale is period cell
    (first_of_both period.start (edge scale (cell + 1)) (edge scale cell) period.end tests)
    (second_of_both period.start (edge scale (cell + 1)) (edge scale cell) period.end tests)

filled : (scale : Scale) (period : Period) (cell : ℕ) → IsValidIn scale period cell → bar_byte scale period cell ≡ 35
filled scale period cell (instant, covers, holds_it) =
    let from = begun period.start instant period.end holds_it in
    let before = open_yet period.start instant period.end holds_it in
    ap shade
    (both period.start (edge scale (cell + 1)) (edge scale cell) period.end (omega (arith, from, covers.1)) (omega (arith, before, covers.0)))

pub bars_match_rows : BarsMatchRows
bars_match_rows scale period is = record {
  cells = length-map-range_with_len (bar_byte scale period) 0 scale.cells;
  filled = λ cell within. (
    (λ here. valid scale is period cell (sym (byte_at scale period cell within) ∙ here)),
    (λ here. byte_at scale period cell within ∙ filled scale period cell here),
  );
  empty = λ cell within other.
      let byte = byte_at scale period cell within in
      byte ∙ empty_is (is_valid_in scale period cell) (λ here. other (byte ∙ here));
}

pub instants_are_drawn : InstantsAreDrawn
instants_are_drawn scale period is (instant, from, before, valid) =
    let (cell, within, covers) = (cells_tile scale is).one instant from before in
    (cell, within, ((bars_match_rows scale period is).filled cell within).1 (instant, covers, valid))
