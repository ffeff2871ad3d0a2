-- The starts of the cells of a scale.
use Rattle.std.proofs.Common.{◌≡◌, ◌∙◌, ℕ, zero, suc, ◌+◌, ◌-◌, ◌*◌, ◌/◌, ◌<◌, ◌≤◌, inl, inr, ap, arith, add-one}
use Rattle.std.proofs.Math.Nat.{div-mul-le_self, le_trans, mul-div_cancel_left, mul-le-mul_right, zero-div, zero-mul}
use Rattle.std.proofs.lemmas.Bool.{cases_lt}
use Rattle.std.proofs.lemmas.Nat.{le-div}
use Rattle.tq_draw.specs.Laws.{CellsTile, Covers}
use Rattle.tq_draw.specs.Scales.{edge, IsScale}
use Rattle.tq_draw.specs.declared.scale.Scale.{Scale}

-- a later part does not begin earlier
pub share_rises : (i j span cells : ℕ) → 0 < cells → i ≤ j → i * span / cells ≤ j * span / cells
share_rises i j span cells some order =
    le-div (i * span / cells) (j * span) cells some (le_trans (div-mul-le_self (i * span) cells) (mul-le-mul_right span order))

-- and no part is empty
share_grows : (i span cells : ℕ) → 0 < cells → cells ≤ span → i * span / cells < (i + 1) * span / cells
share_grows i span cells some enough =
    let share = i * span / cells in
    let below : share * cells ≤ i * span = div-mul-le_self (i * span) cells in
    let more : (share + 1) * cells ≤ (i + 1) * span = omega arith in
    let next : share + 1 ≤ (i + 1) * span / cells = le-div (share + 1) ((i + 1) * span) cells some more in
    omega arith

pub edge_first : (scale : Scale) → edge scale 0 ≡ scale.first
edge_first scale =
    ap (λ n. scale.first + n / scale.cells) (zero-mul (scale.last - scale.first))
    ∙ ap (λ n. scale.first + n) (zero-div scale.cells) ∙ omega arith

pub edge_last : (scale : Scale) → IsScale scale → edge scale scale.cells ≡ scale.last
edge_last scale is =
    let span = scale.last - scale.first in
    let whole : scale.cells * span / scale.cells ≡ span = mul-div_cancel_left span is.some in
    omega (arith, is.ordered)

pub edge_rises : (scale : Scale) → IsScale scale → (cell other : ℕ) → cell ≤ other → edge scale cell ≤ edge scale other
edge_rises scale is cell other order =
    let shares = share_rises cell other (scale.last - scale.first) scale.cells is.some order in
    omega (arith, shares)

pub edge_grows : (scale : Scale) → IsScale scale → (cell : ℕ) → edge scale cell < edge scale (cell + 1)
edge_grows scale is cell =
    let shares = share_grows cell (scale.last - scale.first) scale.cells is.some is.no_more in
    omega (arith, shares)

-- an instant before the start of a cell is in a cell before it
find_cell : (scale : Scale) (instant : ℕ) → scale.first ≤ instant → (n : ℕ) → instant < edge scale n
    → (cell : ℕ) × (cell < n) × Covers scale cell instant
find_cell scale instant from zero before = absurd (omega (arith, edge_first scale))
find_cell scale instant from (suc n) before =
    elim (cases_lt instant (edge scale n)) [
      | inl earlier ↦ let found = find_cell scale instant from n earlier in (found.0, omega (arith, found.1), found.2)
      | inr here ↦ (n, omega arith, (here, rw add-one before))
    ]

-- cells that cover the same instant are the same
same_cell : (scale : Scale) → IsScale scale → (cell other instant : ℕ) → Covers scale cell instant → Covers scale other instant → cell ≤ other
same_cell scale is cell other instant one two =
    elim (cases_lt other cell) [
      | inl later ↦ absurd (omega (arith, one.0, two.1, edge_rises scale is (other + 1) cell (omega arith)))
      | inr order ↦ order
    ]

pub cells_tile : CellsTile
cells_tile scale is = record {
  first = edge_first scale;
  last = edge_last scale is;
  some = λ cell _. edge_grows scale is cell;
  one = λ instant from before.
      let before_end : instant < edge scale scale.cells = omega (arith, edge_last scale is) in
      find_cell scale instant from scale.cells before_end;
  no_other = λ cell other instant _ _ one two.
      let order = same_cell scale is cell other instant one two in
      let back = same_cell scale is other cell instant two one in
      omega (arith, order, back);
}
