-- The texts of pieces, one after the other, are those of all rows.
use Rattle.std.proofs.Common.{◌≡◌, ◌∙◌, ℕ, suc, ◌+◌, ◌/◌, ◌<◌, ◌≤◌, List, [], ◌∷◌, ◌++◌, Bool, true, false, ap, append-nil, append_assoc, arith, cond, get_or, length, refl, sym}
use Rattle.std.specs.Global.{Vec}
use Rattle.std.specs.List.{flat_map, range_with_len}
use Rattle.std.specs.Prelude.{nat_le}
use Rattle.std.proofs.Math.Nat.{mul-div_cancel_left, zero-div, zero-mul}
use Rattle.std.proofs.lemmas.List.Concat.{flat_map-cons}
use Rattle.std.proofs.lemmas.List.Folds.{flat_map-map}
use Rattle.std.proofs.lemmas.List.FromFn.{fill_by_all}
use Rattle.tq_base.specs.Keys.{no_row}
use Rattle.tq_base.specs.Relations.{row_at}
use Rattle.tq_base.specs.declared.fragment.Fragment.{Fragment}
use Rattle.tq_run.specs.Results.{IsResultList}
use Rattle.tq_draw.specs.Pieces.{IsPiece, piece_start, pieces_of, texts_of}
use Rattle.tq_draw.proofs.EdgeLemmas.{share_rises}

pub some_pieces : (len : ℕ) → 0 < pieces_of len
some_pieces len = by (nat_le len 8192)
  where
    by : (few : Bool) → 0 < (cond few 1 64)
    by true = omega arith
    by false = omega arith

pub starts_rise : (len i j : ℕ) → i ≤ j → piece_start len i ≤ piece_start len j
starts_rise len i j order = share_rises i j len (pieces_of len) (some_pieces len) order

pub first_start : (len : ℕ) → piece_start len 0 ≡ 0
first_start len = ap (λ n. n / pieces_of len) (zero-mul len) ∙ zero-div (pieces_of len)

pub last_start : (len : ℕ) → piece_start len (pieces_of len) ≡ len
last_start len = mul-div_cancel_left len (some_pieces len)

module _ (line : ℕ → List ℕ) (len : ℕ) where
  abbrev up_to : ℕ → List ℕ
  up_to piece = texts_of line (piece_start len piece)

  -- pieces that follow one another
  follow : (i : ℕ) (texts : List (Vec ℕ)) → ((k : ℕ) (d : Vec ℕ) → k < length texts → IsPiece line len (i + k) (get_or texts k d).items)
      → up_to i ++ flat_map (λ (t : Vec ℕ). t.items) texts ≡ up_to (i + length texts)
  follow i [] each = let same : i ≡ i + 0 = omega arith in append-nil (up_to i) ∙ ap up_to same
  follow i (t ∷ texts) each =
      let here : i + 0 ≡ i = omega arith in
      let next : i + 0 + 1 ≡ i + 1 = omega arith in
      let end : i + 1 + length texts ≡ i + suc (length texts) = omega arith in
      ap (λ l. up_to i ++ l) (flat_map-cons (λ (t : Vec ℕ). t.items) t texts)
      ∙ sym (append_assoc (up_to i) t.items (flat_map (λ (t : Vec ℕ). t.items) texts))
      ∙ ap (λ l. l ++ flat_map (λ (t : Vec ℕ). t.items) texts) (ap (λ n. up_to n ++ t.items) (sym here) ∙ each 0 t (omega arith) ∙ ap up_to next)
      ∙ follow (i + 1) texts
      (λ k d less.
      let at : i + suc k ≡ i + 1 + k = omega arith in
      ap (λ n. up_to n ++ (get_or texts k d).items) (sym at) ∙ each (suc k) d (omega (arith, less)) ∙ ap (λ n. up_to (n + 1)) at)
      ∙ ap up_to end

pub texts_are : (line : ℕ → List ℕ) (len : ℕ) (texts : List (Vec ℕ)) → IsResultList (λ i (t : Vec ℕ). IsPiece line len i t.items) (pieces_of len) texts
    → flat_map (λ (t : Vec ℕ). t.items) texts ≡ texts_of line len
texts_are line len texts are =
    ap (λ n. texts_of line n ++ flat_map (λ (t : Vec ℕ). t.items) texts) (sym (first_start len))
    ∙ follow line len 0 texts
    (λ k d less.
    let at : 0 + k ≡ k = omega arith in
    ap (λ n. texts_of line (piece_start len n) ++ (get_or texts k d).items) at ∙ are.1 k d (omega (arith, less, are.0)) ∙ ap (λ n. texts_of line (piece_start len (n + 1))) (sym at))
    ∙ ap (λ n. texts_of line (piece_start len n)) (let all : 0 + length texts ≡ pieces_of len = omega (arith, are.0) in all)
    ∙ ap (texts_of line) (last_start len)

-- the texts of rows in order
pub texts_of_rows : (f : Fragment → List ℕ) (rows : List Fragment) → texts_of (λ i. f (row_at rows i)) (length rows) ≡ flat_map f rows
texts_of_rows f rows =
    sym (flat_map-map f (row_at rows) (range_with_len 0 (length rows)))
    ∙ ap (flat_map f) (sym (fill_by_all (row_at rows) rows (length rows) no_row refl (λ k less. refl)))
