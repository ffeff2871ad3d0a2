-- Totals of rows that have begun and not ended: that they fit 128 bits, and those at a later place.
use Rattle.std.proofs.Common.{◌≡◌, ℕ, ◌+◌, ◌*◌, ◌^◌, ◌<◌, ◌≤◌, ℤ, pos, neg_ℤ, ◌+ℤ◌, ◌-ℤ◌, ◌≤ℤ◌, FitsSigned, List, [], ◌∷◌, ◌++◌, ◌-◌, length, take, drop, get_or, sym, ap, ◌∙◌, arith, length-drop, length-take}
use Rattle.std.specs.Prelude.{All}
use Rattle.std.specs.Int.{w64, w128}
use Rattle.std.proofs.lemmas.Int.{ints}
use Rattle.std.proofs.Math.Seq.{take-add}
use Rattle.std.proofs.lemmas.List.{get_or-map, map_more}
use Rattle.std.proofs.lemmas.List.Elements.{All-drop, All-take, All-weaker}
use Rattle.tq_base.specs.declared.sort_input.SortKey.{SortKey}
use Rattle.tq_base.specs.Keys.{SortInputState}
use Rattle.tq_agg.specs.declared.bounds.End.{End}
use Rattle.tq_agg.specs.declared.summands.Summand.{Summand}
use Rattle.tq_agg.specs.Totals.{added, end_key, key_weight, total_of, totals_of}
use Rattle.tq_agg.proofs.Adding.{added-append, added-bounds, added-step}

-- a sum of numbers of 64 signed bits
weights_fit : {X : Type 0} (w : X → ℤ) (xs : List X) → All (λ x. FitsSigned w64 (w x)) xs
    → (neg_ℤ (pos (length xs * 2 ^ 63)) ≤ℤ added w xs) × (added w xs ≤ℤ pos (length xs * 2 ^ 63))
weights_fit w xs fit =
    added-bounds w xs (All-weaker (λ x. FitsSigned w64 (w x)) (λ x. (neg_ℤ (pos (2 ^ 63)) ≤ℤ w x) × (w x ≤ℤ pos (2 ^ 63))) (λ x fits. (omega (arith, ints), omega (arith, ints))) xs fit)

-- with one element more it fits
pub more_fits : {X : Type 0} (w : X → ℤ) (xs : List X) (i : ℕ) (x : X) → All (λ x. FitsSigned w64 (w x)) xs → i < length xs → length xs < 2 ^ 64 → x ≡ get_or xs i x
    → FitsSigned w128 (added w (take i xs) +ℤ w x)
more_fits w xs i x fit lt short is =
    let bounds = weights_fit w (take (i + 1) xs) (All-take (λ x. FitsSigned w64 (w x)) (i + 1) xs fit) in
    let step = added-step w xs i x lt is in
    omega (arith, ints, bounds.0, bounds.1, step, length-take (i + 1) xs)

part_added : {X : Type 0} (w : X → ℤ) (xs : List X) (i j : ℕ) → i ≤ j → added w (take j xs) ≡ added w (take i xs) +ℤ added w (take (j - i) (drop i xs))
part_added w xs i j order =
    let split : take j xs ≡ take i xs ++ take (j - i) (drop i xs) = ap (λ n. take n xs) (let same : j ≡ i + (j - i) = omega (arith, order) in same) ∙ take-add i (j - i) xs in
    ap (added w) split ∙ added-append w (take i xs) (take (j - i) (drop i xs))

-- the sum over some elements, without the sum over others
module _ {X Y : Type 0} (w : X → ℤ) (u : Y → ℤ) (xs : List X) (ys : List Y) where
  -- at a later place
  pub difference_to : (b e b' e' : ℕ) → b ≤ b' → e ≤ e' → added w (take b' xs) -ℤ added u (take e' ys)
      ≡ (added w (take b xs) -ℤ added u (take e ys)) +ℤ (added w (take (b' - b) (drop b xs)) -ℤ added u (take (e' - e) (drop e ys)))
  difference_to b e b' e' begun ended = omega (arith, ints, part_added w xs b b' begun, part_added u ys e e' ended)

  module _ (fit : All (λ x. FitsSigned w64 (w x)) xs) (others_fit : All (λ y. FitsSigned w64 (u y)) ys) (short : length xs < 2 ^ 63) (others_short : length ys < 2 ^ 63) where
    pub difference_fits : (m n : ℕ) → FitsSigned w128 (added w (take m xs) -ℤ added u (take n ys))
    difference_fits m n =
        let begun = weights_fit w (take m xs) (All-take (λ x. FitsSigned w64 (w x)) m xs fit) in
        let ended = weights_fit u (take n ys) (All-take (λ y. FitsSigned w64 (u y)) n ys others_fit) in
        omega (arith, ints, begun.0, begun.1, ended.0, ended.1, length-take m xs, length-take n ys)

    -- of the elements between two places
    pub part_fits : (b m e n : ℕ) → FitsSigned w128 (added w (take m (drop b xs)) -ℤ added u (take n (drop e ys)))
    part_fits b m e n =
        let begun = weights_fit w (take m (drop b xs)) (All-take (λ x. FitsSigned w64 (w x)) m (drop b xs) (All-drop (λ x. FitsSigned w64 (w x)) b xs fit)) in
        let ended = weights_fit u (take n (drop e ys)) (All-take (λ y. FitsSigned w64 (u y)) n (drop e ys) (All-drop (λ y. FitsSigned w64 (u y)) e ys others_fit)) in
        omega (arith, ints, begun.0, begun.1, ended.0, ended.1, length-take m (drop b xs), length-take n (drop e ys), length-drop b xs, length-drop e ys)

-- the totals at a place, and at a later one
module _ (sort_input : SortInputState) (summands : List Summand) (keys : List SortKey) (ends : List End) (b e b' e' : ℕ) (begun : b ≤ b') (ended : e ≤ e')
    (totals : List ℤ) (are : totals ≡ totals_of sort_input summands (take b keys) (take e ends)) (place : ℕ) (lt : place < length summands) (d : Summand) where
  pub sum_to : total_of sort_input (get_or summands place d) (take b' keys) (take e' ends)
      ≡ get_or totals place (pos 0) +ℤ (added (key_weight sort_input (get_or summands place d)) (take (b' - b) (drop b keys)) -ℤ added (λ x. key_weight sort_input (get_or summands place d) (end_key x)) (take (e' - e) (drop e ends)))
  sum_to =
      let s = get_or summands place d in
      let before : get_or totals place (pos 0) ≡ total_of sort_input s (take b keys) (take e ends) =
      ap (λ l. get_or l place (pos 0)) are ∙ get_or-map (λ s. total_of sort_input s (take b keys) (take e ends)) summands place d (pos 0) lt in
      omega (arith, ints, before, difference_to (key_weight sort_input s) (λ x. key_weight sort_input s (end_key x)) keys ends b e b' e' begun ended)

  pub totals_more : (next new : List ℤ) (total : ℤ) → next ≡ totals_of sort_input (take place summands) (take b' keys) (take e' ends) → total ≡ total_of sort_input (get_or summands place d) (take b' keys) (take e' ends)
      → new ≡ next ++ total ∷ [] → new ≡ totals_of sort_input (take (place + 1) summands) (take b' keys) (take e' ends)
  totals_more next new total are_next is more =
      more ∙ ap (λ l. l ++ total ∷ []) are_next ∙ ap (λ n. totals_of sort_input (take place summands) (take b' keys) (take e' ends) ++ n ∷ []) is
      ∙ sym (map_more (λ s. total_of sort_input s (take b' keys) (take e' ends)) summands place d lt)
