-- Counts by a test that gets the items above an item, and their independence of the order of items.
use Rattle.std.proofs.Common.{◌≡◌, ◌∙◌, ℕ, zero, suc, ◌+◌, ◌<◌, Bool, cond, List, [], ◌∷◌, ◌||◌, ap, refl, sym, get_or, length, arith}
use Rattle.std.specs.Prelude.{IsPermutation}
use Rattle.std.specs.List.{list_any, swap}
use Rattle.std.proofs.Math.ListN.{set}
use Rattle.std.proofs.Math.Bool.{or_comm, or_assoc}
use Rattle.std.proofs.lemmas.List.Sorted.{IsPermutation-keeps}
use Rattle.tq_check.specs.EqualRows.{count_rows}

-- two lists have an element that passes a test for the same tests
abbrev pub PassAlike : {X : Type 0} → List X → List X → Type 0
PassAlike {X} xs ys = (p : X → Bool) → list_any p xs ≡ list_any p ys

-- a test that depends on the items above only by which tests some of them pass, and counts two neighbours alike in
-- either order
pub record IsFair {X : Type 0} (test : List X → X → Bool) : Type 0 where
  pub alike : (xs ys : List X) (x : X) → PassAlike xs ys → test xs x ≡ test ys x
  pub either : (above : List X) (x y : X) → cond (test above x) 1 0 + cond (test (x ∷ above) y) 1 0 ≡ cond (test above y) 1 0 + cond (test (y ∷ above) x) 1 0

module _ {X : Type 0} (test : List X → X → Bool) (fair : IsFair test) where
  -- items above that pass alike give the same count
  count_alike : (xs ys rows : List X) → PassAlike xs ys → count_rows test xs rows ≡ count_rows test ys rows
  unfolding count_rows
  count_alike xs ys [] same = refl
  count_alike xs ys (row ∷ rows) same = λ i. cond (fair.alike xs ys row same i) 1 0 + count_alike (row ∷ xs) (row ∷ ys) rows (λ p. ap (λ b. p row || b) (same p)) i

  flipped : (x y : X) (above : List X) → PassAlike (x ∷ y ∷ above) (y ∷ x ∷ above)
  flipped x y above p = sym (or_assoc (p x) (p y) (list_any p above)) ∙ ap (λ b. b || list_any p above) (or_comm (p x) (p y)) ∙ or_assoc (p y) (p x) (list_any p above)

  -- two neighbours in the other order
  neighbours : (above rows : List X) (x y : X) → count_rows test above (x ∷ y ∷ rows) ≡ count_rows test above (y ∷ x ∷ rows)
  unfolding count_rows
  neighbours above rows x y =
      let rest = count_alike (y ∷ x ∷ above) (x ∷ y ∷ above) rows (flipped y x above) in
      let two = fair.either above x y in
      omega (arith, rest, two)

  -- an item at the front and a later one, exchanged
  exchanged : (above rows : List X) (x d : X) (j : ℕ) → j < length rows → count_rows test above (get_or rows j d ∷ set rows j x) ≡ count_rows test above (x ∷ rows)
  unfolding count_rows
  exchanged above [] x d j less = absurd (omega (arith, less))
  exchanged above (y ∷ rows) x d zero less = neighbours above rows y x
  exchanged above (y ∷ rows) x d (suc j) less =
      neighbours above (set rows j x) (get_or rows j d) y
      ∙ ap (λ n. cond (test above y) 1 0 + n) (exchanged (y ∷ above) rows x d j (omega (arith, less)))
      ∙ neighbours above rows y x

  -- two items exchanged
  both_set : (above rows : List X) (d : X) (i j : ℕ) → i < length rows → j < length rows → count_rows test above (set (set rows i (get_or rows j d)) j (get_or rows i d)) ≡ count_rows test above rows
  unfolding count_rows
  both_set above [] d i j one other = absurd (omega (arith, one))
  both_set above (x ∷ rows) d zero zero one other = refl
  both_set above (x ∷ rows) d zero (suc j) one other = exchanged above rows x d j (omega (arith, other))
  both_set above (x ∷ rows) d (suc i) zero one other = exchanged above rows x d i (omega (arith, one))
  both_set above (x ∷ rows) d (suc i) (suc j) one other = ap (λ n. cond (test above x) 1 0 + n) (both_set (x ∷ above) rows d i j (omega (arith, one)) (omega (arith, other)))

  swapped : (rows : List X) (i j : ℕ) → i < length rows → j < length rows → count_rows test [] (swap rows i j) ≡ count_rows test [] rows
  swapped [] i j one other = absurd (omega (arith, one))
  swapped (d ∷ rows) i j one other = both_set [] (d ∷ rows) d i j one other

  -- the count is the same in any order
  pub count_permuted : (xs ys : List X) → IsPermutation xs ys → count_rows test [] ys ≡ count_rows test [] xs
  count_permuted xs ys = IsPermutation-keeps xs (λ l. count_rows test [] l ≡ count_rows test [] xs) refl (λ l i j one other is. swapped l i j one other ∙ is) ys
