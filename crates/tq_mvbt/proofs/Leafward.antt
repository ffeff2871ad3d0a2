-- The regions of the leaves, one more node at a time.
use Rattle.std.proofs.Common.{◌≡◌, ℕ, zero, suc, ◌+◌, List, [], ◌∷◌, ◌++◌, Bool, true, false, cond, take, ap, refl, ◌∙◌, sym, arith, nat_eq, slice_get, Some}
use Rattle.std.proofs.lemmas.Bool.Decides.{nat_tests}
use Rattle.tq_mvbt.specs.declared.region.Region.{Region}
use Rattle.tq_mvbt.specs.NodeState.{NodeState}
use Rattle.tq_mvbt.specs.Regions.{region_for, regions_from}

-- the region of a node, if it is a leaf
abbrev pub one_region : ℕ → NodeState → List Region
one_region number n = cond (nat_eq n.level 0) (region_for number n ∷ []) []

pub regions_from-more : (number i : ℕ) (nodes : List NodeState) (n : NodeState) → slice_get nodes i ≡ Some n → regions_from number (take (suc i) nodes) ≡ regions_from number (take i nodes) ++ one_region (number + i) n
regions_from-more number i [] n e = cc
regions_from-more number zero (m ∷ nodes) n e =
    let same : m ≡ n = cc in
    let at : number + 0 ≡ number = omega arith in
    rw (same, at) refl
regions_from-more number (suc i) (m ∷ nodes) n e =
    let rest = regions_from-more (number + 1) i nodes n e in
    let at : number + 1 + i ≡ number + suc i = omega arith in
    split (nat_eq m.level 0) (rest ∙ ap (λ x. regions_from (number + 1) (take i nodes) ++ one_region x n) at)
  where
    split : (b : Bool) → regions_from (number + 1) (take (suc i) nodes) ≡ regions_from (number + 1) (take i nodes) ++ one_region (number + suc i) n
        → cond b (region_for number m ∷ regions_from (number + 1) (take (suc i) nodes)) (regions_from (number + 1) (take (suc i) nodes)) ≡ cond b (region_for number m ∷ regions_from (number + 1) (take i nodes)) (regions_from (number + 1) (take i nodes)) ++ one_region (number + suc i) n
    split true f = ap (λ rs. region_for number m ∷ rs) f
    split false f = f

append-nil : {X : Type 0} (xs : List X) → xs ++ [] ≡ xs
append-nil [] = refl
append-nil (x ∷ xs) = ap (λ ys. x ∷ ys) (append-nil xs)

-- one more node, a leaf
pub leaf_more : (i : ℕ) (nodes : List NodeState) (n : NodeState) (found : List Region) → slice_get nodes i ≡ Some n → n.level ≡ 0 → found ≡ regions_from 0 (take i nodes) → found ++ region_for i n ∷ [] ≡ regions_from 0 (take (i + 1) nodes)
leaf_more i nodes n found e l is =
    let more = regions_from-more 0 i nodes n e in
    let up : i + 1 ≡ suc i = omega arith in
    let at : 0 + i ≡ i = omega arith in
    let leaf : nat_eq n.level 0 ≡ true = grind (arith, nat_tests) in
    let one : one_region (0 + i) n ≡ region_for i n ∷ [] = ap (λ b. cond b (region_for (0 + i) n ∷ []) []) leaf ∙ ap (λ x. region_for x n ∷ []) at in
    rw (up, is) (sym (more ∙ ap (λ rs. regions_from 0 (take i nodes) ++ rs) one))

-- one more node, not a leaf
pub index_more : (i : ℕ) (nodes : List NodeState) (n : NodeState) (found : List Region) → slice_get nodes i ≡ Some n → (n.level ≡ 0 → ⊥) → found ≡ regions_from 0 (take i nodes) → found ≡ regions_from 0 (take (i + 1) nodes)
index_more i nodes n found e l is =
    let more = regions_from-more 0 i nodes n e in
    let up : i + 1 ≡ suc i = omega arith in
    let index : nat_eq n.level 0 ≡ false = grind (arith, nat_tests, l) in
    let none : one_region (0 + i) n ≡ [] = ap (λ b. cond b (region_for (0 + i) n ∷ []) []) index in
    rw (up, is) (sym (more ∙ ap (λ rs. regions_from 0 (take i nodes) ++ rs) none ∙ append-nil (regions_from 0 (take i nodes))))
