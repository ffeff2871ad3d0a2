-- The lives in the leaves are those of the tree.
use Rattle.std.proofs.Common.{◌≡◌, ℕ, ◌+◌, ◌<◌, List, [], ◌∷◌, Bool, true, false, cond, ◌&&◌, ◌||◌, ap, refl, sym, ◌∙◌, arith, count_by, nat_lt, nat_eq}
use Rattle.std.specs.Prelude.{All}
use Rattle.std.proofs.lemmas.Bool.Decides.{nat_tests}
use Rattle.std.proofs.lemmas.List.Elements.{All-head, All-tail, All-weaker}
use Rattle.std.proofs.lemmas.List.Sums.{sum_by-cons}
use Rattle.tq_mvbt.specs.NodeState.{NodeState}
use Rattle.tq_mvbt.specs.Points.{now, within, covers, holds}
use Rattle.tq_mvbt.specs.Shape.{top, tally, at_point, IsRow, IsPlaced, IsNode, IsForest}
use Rattle.tq_mvbt.specs.TreeState.{lives_of}
use Rattle.tq_mvbt.proofs.Lists.{all_both}

-- what a leaf lists for a point that it holds
abbrev Tells : ℕ → ℕ → Bool → NodeState → Type 0
Tells k v b n = at_point 0 k v n ≡ true → count_by (covers k v) n.entries ≡ tally b

none_tells : (k v : ℕ) (nodes : List NodeState) → count_by (at_point 0 k v) nodes ≡ 0 → lives_of nodes k v ≡ false
none_tells k v [] z = refl
none_tells k v (n ∷ nodes) z =
    let parts = sum_by-cons (λ m. tally (at_point 0 k v m)) n nodes in
    split (at_point 0 k v n) refl (none_tells k v nodes) parts
  where
    split : (a : Bool) → at_point 0 k v n ≡ a → (count_by (at_point 0 k v) nodes ≡ 0 → lives_of nodes k v ≡ false) → count_by (at_point 0 k v) (n ∷ nodes) ≡ tally (at_point 0 k v n) + count_by (at_point 0 k v) nodes → lives_of (n ∷ nodes) k v ≡ false
    split true s f p = let one : tally (at_point 0 k v n) ≡ 1 = ap tally s in absurd (omega (arith, p, one, z))
    split false s f p = let zero : tally (at_point 0 k v n) ≡ 0 = ap tally s in rw s (f (omega (arith, p, zero, z)))

one_tells : (k v : ℕ) (b : Bool) (nodes : List NodeState) → All (Tells k v b) nodes → count_by (at_point 0 k v) nodes ≡ 1 → lives_of nodes k v ≡ b
one_tells k v b [] all z = absurd (omega (arith, z))
one_tells k v b (n ∷ nodes) all z =
    let parts = sum_by-cons (λ m. tally (at_point 0 k v m)) n nodes in
    split (at_point 0 k v n) refl (one_tells k v b nodes (All-tail (Tells k v b) n nodes all)) parts
  where
    told : (c : Bool) → (nat_lt 0 (tally c) || false) ≡ c
    told true = refl
    told false = refl

    split : (a : Bool) → at_point 0 k v n ≡ a → (count_by (at_point 0 k v) nodes ≡ 1 → lives_of nodes k v ≡ b) → count_by (at_point 0 k v) (n ∷ nodes) ≡ tally (at_point 0 k v n) + count_by (at_point 0 k v) nodes → lives_of (n ∷ nodes) k v ≡ b
    split true s f p =
        let one : tally (at_point 0 k v n) ≡ 1 = ap tally s in
        let rest = none_tells k v nodes (omega (arith, p, one, z)) in
        let count = All-head (Tells k v b) n nodes all s in
        rw (s, count, rest) (told b)
    split false s f p = let zero : tally (at_point 0 k v n) ≡ 0 = ap tally s in rw s (f (omega (arith, p, zero, z)))

pub known : (version : ℕ) (lives : ℕ → ℕ → Bool) (height : ℕ → ℕ) (nodes : List NodeState) (k v : ℕ) → IsForest version lives height nodes → k < top → v < now → 0 < height v → lives_of nodes k v ≡ lives k v
known version lives height nodes k v forest kt vt high =
    one_tells k v (lives k v) nodes (All-weaker (IsNode version lives nodes) (Tells k v (lives k v)) (λ n node s. tell n node s) nodes forest.each)
    (forest.tiles 0 k v kt vt ∙ (let t : nat_lt 0 (height v) ≡ true = grind (arith, nat_tests) in ap tally t))
  where
    tell : (n : NodeState) → IsNode version lives nodes n → at_point 0 k v n ≡ true → count_by (covers k v) n.entries ≡ tally (lives k v)
    tell n node s = split (nat_eq n.level 0) (holds k v n) refl refl s
      where
        split : (a b : Bool) → nat_eq n.level 0 ≡ a → holds k v n ≡ b → (a && b) ≡ true → count_by (covers k v) n.entries ≡ tally (lives k v)
        split true true x y t = node.lists k v y ∙ rw x refl
        split true false x y t = cc
        split false b x y t = cc

-- a tree of some lives is a tree of equal lives
pub alike : (version : ℕ) (lives lives' : ℕ → ℕ → Bool) (height : ℕ → ℕ) (nodes : List NodeState) → ((k v : ℕ) → k < top → v < now → lives' k v ≡ lives k v) → IsForest version lives height nodes → IsForest version lives' height nodes
alike version lives lives' height nodes same forest =
    record { each = All-weaker (IsNode version lives nodes) (IsNode version lives' nodes) one nodes forest.each; tiles = forest.tiles }
  where
    one : (n : NodeState) → IsNode version lives nodes n → IsNode version lives' nodes n
    one n node =
        record {
          wide = node.wide;
          high = node.high;
          begins = node.begins;
          born = node.born;
          ends = node.ends;
          ended = node.ended;
          placed = node.placed;
          rows = λ z. all_both (IsPlaced version n) (IsRow lives n) (IsRow lives' n) (λ e p r. record { one_key = r.one_key; life = λ v h. (let a = p.wide in let b = p.high in let c = node.high in let d = node.ends in same e.low v (omega arith) (omega arith)) ∙ r.life v h }) n.entries node.placed (node.rows z);
          branches = node.branches;
          lists = λ k v h. node.lists k v h ∙ told k v (within n.low n.high k) refl h (nat_eq n.level 0);
        }
      where
        told : (k v : ℕ) (w : Bool) → within n.low n.high k ≡ w → (w && within n.born n.died v) ≡ true → (b : Bool) → cond b (tally (lives k v)) 1 ≡ cond b (tally (lives' k v)) 1
        told k v false s t b = cc
        told k v true s t false = refl
        told k v true s t true =
            let c = node.high in
            let d = node.ends in
            let kt : k < top = grind (arith, nat_tests) in
            let vt : v < now = grind (arith, nat_tests) in
            ap tally (sym (same k v kt vt))
