-- A tree has a leaf at each point.
use Rattle.std.proofs.Common.{◌≡◌, ℕ, suc, ◌+◌, ◌<◌, ◌≤◌, ◌&&◌, Bool, true, false, cond, List, [], ◌∷◌, Some, None, slice_get, nat_le, nat_lt, refl, ap, ◌∙◌, arith, rules, count_by}
use Rattle.std.specs.Prelude.{nat_eq, min}
use Rattle.std.proofs.lemmas.Bool.{eqb-true}
use Rattle.std.proofs.lemmas.Bool.Decides.{nat_tests}
use Rattle.tq_mvbt.specs.NodeState.{NodeState}
use Rattle.tq_mvbt.specs.Points.{end_of, holds, now, within}
use Rattle.tq_mvbt.specs.Regions.{region_for, regions_from}
use Rattle.tq_mvbt.specs.Tiling.{before_end, region_holds}
use Rattle.tq_scan.specs.declared.window.Part.{Part}
use Rattle.tq_scan.specs.Windows.{lies_in}
use Rattle.tq_store.proofs.LifeLemmas.{and-true}
use Rattle.tq_store.proofs.VersionLemmas.{count_cons, tally}

pub less_is : (a b : ℕ) → a < b → nat_lt a b ≡ true
less_is a b less = search (rules, nat_tests, less)

pub le_is : (a b : ℕ) → a ≤ b → nat_le a b ≡ true
le_is a b le = search (rules, nat_tests, le)

pub both_true : (a b : Bool) → a ≡ true → b ≡ true → (a && b) ≡ true
both_true a b a_is b_is = ap (λ x. x && b) a_is ∙ b_is

-- the part's first key at its last version
pub in_part : (p : Part) → p.low < p.high → p.first ≤ p.last → lies_in p p.low p.last ≡ true
in_part p wide long =
    both_true (nat_le p.low p.low && nat_lt p.low p.high) (nat_le p.first p.last && nat_le p.last p.last)
    (both_true (nat_le p.low p.low) (nat_lt p.low p.high) (le_is p.low p.low (omega arith)) (less_is p.low p.high wide))
    (both_true (nat_le p.first p.last) (nat_le p.last p.last) (le_is p.first p.last long) (le_is p.last p.last (omega arith)))

before_now : (v d : ℕ) → v < now → before_end v (end_of d) ≡ true → nat_lt v d ≡ true
before_now v d less before = by (nat_eq d now) refl before
  where
    by : (b : Bool) → nat_eq d now ≡ b → before_end v (cond b None (Some d)) ≡ true → nat_lt v d ≡ true
    by true is there = let same = eqb-true d now is in less_is v d (omega (arith, less, same))
    by false is there = there

held : (start k v : ℕ) (n : NodeState) → v < now → region_holds k v (region_for start n) ≡ true → holds k v n ≡ true
held start k v n less there =
    let both = and-true (within n.low n.high k) (nat_le n.born v && before_end v (end_of n.died)) there in
    let life = and-true (nat_le n.born v) (before_end v (end_of n.died)) both.1 in
    both_true (within n.low n.high k) (within n.born n.died v) both.0 (both_true (nat_le n.born v) (nat_lt v n.died) life.0 (before_now v n.died less life.1))

-- a leaf whose region holds the key at the version
pub record IsLeafAt (nodes : List NodeState) (k v : ℕ) : Type 0 where
  pub number : ℕ
  pub node : NodeState
  pub stands : slice_get nodes number ≡ Some node
  pub leaf : node.level ≡ 0
  pub held : holds k v node ≡ true

pub leaf_at : (start k v : ℕ) (nodes : List NodeState) → v < now → count_by (region_holds k v) (regions_from start nodes) ≡ 1 → IsLeafAt nodes k v
leaf_at start k v [] less one = absurd (omega (arith, one))
leaf_at start k v (n ∷ nodes) less one =
    by (nat_eq n.level 0) refl (region_holds k v (region_for start n)) refl one (leaf_at (start + 1) k v nodes less)
  where
    later : IsLeafAt nodes k v → IsLeafAt (n ∷ nodes) k v
    later l = record { number = suc l.number; node = l.node; stands = l.stands; leaf = l.leaf; held = l.held }

    by : (b : Bool) → nat_eq n.level 0 ≡ b → (h : Bool) → region_holds k v (region_for start n) ≡ h
        → count_by (region_holds k v) (cond b (region_for start n ∷ regions_from (start + 1) nodes) (regions_from (start + 1) nodes)) ≡ 1
        → (count_by (region_holds k v) (regions_from (start + 1) nodes) ≡ 1 → IsLeafAt nodes k v) → IsLeafAt (n ∷ nodes) k v
    by false level h there one rest = later (rest one)
    by true level true there one rest = record { number = 0; node = n; stands = refl; leaf = eqb-true n.level 0 level; held = held start k v n less there }
    by true level false there one rest =
        let none = ap tally there in
        let more = count_cons (region_holds k v) (region_for start n) (regions_from (start + 1) nodes) in
        later (rest (omega (arith, one, more, none)))

-- a smaller lower bound
pub lower : (a b limit n : ℕ) → a ≤ b → min b limit ≤ n → min a limit ≤ n
lower a b limit n le at_least = omega (arith, le, at_least)
