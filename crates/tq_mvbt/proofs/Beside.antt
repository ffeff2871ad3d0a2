-- The child of the parent that holds the key next to a node's range is the node's sibling.
use Rattle.std.proofs.Common.{◌≡◌, ℕ, ◌+◌, ◌-◌, ◌<◌, ◌≤◌, ◌⊎◌, inl, inr, List, Bool, true, false, ap, refl, sym, ◌∙◌, subst, arith, nat_lt, slice_get, Some}
use Rattle.std.proofs.lemmas.Bool.Decides.{nat_tests}
use Rattle.tq_mvbt.specs.NodeState.{NodeState}
use Rattle.tq_mvbt.specs.Points.{now, IsChild}
use Rattle.tq_mvbt.specs.Shape.{IsNode, IsPlaced, IsBranch, IsSomeForest}
use Rattle.tq_mvbt.specs.Unsettled.{IsWithinParent, AreAdjacent, IsCurrentNode}
use Rattle.tq_mvbt.proofs.Lists.{all_at}
use Rattle.tq_mvbt.proofs.Ending.{unique}
use Rattle.tq_mvbt.proofs.Descent.{step_down}

-- two current nodes of a level have no key in common
apart : (nodes : List NodeState) (some : IsSomeForest nodes) (i j : ℕ) (n m : NodeState) (k : ℕ) → slice_get nodes i ≡ Some n → slice_get nodes j ≡ Some m → n.level ≡ m.level → n.died ≡ now → m.died ≡ now → n.low ≤ k → k < n.high → m.low ≤ k → k < m.high → n ≡ m
apart nodes some i j n m k e f l d d' a b a' b' =
    let one = all_at (IsNode some.version some.lives nodes) nodes i n some.forest.each e in
    let two = all_at (IsNode some.version some.lives nodes) nodes j m some.forest.each f in
    let x1 = one.born in
    let x2 = two.born in
    let x3 = one.high in
    let small = some.small in
    let at = unique some.height nodes i j n m k some.version some.forest.tiles (omega arith) small e f l (grind (arith, nat_tests)) (grind (arith, nat_tests)) in
    let g : slice_get nodes j ≡ Some n = subst (λ x. slice_get nodes x ≡ Some n) at e in
    cc

-- the node and its adjacent sibling
pub beside : (nodes : List NodeState) (some : IsSomeForest nodes) (level i q j x : ℕ) (n parent : NodeState) → slice_get nodes i ≡ Some n → slice_get nodes q ≡ Some parent → n.level ≡ level → n.died ≡ now → parent.level ≡ level + 1 → parent.died ≡ now
    → parent.low ≤ x → x < parent.high → ((x ≡ n.high) ⊎ (x + 1 ≡ n.low)) → IsChild parent.entries x j → AreAdjacent nodes i j × IsWithinParent nodes j q × IsCurrentNode level nodes j × (x ≡ n.high → (m : NodeState) → slice_get nodes j ≡ Some m → m.low ≡ n.high)
beside nodes some level i q j x n parent e f l d pl pd a b side child =
    let found = step_down nodes (level + 1) x q j parent some (omega arith) (record { node = parent; stands = f; at_level = pl; died = pd; low = a; high = b }) f child in
    let m = found.node in
    let one = all_at (IsNode some.version some.lives nodes) nodes i n some.forest.each e in
    let two = all_at (IsNode some.version some.lives nodes) nodes j m some.forest.each found.stands in
    let above = all_at (IsNode some.version some.lives nodes) nodes q parent some.forest.each f in
    let w1 = one.wide in
    let w2 = two.wide in
    let c1 = found.low in
    let c2 = found.high in
    let cl = found.at_level in
    let same_level : n.level ≡ m.level = omega arith in
    let placed = all_at (IsPlaced some.version parent) parent.entries child.place child.entry above.placed child.stands in
    let branch = all_at (IsBranch nodes parent) parent.entries child.place child.entry (above.branches (omega arith)) child.stands in
    let at : slice_get nodes j ≡ Some branch.child = subst (λ y. slice_get nodes y ≡ Some branch.child) child.same branch.stands in
    let g = found.stands in
    let same : branch.child ≡ m = cc in
    let p1 = placed.low in
    let p2 = placed.high in
    let lows : m.low ≡ child.entry.low = ap (λ (y : NodeState). y.low) (sym same) ∙ branch.low in
    let highs : m.high ≡ child.entry.high = ap (λ (y : NodeState). y.high) (sym same) ∙ branch.high in (
      record { one = n; other = m; one_stands = e; other_stands = found.stands; one_wide = w1; other_wide = w2; touch = touching m found.stands same_level found.died w1 w2 c1 c2 side },
      record { child = m; above = parent; child_stands = found.stands; above_stands = f; low = omega arith; high = omega arith },
      record { node = m; stands = found.stands; at_level = omega arith; died = found.died },
      λ at_high other stands.
          let its : other ≡ m = cc in
          let right : n.high ≡ m.low = right_of m found.stands same_level found.died w1 w2 c1 c2 at_high in
          ap (λ (y : NodeState). y.low) its ∙ sym right,
    )
  where
    lows_of : (m : NodeState) → n ≡ m → (n.low ≡ m.low) × (n.high ≡ m.high)
    lows_of m s = (ap (λ (y : NodeState). y.low) s, ap (λ (y : NodeState). y.high) s)

    right_of : (m : NodeState) → slice_get nodes j ≡ Some m → n.level ≡ m.level → m.died ≡ now → n.low < n.high → m.low < m.high → m.low ≤ x → x < m.high → x ≡ n.high → n.high ≡ m.low
    right_of m g s md w1 w2 c1 c2 t = split (nat_lt m.low n.high) refl
      where
        split : (z : Bool) → nat_lt m.low n.high ≡ z → n.high ≡ m.low
        split false u = grind (arith, nat_tests)
        split true u =
            let below : m.low < n.high = grind (arith, nat_tests) in
            let both = lows_of m (apart nodes some i j n m (n.high - 1) e g s d md (omega arith) (omega arith) (omega arith) (omega arith)) in
            let h = both.1 in
            absurd (omega arith)

    touching : (m : NodeState) → slice_get nodes j ≡ Some m → n.level ≡ m.level → m.died ≡ now → n.low < n.high → m.low < m.high → m.low ≤ x → x < m.high → ((x ≡ n.high) ⊎ (x + 1 ≡ n.low)) → (n.high ≡ m.low) ⊎ (m.high ≡ n.low)
    touching m g s md w1 w2 c1 c2 (inl t) = inl (right_of m g s md w1 w2 c1 c2 t)
    touching m g s md w1 w2 c1 c2 (inr t) = inr (split (nat_lt n.low m.high) refl)
      where
        split : (z : Bool) → nat_lt n.low m.high ≡ z → m.high ≡ n.low
        split false u = grind (arith, nat_tests)
        split true u =
            let below : n.low < m.high = grind (arith, nat_tests) in
            let both = lows_of m (apart nodes some i j n m n.low e g s d md (omega arith) (omega arith) (omega arith) below) in
            let h = both.0 in
            absurd (omega arith)
