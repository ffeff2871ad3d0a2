-- The descent: a current index node has exactly one live entry for each of its keys, and the entry's child is current.
use Rattle.std.proofs.Common.{◌≡◌, ℕ, ◌-◌, ◌<◌, ◌≤◌, List, Bool, true, false, ◌&&◌, ap, refl, ◌∙◌, subst, arith, count_by, nat_lt, nat_eq, slice_get, Some}
use Rattle.std.proofs.lemmas.Bool.Decides.{nat_tests}
use Rattle.std.proofs.lemmas.List.Elements.{All-weaker}
use Rattle.tq_mvbt.specs.declared.entry.Entry.{Entry}
use Rattle.tq_mvbt.specs.NodeState.{NodeState}
use Rattle.tq_mvbt.specs.Points.{now, within, covers, holds, leads, IsChild}
use Rattle.tq_mvbt.specs.Shape.{listed, IsPlaced, IsBranch, IsNode, IsSomeForest, IsFound}
use Rattle.tq_mvbt.proofs.Lists.{all_at, count_alike}

-- an entry leads to a key exactly if it holds the key at the last version
leads_covers : (version k : ℕ) (n : NodeState) (e : Entry) → version < now → IsPlaced version n e → leads k e ≡ covers k version e
leads_covers version k n e small p =
    let a = p.born in let b = p.ends in let c = p.ended in
    split (nat_eq e.dead now) refl (within e.low e.high k)
  where
    split : (d : Bool) → nat_eq e.dead now ≡ d → (w : Bool) → (d && w) ≡ (w && within e.born e.dead version)
    split true s true = let a = p.born in grind (arith, nat_tests)
    split true s false = refl
    split false s true = let b = p.ends in let c = p.ended in grind (arith, nat_tests)
    split false s false = refl

holds_now : (version k : ℕ) (n : NodeState) → version < now → n.born ≤ version → n.died ≡ now → n.low ≤ k → k < n.high → holds k version n ≡ true
holds_now version k n small b d l h = grind (arith, nat_tests)

-- so a current node that is not a leaf has one that leads to the key
pub one_leads : (version k : ℕ) (lives : ℕ → ℕ → Bool) (nodes : List NodeState) (n : NodeState) → version < now → IsNode version lives nodes n → n.died ≡ now → n.low ≤ k → k < n.high → count_by (leads k) n.entries ≡ listed lives n.level k version
one_leads version k lives nodes n small node d l h =
    count_alike (leads k) (covers k version) n.entries (All-weaker (IsPlaced version n) (λ e. leads k e ≡ covers k version e) (λ e. leads_covers version k n e small) n.entries node.placed)
    ∙ node.lists k version (holds_now version k n small node.born d l h)

-- a child of a current node is current if its entry lives
pub child_stands : (child entry died : ℕ) → died ≡ now → entry ≡ now → child ≤ now → ((v : ℕ) → v < died → nat_lt v child ≡ nat_lt v entry) → child ≡ now
child_stands child entry died d e c alike = split (nat_lt child now) refl
  where
    split : (b : Bool) → nat_lt child now ≡ b → child ≡ now
    split false s = grind (arith, nat_tests)
    split true s =
        let below : child < now = grind (arith, nat_tests) in
        let same : nat_lt child child ≡ nat_lt child entry = alike child (omega arith) in
        absurd (grind (arith, nat_tests))

-- one step down
pub step_down : (nodes : List NodeState) (level key number child : ℕ) (n : NodeState) → IsSomeForest nodes → 0 < level → IsFound nodes level key number → slice_get nodes number ≡ Some n → IsChild n.entries key child → IsFound nodes (level - 1) key child
step_down nodes level key number child n some above found stands leads_to =
    let each = some.forest.each in
    let node = all_at (IsNode some.version some.lives nodes) nodes number n each stands in
    let same : n ≡ found.node = cc (stands, found.stands) in
    let n_level : n.level ≡ level = ap (λ (m : NodeState). m.level) same ∙ found.at_level in
    let n_died : n.died ≡ now = ap (λ (m : NodeState). m.died) same ∙ found.died in
    let branch = all_at (IsBranch nodes n) n.entries leads_to.place leads_to.entry (node.branches (omega arith)) leads_to.stands in
    let its = all_at (IsNode some.version some.lives nodes) nodes leads_to.entry.child branch.child each branch.stands in
    let lives_now : leads_to.entry.dead ≡ now = grind (arith, nat_tests, leads_to.leads_to) in
    let low : leads_to.entry.low ≤ key = grind (arith, nat_tests, leads_to.leads_to) in
    let high : key < leads_to.entry.high = grind (arith, nat_tests, leads_to.leads_to) in
    record {
      node = branch.child;
      stands = subst (λ i. slice_get nodes i ≡ Some branch.child) leads_to.same branch.stands;
      at_level = omega (arith, branch.level);
      died = child_stands branch.child.died leads_to.entry.dead n.died n_died lives_now its.ends branch.life;
      low = omega (arith, branch.low);
      high = omega (arith, branch.high);
    }
