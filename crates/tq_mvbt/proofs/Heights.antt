-- A tree of many levels has many live keys, so there are at most 10 levels.
use Rattle.std.proofs.Common.{◌≡◌, ◌≢◌, ℕ, zero, suc, ◌+◌, ◌-◌, ◌*◌, ◌^◌, ◌<◌, ◌≤◌, ◌⊎◌, inl, inr, Bool, true, false, cond, ◌&&◌, List, ap, refl, sym, ◌∙◌, subst, arith, count_by, nat_lt, nat_eq, slice_get, Some, lit<}
use Rattle.std.specs.Prelude.{All}
use Rattle.std.proofs.lemmas.Bool.Decides.{nat_tests}
use Rattle.std.proofs.Math.Nat.{pow-le-pow_right, pow-succ'}
use Rattle.tq_mvbt.specs.declared.entry.Entry.{Entry}
use Rattle.tq_mvbt.specs.declared.root.Root.{Root}
use Rattle.tq_mvbt.specs.NodeState.{NodeState}
use Rattle.tq_mvbt.specs.Points.{now, within, covers, holds}
use Rattle.tq_mvbt.specs.Shape.{top, tally, listed, live_at, IsRow, IsBranch, IsPlaced, IsNode, IsForest, IsFilled}
use Rattle.tq_mvbt.specs.TreeState.{count_keys, IsRootAt}
use Rattle.tq_mvbt.proofs.Lists.{all_at, all_both}
use Rattle.tq_mvbt.proofs.Places.{two_pass, all_from_places}
use Rattle.tq_mvbt.proofs.Counts.{count_one}
use Rattle.tq_mvbt.proofs.Among.{count_keys-suc, count_keys-grows, count_keys-part, shared-most, shared-least}

-- the keys that live
abbrev living : (ℕ → ℕ → Bool) → ℕ → ℕ → Bool
living lives v k = lives k v

tally_most : (b : Bool) → tally b ≤ 1
tally_most true = omega arith
tally_most false = omega arith

listed_most : (lives : ℕ → ℕ → Bool) (level k v : ℕ) → listed lives level k v ≤ 1
listed_most lives level k v = split (nat_eq level 0)
  where
    split : (b : Bool) → cond b (tally (lives k v)) 1 ≤ 1
    split true = tally_most (lives k v)
    split false = omega arith

module _ (version : ℕ) (lives : ℕ → ℕ → Bool) (height : ℕ → ℕ) (nodes : List NodeState) (v : ℕ)
    (forest : IsForest version lives height nodes)
    (filled : All IsFilled nodes)
  where
    each : (i : ℕ) (n : NodeState) → slice_get nodes i ≡ Some n → IsNode version lives nodes n
    each i n e = all_at (IsNode version lives nodes) nodes i n forest.each e

    -- if each live entry has at least n live keys, the node has at least n for each of them
    below : (n : NodeState) (least : ℕ) → IsNode version lives nodes n → within n.born n.died v ≡ true
        → All (λ e. within e.born e.dead v ≡ true → least ≤ count_keys (living lives v) e.low (e.high - e.low)) n.entries
        → live_at v n * least ≤ count_keys (living lives v) n.low (n.high - n.low)
    below n least node alive all =
        let most = shared-most (living lives v) (λ e k. covers k v e) n.low (n.high - n.low) n.entries (λ k a b. let h = node.wide in one k (omega arith) (omega arith)) in
        let some = shared-least (living lives v) (λ e k. covers k v e) (λ e. within e.born e.dead v) n.low (n.high - n.low) least n.entries
        (all_both (IsPlaced version n) (λ e. within e.born e.dead v ≡ true → least ≤ count_keys (living lives v) e.low (e.high - e.low))
        (λ e. within e.born e.dead v ≡ true → least ≤ count_keys (λ k. lives k v && covers k v e) n.low (n.high - n.low)) into n.entries node.placed all) in
        omega (arith, most, some)
      where
        one : (k : ℕ) → n.low ≤ k → k < n.high → count_by (λ e. covers k v e) n.entries ≤ 1
        one k a b =
            let h : holds k v n ≡ true = (let i : within n.low n.high k ≡ true = grind (arith, nat_tests) in rw (i, alive) refl) in
            omega (arith, node.lists k v h, listed_most lives n.level k v)

        into : (e : Entry) → IsPlaced version n e → (within e.born e.dead v ≡ true → least ≤ count_keys (living lives v) e.low (e.high - e.low)) → within e.born e.dead v ≡ true → least ≤ count_keys (λ k. lives k v && covers k v e) n.low (n.high - n.low)
        into e p f t =
            let a = p.low in
            let b = p.wide in
            let c = p.high in
            let x = f t in
            let y = count_keys-grows (living lives v) (λ k. lives k v && covers k v e) e.low (e.high - e.low) (λ k l h. same k t l (omega arith)) in
            let z = count_keys-part (λ k. lives k v && covers k v e) n.low (n.high - n.low) e.low (e.high - e.low) a (omega arith) in
            omega (arith, x, y, z)
          where
            keeps : (b : Bool) → tally b ≤ tally (b && true)
            keeps true = omega arith
            keeps false = omega arith

            same : (k : ℕ) → within e.born e.dead v ≡ true → e.low ≤ k → k < e.high → tally (lives k v) ≤ tally (lives k v && covers k v e)
            same k t l h =
                let i : within e.low e.high k ≡ true = grind (arith, nat_tests) in
                rw (i, t) (keeps (lives k v))

    -- the key of a leaf's live entry
    leaf_key : (n : NodeState) → v < n.died → (e : Entry) → IsPlaced version n e → IsRow lives n e → within e.born e.dead v ≡ true → 1 ≤ count_keys (living lives v) e.low (e.high - e.low)
    leaf_key n alive e p r t =
        let k = r.one_key in
        let one : e.high - e.low ≡ suc zero = omega arith in
        let lives_now : tally (lives e.low v) ≡ 1 = ap tally (r.life v alive ∙ t) in
        let at : tally (lives (e.low + zero) v) ≡ tally (lives e.low v) = ap (λ x. tally (lives x v)) (let z : e.low + zero ≡ e.low = omega arith in z) in
        rw one (omega (arith, lives_now, at, count_keys-suc (living lives v) e.low zero))

    -- the child of a live entry is alive
    child_alive : (n : NodeState) → v < n.died → (e : Entry) → (b : IsBranch nodes n e) → within e.born e.dead v ≡ true → within b.child.born b.child.died v ≡ true
    child_alive n alive e b t =
        let s = b.born in
        let l = b.life v alive in
        grind (arith, nat_tests, t, l, s)

    -- a node that does not have all keys
    pub many_keys : (level i : ℕ) (n : NodeState) → slice_get nodes i ≡ Some n → n.level ≡ level → within n.born n.died v ≡ true → (0 < n.low) ⊎ (n.high < top) → 5 ^ (level + 1) ≤ count_keys (living lives v) n.low (n.high - n.low)
    many_keys zero i n e l alive part =
        let node = each i n e in
        let five = enough i n e alive part in
        let d : v < n.died = grind (arith, nat_tests) in
        let all = below n 1 node alive (all_both (IsPlaced version n) (IsRow lives n) (λ f. within f.born f.dead v ≡ true → 1 ≤ count_keys (living lives v) f.low (f.high - f.low)) (λ f p r. leaf_key n d f p r) n.entries node.placed (node.rows l)) in
        let pow : 5 ^ (zero + 1) ≡ 5 = refl in
        rw pow (omega (arith, all, five))
      where
        enough : (i : ℕ) (n : NodeState) → slice_get nodes i ≡ Some n → within n.born n.died v ≡ true → (0 < n.low) ⊎ (n.high < top) → 5 ≤ live_at v n
        enough i n e alive (inl h) = ((all_at IsFilled nodes i n filled e).enough v alive).lower h
        enough i n e alive (inr h) = ((all_at IsFilled nodes i n filled e).enough v alive).upper h
    many_keys (suc level) i n e l alive part =
        let node = each i n e in
        let five = enough i n e alive part in
        let d : v < n.died = grind (arith, nat_tests) in
        let all = below n (5 ^ (level + 1)) node alive (all_both (IsPlaced version n) (IsBranch nodes n) (λ f. within f.born f.dead v ≡ true → 5 ^ (level + 1) ≤ count_keys (living lives v) f.low (f.high - f.low))
        (λ f p b t. child_keys n part f p b (many_keys level f.child b.child b.stands (let x = b.level in omega arith) (child_alive n d f b t))) n.entries node.placed (node.branches (omega arith))) in
        let pow : 5 ^ (suc level + 1) ≡ 5 * 5 ^ (level + 1) = power level in
        rw pow (times (live_at v n) (5 ^ (level + 1)) five all)
      where
        enough : (i : ℕ) (n : NodeState) → slice_get nodes i ≡ Some n → within n.born n.died v ≡ true → (0 < n.low) ⊎ (n.high < top) → 5 ≤ live_at v n
        enough i n e alive (inl h) = ((all_at IsFilled nodes i n filled e).enough v alive).lower h
        enough i n e alive (inr h) = ((all_at IsFilled nodes i n filled e).enough v alive).upper h

        power : (level : ℕ) → 5 ^ (suc level + 1) ≡ 5 * 5 ^ (level + 1)
        power level = let e : suc level + 1 ≡ suc (level + 1) = omega arith in rw e (pow-succ' 5 (level + 1))

        times : (a b : ℕ) {c : ℕ} → 5 ≤ a → a * b ≤ c → 5 * b ≤ c
        times a b h g = grind arith

        child_keys : (n : NodeState) → (0 < n.low) ⊎ (n.high < top) → (f : Entry) → IsPlaced version n f → (b : IsBranch nodes n f) → ((0 < b.child.low) ⊎ (b.child.high < top) → 5 ^ (level + 1) ≤ count_keys (living lives v) b.child.low (b.child.high - b.child.low)) → 5 ^ (level + 1) ≤ count_keys (living lives v) f.low (f.high - f.low)
        child_keys n (inl h) f p b g =
            let x = b.low in let y = b.high in let a = p.low in
            rw (sym x, sym y) (g (inl (omega arith)))
        child_keys n (inr h) f p b g =
            let x = b.low in let y = b.high in let a = p.high in
            rw (sym x, sym y) (g (inr (omega arith)))

    -- a live entry of an index node does not have all of its keys, since another one lives
    pub narrower_at : (i : ℕ) (n : NodeState) → slice_get nodes i ≡ Some n → within n.born n.died v ≡ true → 0 < n.level → (j : ℕ) (f : Entry) → slice_get n.entries j ≡ Some f → within f.born f.dead v ≡ true → (n.low < f.low) ⊎ (f.high < n.high)
    narrower_at i n e alive index j f g t = split (nat_lt n.low f.low) (nat_lt f.high n.high) refl refl
      where
        alone : f.low ≤ n.low → n.high ≤ f.high → (m : ℕ) (x : Entry) → slice_get n.entries m ≡ Some x → within x.born x.dead v ≡ true → (b : Bool) → nat_eq m j ≡ b → m ≡ j
        alone z1 z2 m x h u true s = grind (arith, nat_tests)
        alone z1 z2 m x h u false s =
            let node = each i n e in
            let differ : m ≢ j = grind (arith, nat_tests) in
            let p = all_at (IsPlaced version n) n.entries m x node.placed h in
            let a = p.low in
            let b = p.wide in
            let c = p.high in
            let held : holds x.low v n ≡ true = (let i1 : within n.low n.high x.low ≡ true = grind (arith, nat_tests) in rw (i1, alive) refl) in
            let mine : covers x.low v x ≡ true = (let i1 : within x.low x.high x.low ≡ true = grind (arith, nat_tests) in rw (i1, u) refl) in
            let its : covers x.low v f ≡ true = (let i1 : within f.low f.high x.low ≡ true = grind (arith, nat_tests) in rw (i1, t) refl) in
            absurd (omega (arith, two_pass (covers x.low v) n.entries m j x f differ h g mine its, node.lists x.low v held, listed_most lives n.level x.low v))

        split : (a b : Bool) → nat_lt n.low f.low ≡ a → nat_lt f.high n.high ≡ b → (n.low < f.low) ⊎ (f.high < n.high)
        split true b s u = inl (grind (arith, nat_tests))
        split false true s u = inr (grind (arith, nat_tests))
        split false false s u =
            let two = ((all_at IsFilled nodes i n filled e).enough v alive).index index in
            let z1 : f.low ≤ n.low = grind (arith, nat_tests) in
            let z2 : n.high ≤ f.high = grind (arith, nat_tests) in
            absurd (omega (arith, two, count_one (λ x. within x.born x.dead v) n.entries j (λ m x k w. alone z1 z2 m x k w (nat_eq m j) refl)))

    -- a root above leaves
    pub root_keys : v < now → (level i : ℕ) (n : NodeState) → slice_get nodes i ≡ Some n → n.level ≡ suc level → within n.born n.died v ≡ true → n.low ≡ 0 → n.high ≡ top → 2 * 5 ^ (level + 1) ≤ count_keys (living lives v) 0 top
    root_keys small level i n e l alive low high =
        let node = each i n e in
        let two = ((all_at IsFilled nodes i n filled e).enough v alive).index (omega arith) in
        let d : v < n.died = grind (arith, nat_tests) in
        let all = below n (5 ^ (level + 1)) node alive (all_parts node two d) in
        let span : n.high - n.low ≡ top = omega arith in
        let same : count_keys (living lives v) n.low (n.high - n.low) ≡ count_keys (living lives v) 0 top = rw (span, low) refl in
        times (live_at v n) (5 ^ (level + 1)) two (omega (arith, all, same))
      where
        times : (a b : ℕ) {c : ℕ} → 2 ≤ a → a * b ≤ c → 2 * b ≤ c
        times a b h g = grind arith

        part_of : (j : ℕ) (f : Entry) → slice_get n.entries j ≡ Some f → within f.born f.dead v ≡ true → (0 < f.low) ⊎ (f.high < top)
        part_of j f g t = part (narrower_at i n e alive (omega arith) j f g t)
          where
            part : (n.low < f.low) ⊎ (f.high < n.high) → (0 < f.low) ⊎ (f.high < top)
            part (inl h) = inl (omega arith)
            part (inr h) = inr (omega arith)

        all_parts : IsNode version lives nodes n → 2 ≤ live_at v n → v < n.died → All (λ f. within f.born f.dead v ≡ true → 5 ^ (level + 1) ≤ count_keys (living lives v) f.low (f.high - f.low)) n.entries
        all_parts node two d =
            all_from_places (λ f. within f.born f.dead v ≡ true → 5 ^ (level + 1) ≤ count_keys (living lives v) f.low (f.high - f.low)) n.entries (λ j f g t.
            let b = all_at (IsBranch nodes n) n.entries j f (node.branches (omega arith)) g in
            let x = b.low in
            let y = b.high in
            let keys = many_keys level f.child b.child b.stands (let z = b.level in omega arith) (child_alive n d f b t) (narrow f b (part_of j f g t)) in
            let keys' : 5 ^ (level + 1) ≤ count_keys (living lives v) f.low (b.child.high - f.low) = subst (λ z. 5 ^ (level + 1) ≤ count_keys (living lives v) z (b.child.high - z)) x keys in
            subst (λ z. 5 ^ (level + 1) ≤ count_keys (living lives v) f.low (z - f.low)) y keys')
          where
            narrow : (f : Entry) → (b : IsBranch nodes n f) → (0 < f.low) ⊎ (f.high < top) → (0 < b.child.low) ⊎ (b.child.high < top)
            narrow f b (inl h) = inl (let x = b.low in omega arith)
            narrow f b (inr h) = inr (let y = b.high in omega arith)

    -- so a tree of at most 16,777,216 live keys has at most 10 levels
    pub levels_most : v < now → (r : Root) → IsRootAt nodes v r → count_keys (λ k. lives k v) 0 top ≤ 16777216 → r.levels ≤ 10
    levels_most small r at few = split at.node.level refl
      where
        grows : (a b : ℕ) → a ≤ b → 5 ^ a ≤ 5 ^ b
        grows a b h = pow-le-pow_right (lit< tt) h

        split : (level : ℕ) → at.node.level ≡ level → r.levels ≤ 10
        split zero s = let l = at.level in omega arith
        split (suc level) s =
            let b = at.born in
            let d = at.died in
            let many = root_keys small level r.node at.node at.stands s (grind (arith, nat_tests)) at.low at.high in
            bound (nat_lt level 9) refl (omega (arith, many, few))
          where
            bound : (b : Bool) → nat_lt level 9 ≡ b → 2 * 5 ^ (level + 1) ≤ 16777216 → r.levels ≤ 10
            bound true t m = let l = at.level in grind (arith, nat_tests)
            bound false t m =
                let nine : 9 ≤ level = grind (arith, nat_tests) in
                let up = grows 10 (level + 1) (omega arith) in
                let pow : 5 ^ 10 ≡ 9765625 = refl in
                absurd (omega (arith, up, pow, m))
