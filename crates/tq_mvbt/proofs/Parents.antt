-- A node and its parent: the parent's entries for it, and that it does not have all keys of the parent.
use Rattle.std.proofs.Common.{◌≡◌, ◌≢◌, ℕ, ◌+◌, ◌<◌, ◌≤◌, ◌⊎◌, inl, inr, List, Bool, true, false, ap, refl, sym, ◌∙◌, subst, arith, count_by, nat_lt, nat_eq, slice_get, Some, length}
use Rattle.std.proofs.lemmas.Bool.Decides.{nat_tests}
use Rattle.tq_mvbt.specs.declared.entry.Entry.{Entry}
use Rattle.tq_mvbt.specs.NodeState.{NodeState}
use Rattle.tq_mvbt.specs.Points.{now, within, holds, is_live, leads}
use Rattle.tq_mvbt.specs.Shape.{tally, HasEnoughLive, IsFilled, IsPlaced, IsBranch, IsNode, IsForest, live_at}
use Rattle.tq_mvbt.specs.Unsettled.{IsFilledBefore, IsPart}
use Rattle.tq_mvbt.proofs.Lists.{all_at, all_both}
use Rattle.tq_mvbt.proofs.Places.{two_pass}
use Rattle.tq_mvbt.proofs.Ending.{unique}
use Rattle.tq_mvbt.proofs.Descent.{one_leads, child_stands}
use Rattle.tq_mvbt.proofs.Counts.{is_ended, count_grows, count_either, count_one, some_passes, live_at-now}

-- a current node has as many live entries as live at the last version
stands_at : (version : ℕ) (lives : ℕ → ℕ → Bool) (nodes : List NodeState) (n : NodeState) → version < now → IsNode version lives nodes n → n.died ≡ now → within n.born n.died version ≡ true
stands_at version lives nodes n small node died = let b = node.born in grind (arith, nat_tests)

pub enough_now : (version : ℕ) (lives : ℕ → ℕ → Bool) (nodes : List NodeState) (n : NodeState) → version < now → IsNode version lives nodes n → n.died ≡ now → IsFilled n → HasEnoughLive n (count_by is_live n.entries)
enough_now version lives nodes n small node died filled =
    subst (λ x. HasEnoughLive n x) (live_at-now version version lives nodes n node (omega arith) small) (filled.enough version (stands_at version lives nodes n small node died))

pub filled_now : (version : ℕ) (lives : ℕ → ℕ → Bool) (nodes : List NodeState) (n : NodeState) → version < now → IsNode version lives nodes n → n.died ≡ now → IsFilledBefore version n → length n.entries ≤ 32 → HasEnoughLive n (count_by is_live n.entries) → IsFilled n
filled_now version lives nodes n small node died before fits enough =
    record { fits = fits; enough = λ v h. split (nat_lt v version) v refl h }
  where
    split : (b : Bool) (v : ℕ) → nat_lt v version ≡ b → within n.born n.died v ≡ true → HasEnoughLive n (live_at v n)
    split true v s h = before.enough v (grind (arith, nat_tests)) h
    split false v s h =
        let u : v < now = grind (arith, nat_tests) in
        subst (λ x. HasEnoughLive n x) (sym (live_at-now version v lives nodes n node (grind (arith, nat_tests)) u)) enough

-- a live entry of the parent for the node
pub record IsEntryTo (version : ℕ) (parent n : NodeState) : Type 0 where
  pub place : ℕ
  pub entry : Entry
  pub stands : slice_get parent.entries place ≡ Some entry
  pub live : entry.dead ≡ now
  pub low : entry.low ≡ n.low
  pub high : entry.high ≡ n.high
  pub placed : IsPlaced version parent entry

module _ (version level : ℕ) (lives : ℕ → ℕ → Bool) (height : ℕ → ℕ) (nodes : List NodeState) (q : ℕ) (parent : NodeState)
    (small : version < now)
    (forest : IsForest version lives height nodes)
    (stands : slice_get nodes q ≡ Some parent)
    (above : parent.level ≡ level + 1)
    (died : parent.died ≡ now)
  where
    each : (i : ℕ) (n : NodeState) → slice_get nodes i ≡ Some n → IsNode version lives nodes n
    each i n e = all_at (IsNode version lives nodes) nodes i n forest.each e

    node : IsNode version lives nodes parent
    node = each q parent stands

    one_at : (k : ℕ) → parent.low ≤ k → k < parent.high → count_by (leads k) parent.entries ≡ 1
    one_at k a b = one_leads version k lives nodes parent small node died a b ∙ (let z : nat_eq parent.level 0 ≡ false = grind (arith, nat_tests) in rw z refl)

    -- a live entry whose low key is one of a node of the level leads to that node's keys
    leads_low : (p : ℕ) (n : NodeState) → slice_get nodes p ≡ Some n → n.level ≡ level → n.died ≡ now → (e : Entry) → IsPlaced version parent e → IsBranch nodes parent e → e.dead ≡ now → n.low ≤ e.low → e.low < n.high → (e.low ≡ n.low) × (e.high ≡ n.high)
    leads_low p n e l d f placed b live a1 a2 =
        let its = each f.child b.child b.stands in
        let gone = child_stands b.child.died f.dead parent.died died live its.ends b.life in
        let x1 = its.born in
        let x2 = (each p n e).born in
        let x3 = placed.wide in
        let x4 = placed.high in
        let x5 = node.high in
        let x6 = b.low in
        let x7 = b.high in
        let same_level : n.level ≡ b.child.level = (let y = b.level in omega arith) in
        let here : holds f.low version n ≡ true = grind (arith, nat_tests) in
        let there : holds f.low version b.child ≡ true = grind (arith, nat_tests) in
        let at : p ≡ f.child = unique height nodes p f.child n b.child f.low version forest.tiles (omega arith) small e b.stands same_level here there in
        let g : slice_get nodes f.child ≡ Some n = subst (λ x. slice_get nodes x ≡ Some n) at e in
        let h = b.stands in
        let same : b.child ≡ n = cc in
        (sym b.low ∙ ap (λ (m : NodeState). m.low) same, sym b.high ∙ ap (λ (m : NodeState). m.high) same)

    lead_of : (p : ℕ) (n : NodeState) → slice_get nodes p ≡ Some n → n.level ≡ level → n.died ≡ now → (e : Entry) → IsPlaced version parent e → IsBranch nodes parent e → e.dead ≡ now → n.low ≤ e.low → e.low < n.high → leads n.low e ≡ true
    lead_of p n e l d f placed b live a1 a2 =
        let both = leads_low p n e l d f placed b live a1 a2 in
        let x1 = both.0 in
        let x2 = placed.wide in
        grind (arith, nat_tests)

    -- the edit of one child's range ends at most one entry
    pub ends_one_entry : (p : ℕ) (n : NodeState) → slice_get nodes p ≡ Some n → n.level ≡ level → n.died ≡ now → parent.low ≤ n.low → n.high ≤ parent.high → count_by (is_ended n.low n.high) parent.entries ≤ 1
    ends_one_entry p n e l d a b =
        let w = (each p n e).wide in
        let grows = count_grows (is_ended n.low n.high) (leads n.low) parent.entries
        (all_both (IsPlaced version parent) (IsBranch nodes parent) (λ f. is_ended n.low n.high f ≡ true → leads n.low f ≡ true)
        (λ f placed branch t. lead_of p n e l d f placed branch (grind (arith, nat_tests, t)) (grind (arith, nat_tests, t)) (grind (arith, nat_tests, t))) parent.entries node.placed (node.branches (omega arith))) in
        omega (arith, grows, one_at n.low a (omega arith))

    -- the edit of two children's range ends at most two
    pub ends_two_entries : (p s low high : ℕ) (n m : NodeState) → slice_get nodes p ≡ Some n → n.level ≡ level → n.died ≡ now → slice_get nodes s ≡ Some m → m.level ≡ level → m.died ≡ now
        → parent.low ≤ n.low → n.high ≤ parent.high → parent.low ≤ m.low → m.high ≤ parent.high
        → ((k : ℕ) → tally (within low high k) ≡ tally (within n.low n.high k) + tally (within m.low m.high k)) → count_by (is_ended low high) parent.entries ≤ 2
    ends_two_entries p s low high n m e l d f l' d' a b a' b' sides =
        let w = (each p n e).wide in
        let w' = (each s m f).wide in
        let grows = count_either (is_ended low high) (leads n.low) (leads m.low) parent.entries
        (all_both (IsPlaced version parent) (IsBranch nodes parent) (λ g. is_ended low high g ≡ true → (leads n.low g ≡ true) ⊎ (leads m.low g ≡ true))
        (λ g placed branch t. which g placed branch (grind (arith, nat_tests, t)) (within n.low n.high g.low) (within m.low m.high g.low) refl refl (let i : within low high g.low ≡ true = grind (arith, nat_tests, t) in sym (sides g.low) ∙ ap tally i)) parent.entries node.placed (node.branches (omega arith))) in
        omega (arith, grows, one_at n.low a (omega arith), one_at m.low a' (omega arith))
      where
        which : (g : Entry) → IsPlaced version parent g → IsBranch nodes parent g → g.dead ≡ now → (x y : Bool) → within n.low n.high g.low ≡ x → within m.low m.high g.low ≡ y → tally (within n.low n.high g.low) + tally (within m.low m.high g.low) ≡ 1 → (leads n.low g ≡ true) ⊎ (leads m.low g ≡ true)
        which g placed branch live true y i j t = inl (lead_of p n e l d g placed branch live (grind (arith, nat_tests)) (grind (arith, nat_tests)))
        which g placed branch live false true i j t = inr (lead_of s m f l' d' g placed branch live (grind (arith, nat_tests)) (grind (arith, nat_tests)))
        which g placed branch live false false i j t =
            let x1 : tally (within n.low n.high g.low) ≡ 0 = ap tally i in
            let x2 : tally (within m.low m.high g.low) ≡ 0 = ap tally j in
            absurd (omega (arith, x1, x2, t))

    -- if two entries live, none has all keys
    narrower : (e : Entry) (i : ℕ) → slice_get parent.entries i ≡ Some e → e.dead ≡ now → 2 ≤ count_by is_live parent.entries → e.low ≡ parent.low → e.high ≡ parent.high → ⊥
    narrower e i at live two low high =
        let one = count_one is_live parent.entries i (λ j f g t. alone j f g t (nat_eq j i) refl) in
        omega (arith, one, two)
      where
        alone : (j : ℕ) (f : Entry) → slice_get parent.entries j ≡ Some f → is_live f ≡ true → (b : Bool) → nat_eq j i ≡ b → j ≡ i
        alone j f g t true s = grind (arith, nat_tests)
        alone j f g t false s =
            let differ : j ≢ i = grind (arith, nat_tests) in
            let placed = all_at (IsPlaced version parent) parent.entries j f node.placed g in
            let x1 = placed.low in
            let x2 = placed.wide in
            let x3 = placed.high in
            let mine : leads f.low f ≡ true = grind (arith, nat_tests) in
            let its : leads f.low e ≡ true = grind (arith, nat_tests) in
            absurd (omega (arith, two_pass (leads f.low) parent.entries j i f e differ g at mine its, one_at f.low x1 (omega arith)))

    -- the live entry for a node of the level that holds a key of the parent
    entry_to : (k p : ℕ) (n : NodeState) → slice_get nodes p ≡ Some n → n.level ≡ level → n.died ≡ now → n.low ≤ k → k < n.high → parent.low ≤ k → k < parent.high → IsEntryTo version parent n
    entry_to k p n e l d a1 a2 b1 b2 =
        let lead = some_passes (leads k) parent.entries (omega (arith, one_at k b1 b2)) in
        let f = lead.element in
        let t = lead.passes in
        let placed = all_at (IsPlaced version parent) parent.entries lead.place f node.placed lead.stands in
        let b = all_at (IsBranch nodes parent) parent.entries lead.place f (node.branches (omega arith)) lead.stands in
        let live : f.dead ≡ now = grind (arith, nat_tests, t) in
        let its = each f.child b.child b.stands in
        let gone = child_stands b.child.died f.dead parent.died died live its.ends b.life in
        let x1 = its.born in
        let x2 = (each p n e).born in
        let x6 = b.low in
        let x7 = b.high in
        let x5 = node.high in
        let same_level : n.level ≡ b.child.level = (let y = b.level in omega arith) in
        let here : holds k version n ≡ true = grind (arith, nat_tests) in
        let there : holds k version b.child ≡ true = grind (arith, nat_tests, t) in
        let at : p ≡ f.child = unique height nodes p f.child n b.child k version forest.tiles (omega arith) small e b.stands same_level here there in
        let g : slice_get nodes f.child ≡ Some n = subst (λ x. slice_get nodes x ≡ Some n) at e in
        let h = b.stands in
        let same : b.child ≡ n = cc in
        record {
          place = lead.place;
          entry = f;
          stands = lead.stands;
          live = live;
          low = sym b.low ∙ ap (λ (m : NodeState). m.low) same;
          high = sym b.high ∙ ap (λ (m : NodeState). m.high) same;
          placed = placed;
        }

    -- the node of the level that holds a key of the parent has some of its keys, and not all
    pub part_of : (k p : ℕ) (n : NodeState) → slice_get nodes p ≡ Some n → n.level ≡ level → n.died ≡ now → n.low ≤ k → k < n.high → parent.low ≤ k → k < parent.high → 2 ≤ count_by is_live parent.entries → IsPart n parent
    part_of k p n e l d a1 a2 b1 b2 two =
        let to = entry_to k p n e l d a1 a2 b1 b2 in
        let placed = to.placed in
        let y1 = placed.low in
        let y2 = placed.wide in
        let y3 = placed.high in
        let low = to.low in
        let high = to.high in
        record {
          wide = omega arith;
          low = omega arith;
          high = omega arith;
          part = split to (nat_lt parent.low n.low) (nat_lt n.high parent.high) refl refl;
        }
      where
        split : IsEntryTo version parent n → (x y : Bool) → nat_lt parent.low n.low ≡ x → nat_lt n.high parent.high ≡ y → (parent.low < n.low) ⊎ (n.high < parent.high)
        split to true y s t = inl (grind (arith, nat_tests))
        split to false true s t = inr (grind (arith, nat_tests))
        split to false false s t =
            let placed = to.placed in
            let y1 = placed.low in
            let y3 = placed.high in
            let low = to.low in
            let high = to.high in
            absurd (narrower to.entry to.place to.stands to.live two (grind (arith, nat_tests)) (grind (arith, nat_tests)))
