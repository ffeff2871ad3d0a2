-- Every tree tiles keys and versions.
use Rattle.std.proofs.Common.{◌≡◌, ◌≢◌, ℕ, ◌+◌, ◌<◌, ◌≤◌, ◌⊎◌, inl, inr, Bool, true, false, cond, ◌&&◌, List, [], ◌∷◌, ap, refl, sym, ◌∙◌, subst, arith, count_by, nat_lt, nat_le, nat_eq, slice_get, Some, None, max, lit<}
use Rattle.std.proofs.lemmas.Bool.Decides.{nat_tests}
use Rattle.std.proofs.lemmas.List.Sums.{sum_by-cons}
use Rattle.tq_mvbt.specs.declared.entry.Entry.{Entry}
use Rattle.tq_mvbt.specs.declared.root.Root.{Root}
use Rattle.tq_mvbt.specs.NodeState.{NodeState}
use Rattle.tq_mvbt.specs.Points.{now, within, covers, holds, end_of}
use Rattle.tq_mvbt.specs.Shape.{top, tally, at_point, live_at, IsRow, IsBranch, IsPlaced, IsNode, IsFilled}
use Rattle.tq_mvbt.specs.Directory.{root_of}
use Rattle.tq_mvbt.specs.TreeState.{lives_of, height_of, HasLife, IsTree}
use Rattle.tq_mvbt.specs.Regions.{region_for, regions_from}
use Rattle.tq_mvbt.specs.Tiling.{before_end, region_holds, Lists, Meets, IsChildAt, IsTiling}
use Rattle.tq_mvbt.proofs.Lists.{all_at}
use Rattle.tq_mvbt.proofs.Places.{one_passes}
use Rattle.tq_mvbt.proofs.Counts.{some_passes}
use Rattle.tq_mvbt.proofs.Ending.{unique}
use Rattle.tq_mvbt.proofs.Heights.{narrower_at}

-- ---- regions

ends_alike : (v d : ℕ) → v < now → before_end v (end_of d) ≡ nat_lt v d
ends_alike v d h = split (nat_eq d now) refl
  where
    split : (b : Bool) → nat_eq d now ≡ b → before_end v (cond b None (Some d)) ≡ nat_lt v d
    split true s = let e : nat_lt v d ≡ true = grind (arith, nat_tests) in sym e
    split false s = refl

-- regions hold the points that the leaves hold
regions_hold : (k v number : ℕ) (nodes : List NodeState) → v < now → count_by (region_holds k v) (regions_from number nodes) ≡ count_by (at_point 0 k v) nodes
regions_hold k v number [] h = refl
regions_hold k v number (n ∷ nodes) h = split (nat_eq n.level 0) refl (regions_hold k v (number + 1) nodes h) (sum_by-cons (λ m. tally (at_point 0 k v m)) n nodes)
  where
    same : region_holds k v (region_for number n) ≡ holds k v n
    same = ap (λ b. within n.low n.high k && (nat_le n.born v && b)) (ends_alike v n.died h)

    split : (b : Bool) → nat_eq n.level 0 ≡ b → count_by (region_holds k v) (regions_from (number + 1) nodes) ≡ count_by (at_point 0 k v) nodes
        → count_by (at_point 0 k v) (n ∷ nodes) ≡ tally (at_point 0 k v n) + count_by (at_point 0 k v) nodes
        → count_by (region_holds k v) (cond b (region_for number n ∷ regions_from (number + 1) nodes) (regions_from (number + 1) nodes)) ≡ count_by (at_point 0 k v) (n ∷ nodes)
    split true s rest parts =
        let here : tally (at_point 0 k v n) ≡ tally (region_holds k v (region_for number n)) = rw s (ap tally (sym same)) in
        omega (arith, rest, parts, here, sum_by-cons (λ r. tally (region_holds k v r)) (region_for number n) (regions_from (number + 1) nodes))
    split false s rest parts =
        let here : tally (at_point 0 k v n) ≡ 0 = rw s refl in
        omega (arith, rest, parts, here)

-- two lives that agree up to a version before which one of them ends have the same end
own_end : (born dead born' dead' died : ℕ) (lives : ℕ → Bool) → ((v : ℕ) → v < died → lives v ≡ within born dead v) → ((v : ℕ) → v < now → lives v ≡ within born' dead' v) → born ≡ born' → born < dead → born' < dead' → died ≤ now → dead < died → dead ≡ dead'
own_end born dead born' dead' died lives f g same l l' c h =
    let here : within born' dead' dead ≡ within born dead dead = sym (g dead (omega arith)) ∙ f dead h in
    let off : within born dead dead ≡ false = grind (arith, nat_tests) in
    let low : dead' ≤ dead = grind (arith, nat_tests) in
    split (nat_lt dead' dead) refl low
  where
    split : (b : Bool) → nat_lt dead' dead ≡ b → dead' ≤ dead → dead ≡ dead'
    split false s low = grind (arith, nat_tests)
    split true s low =
        let less : dead' < dead = grind (arith, nat_tests) in
        let there : within born' dead' dead' ≡ within born dead dead' = sym (g dead' (omega arith)) ∙ f dead' (omega arith) in
        absurd (grind (arith, nat_tests, there))

other_end : (born dead born' dead' died : ℕ) (lives : ℕ → Bool) → ((v : ℕ) → v < died → lives v ≡ within born dead v) → ((v : ℕ) → v < now → lives v ≡ within born' dead' v) → born ≡ born' → born < dead → born' < dead' → died ≤ now → dead' < died → dead ≡ dead'
other_end born dead born' dead' died lives f g same l l' c h =
    let there : within born' dead' dead' ≡ within born dead dead' = sym (g dead' (omega arith)) ∙ f dead' h in
    let off : within born' dead' dead' ≡ false = grind (arith, nat_tests) in
    let high : dead ≤ dead' = grind (arith, nat_tests) in
    own_end born dead born' dead' died lives f g same l l' c (omega arith)

either_end : (born dead born' dead' died : ℕ) (lives : ℕ → Bool) → ((v : ℕ) → v < died → lives v ≡ within born dead v) → ((v : ℕ) → v < now → lives v ≡ within born' dead' v) → born ≡ born' → born < dead → born' < dead' → died ≤ now → dead ≤ now → dead' ≤ now → (dead < died) ⊎ ((dead' < died) ⊎ (died ≡ now)) → dead ≡ dead'
either_end born dead born' dead' died lives f g same l l' c d d' (inl h) = own_end born dead born' dead' died lives f g same l l' c h
either_end born dead born' dead' died lives f g same l l' c d d' (inr (inl h)) = other_end born dead born' dead' died lives f g same l l' c h
either_end born dead born' dead' died lives f g same l l' c d d' (inr (inr h)) = split (nat_lt dead now) (nat_lt dead' now) refl refl
  where
    split : (s t : Bool) → nat_lt dead now ≡ s → nat_lt dead' now ≡ t → dead ≡ dead'
    split true t u w = own_end born dead born' dead' died lives f g same l l' c (let x : dead < now = grind (arith, nat_tests) in omega arith)
    split false true u w = other_end born dead born' dead' died lives f g same l l' c (let x : dead' < now = grind (arith, nat_tests) in omega arith)
    split false false u w = let x : now ≤ dead = grind (arith, nat_tests) in let y : now ≤ dead' = grind (arith, nat_tests) in omega arith

one_node : (nodes : List NodeState) (i j : ℕ) (a b : NodeState) → i ≡ j → slice_get nodes j ≡ Some a → slice_get nodes i ≡ Some b → a ≡ b
one_node nodes i j a b same e f =
    let g : slice_get nodes j ≡ Some b = subst (λ x. slice_get nodes x ≡ Some b) same f in
    cc

level_below : (a b c : ℕ) → b + 1 ≡ c → c ≡ a + 1 → a ≡ b
level_below a b c e f = omega arith

module _ (version : ℕ) (nodes : List NodeState) (roots : List Root) (tree : IsTree version nodes roots) where
  each : (i : ℕ) (n : NodeState) → slice_get nodes i ≡ Some n → IsNode version (lives_of nodes) nodes n
  each i n e = all_at (IsNode version (lives_of nodes) nodes) nodes i n tree.forest.each e

  high : (v : ℕ) → v < now → 0 < height_of roots v
  high v h = let at = tree.rooted.stand v h in let l = at.level in omega arith

  one_region : (k v : ℕ) → k < top → v < now → count_by (region_holds k v) (regions_from 0 nodes) ≡ 1
  one_region k v kt h =
      let tiles = tree.forest.tiles 0 k v kt h in
      let t : nat_lt 0 (height_of roots v) ≡ true = (let a = high v h in grind (arith, nat_tests)) in
      regions_hold k v 0 nodes h ∙ tiles ∙ ap tally t

  -- ---- what a leaf lists

  listed_meets : (i k : ℕ) (n : NodeState) → slice_get nodes i ≡ Some n → n.level ≡ 0 → Lists n k → Meets nodes n k
  listed_meets i k n e leaf lists =
      let node = each i n e in
      let f = lists.entry in
      let p = all_at (IsPlaced version n) n.entries lists.place f node.placed lists.stands in
      let r = all_at (IsRow (lives_of nodes) n) n.entries lists.place f (node.rows leaf) lists.stands in
      let key = lists.key in
      let a1 = p.low in let a2 = p.wide in let a3 = p.high in let a4 = p.begins in let a5 = p.meets in let a6 = p.lived in let a7 = node.begins in
      let v : ℕ = max n.born f.born in
      let vd : v < n.died = omega arith in
      let vb : n.born ≤ v = omega arith in
      let fb : f.born ≤ v = omega arith in
      let fd : v < f.dead = omega arith in
      record {
        version = v;
        held = held_at n k v (omega arith) (omega arith) vb vd;
        lives = subst (λ x. lives_of nodes x v ≡ true) key (r.life v vd ∙ within_at f.born f.dead v fb fd);
      }
    where
      within_at : (a b v : ℕ) → a ≤ v → v < b → within a b v ≡ true
      within_at a b v h g = grind (arith, nat_tests)

      held_at : (n : NodeState) (k v : ℕ) → n.low ≤ k → k < n.high → n.born ≤ v → v < n.died → holds k v n ≡ true
      held_at n k v a b c d = rw (within_at n.low n.high k a b, within_at n.born n.died v c d) refl

  meets_listed : (i k : ℕ) (n : NodeState) → slice_get nodes i ≡ Some n → n.level ≡ 0 → Meets nodes n k → Lists n k
  meets_listed i k n e leaf meets =
      let node = each i n e in
      let z : nat_eq n.level 0 ≡ true = grind (arith, nat_tests) in
      let one : count_by (covers k meets.version) n.entries ≡ 1 = node.lists k meets.version meets.held ∙ ap (λ b. cond b (tally (lives_of nodes k meets.version)) 1) z ∙ ap tally meets.lives in
      let f = some_passes (covers k meets.version) n.entries (omega (arith, one)) in
      let r = all_at (IsRow (lives_of nodes) n) n.entries f.place f.element (node.rows leaf) f.stands in
      let o = r.one_key in
      let in_range = range f.element.low f.element.high _ (within f.element.low f.element.high k) refl f.passes in
      record { place = f.place; entry = f.element; stands = f.stands; key = (let a = in_range.0 in let b = in_range.1 in omega arith) }
    where
      range : (a b : ℕ) (w x : Bool) → within a b k ≡ x → (x && w) ≡ true → (a ≤ k) × (k < b)
      range a b w true s t = (grind (arith, nat_tests), grind (arith, nat_tests))
      range a b w false s t = cc

  -- ---- lives of entries

  born_is : (i j : ℕ) (n : NodeState) (e : Entry) (born dead : ℕ) → slice_get nodes i ≡ Some n → n.level ≡ 0 → slice_get n.entries j ≡ Some e → HasLife nodes e.low born dead → e.born ≡ born
  born_is i j n e born dead at leaf stands life =
      let node = each i n at in
      let p = all_at (IsPlaced version n) n.entries j e node.placed stands in
      let r = all_at (IsRow (lives_of nodes) n) n.entries j e (node.rows leaf) stands in
      let a = p.begins in let b = p.lived in let c = node.ends in let l = life.lived in
      let here : within born dead e.born ≡ within e.born e.dead e.born = sym (life.lives e.born (omega arith)) ∙ r.life e.born a in
      let on : within e.born e.dead e.born ≡ true = grind (arith, nat_tests) in
      let low : born ≤ e.born = grind (arith, nat_tests) in
      let there : within born dead born ≡ within e.born e.dead born = sym (life.lives born (omega arith)) ∙ r.life born (omega arith) in
      let on' : within born dead born ≡ true = grind (arith, nat_tests) in
      let high' : e.born ≤ born = grind (arith, nat_tests) in
      omega arith

  dead_is : (i j : ℕ) (n : NodeState) (e : Entry) (born dead : ℕ) → slice_get nodes i ≡ Some n → n.level ≡ 0 → slice_get n.entries j ≡ Some e → HasLife nodes e.low born dead → (e.dead < n.died) ⊎ ((dead < n.died) ⊎ (n.died ≡ now)) → e.dead ≡ dead
  dead_is i j n e born dead at leaf stands life known =
      let node = each i n at in
      let p = all_at (IsPlaced version n) n.entries j e node.placed stands in
      let r = all_at (IsRow (lives_of nodes) n) n.entries j e (node.rows leaf) stands in
      let same = born_is i j n e born dead at leaf stands life in
      let a = p.begins in let b = p.lived in let c = node.ends in let l = life.lived in let d = p.ends in let x = life.ends in
      either_end e.born e.dead born dead n.died (λ v. lives_of nodes e.low v) r.life life.lives same b l node.ends p.ends life.ends known
      -- ---- children

  child_at : (i j v : ℕ) (n : NodeState) (e : Entry) → slice_get nodes i ≡ Some n → 0 < n.level → within n.born n.died v ≡ true → slice_get n.entries j ≡ Some e → within e.born e.dead v ≡ true → IsChildAt nodes n e v
  child_at i j v n e at index alive stands live =
      let node = each i n at in
      let b = all_at (IsBranch nodes n) n.entries j e (node.branches index) stands in
      let d : v < n.died = grind (arith, nat_tests, alive) in
      let s = b.born in
      let l = b.life v d in
      record { child = b.child; stands = b.stands; level = b.level; low = b.low; high = b.high; alive = grind (arith, nat_tests, live, l, s) }

  tiled_at : (i k v : ℕ) (n : NodeState) → slice_get nodes i ≡ Some n → 0 < n.level → holds k v n ≡ true → count_by (covers k v) n.entries ≡ 1
  tiled_at i k v n at index h = (each i n at).lists k v h ∙ (let z : nat_eq n.level 0 ≡ false = grind (arith, nat_tests) in rw z refl)

  two_live : (i v : ℕ) (n : NodeState) → slice_get nodes i ≡ Some n → within n.born n.died v ≡ true → 0 < n.level → 2 ≤ live_at v n
  two_live i v n at alive index = ((all_at IsFilled nodes i n tree.filled at).enough v alive).index index

  -- ---- a node over all keys is the root

  within_at : (a b v : ℕ) → a ≤ v → v < b → within a b v ≡ true
  within_at a b v h g = grind (arith, nat_tests)

  -- the node above one that is alive
  whole_above : (i v : ℕ) (n : NodeState) → v < now → slice_get nodes i ≡ Some n → within n.born n.died v ≡ true → n.low ≡ 0 → n.high ≡ top → n.level + 1 < height_of roots v → ⊥
  whole_above i v n h at alive low high below =
      let tiles = tree.forest.tiles (n.level + 1) 0 v (omega arith) h in
      let t : nat_lt (n.level + 1) (height_of roots v) ≡ true = grind (arith, nat_tests) in
      let m = some_passes (at_point (n.level + 1) 0 v) nodes (let one = tiles ∙ ap tally t in omega (arith, one)) in
      let parts = point m.element.level (n.level + 1) _ (nat_eq m.element.level (n.level + 1)) refl m.passes in
      let up : m.element.level ≡ n.level + 1 = parts.0 in
      let held = parts.1 in
      let lives = region m.element.low m.element.high 0 _ (within m.element.low m.element.high 0) refl held in
      let one = tiled_at m.place 0 v m.element m.stands (omega arith) held in
      let f = some_passes (covers 0 v) m.element.entries (omega (arith, one)) in
      let r = region f.element.low f.element.high 0 _ (within f.element.low f.element.high 0) refl f.passes in
      let c = child_at m.place f.place v m.element f.element m.stands (omega arith) lives.2 f.stands r.2 in
      let c1 = c.level in
      let c2 = c.low in
      let c3 = c.high in
      let mine : holds 0 v n ≡ true = rw (within_at n.low n.high 0 (omega arith) (omega arith), alive) refl in
      let its : holds 0 v c.child ≡ true = (let a = r.0 in let b = r.1 in rw (within_at c.child.low c.child.high 0 (omega arith) (omega arith), c.alive) refl) in
      let same_place : i ≡ f.element.child = unique (height_of roots) nodes i f.element.child n c.child 0 v tree.forest.tiles (lit< tt) h at c.stands (level_below n.level c.child.level m.element.level c.level up) mine its in
      let same = one_node nodes i f.element.child c.child n same_place c.stands at in
      let l : f.element.low ≡ 0 = sym c.low ∙ ap (λ (x : NodeState). x.low) same ∙ low in
      let u : f.element.high ≡ top = sym c.high ∙ ap (λ (x : NodeState). x.high) same ∙ high in
      let node = each m.place m.element m.stands in
      let w = node.high in
      absurd (part (narrower_at version (lives_of nodes) (height_of roots) nodes v tree.forest tree.filled m.place m.element m.stands lives.2 (omega arith) f.place f.element f.stands r.2) l u w)
    where
      part : {a b c d : ℕ} → (a < b) ⊎ (c < d) → b ≡ 0 → c ≡ top → d ≤ top → ⊥
      part (inl x) e f g = omega arith
      part (inr x) e f g = omega arith

      point : (a b : ℕ) (w x : Bool) → nat_eq a b ≡ x → (x && w) ≡ true → (a ≡ b) × (w ≡ true)
      point a b w true s t = (grind (arith, nat_tests), t)
      point a b w false s t = cc

      region : (a b k : ℕ) (w x : Bool) → within a b k ≡ x → (x && w) ≡ true → (a ≤ k) × (k < b) × (w ≡ true)
      region a b k w true s t = (grind (arith, nat_tests), grind (arith, nat_tests), t)
      region a b k w false s t = cc

  whole_is_root : (i v : ℕ) (n : NodeState) → v < now → slice_get nodes i ≡ Some n → within n.born n.died v ≡ true → n.low ≡ 0 → n.high ≡ top → i ≡ (root_of roots v).node
  whole_is_root i v n h at alive low high =
      let root = tree.rooted.stand v h in
      let mine : holds 0 v n ≡ true = rw (within_at n.low n.high 0 (omega arith) (omega arith), alive) refl in
      let here : at_point n.level 0 v n ≡ true = (let z : nat_eq n.level n.level ≡ true = grind (arith, nat_tests) in rw (z, mine) refl) in
      let some = one_passes (at_point n.level 0 v) nodes i n at here in
      let tiles = tree.forest.tiles n.level 0 v (omega arith) h in
      let below : n.level < height_of roots v = positive (nat_lt n.level (height_of roots v)) refl (omega (arith, some, tiles)) in
      let l = root.level in
      split (nat_lt (n.level + 1) (height_of roots v)) refl below
    where
      positive : {a b : ℕ} (x : Bool) → nat_lt a b ≡ x → 1 ≤ tally x → a < b
      positive true s t = grind (arith, nat_tests)
      positive false s t = absurd (omega arith)

      split : (x : Bool) → nat_lt (n.level + 1) (height_of roots v) ≡ x → n.level < height_of roots v → i ≡ (root_of roots v).node
      split true s below = absurd (whole_above i v n h at alive low high (grind (arith, nat_tests)))
      split false s below =
          let root = tree.rooted.stand v h in
          let l = root.level in
          let r1 = root.low in
          let r2 = root.high in
          let level : n.level ≡ root.node.level = grind (arith, nat_tests) in
          let mine : holds 0 v n ≡ true = rw (within_at n.low n.high 0 (omega arith) (omega arith), alive) refl in
          let its : holds 0 v root.node ≡ true = rw (within_at root.node.low root.node.high 0 (omega arith) (omega arith), within_at root.node.born root.node.died v root.born root.died) refl in
          unique (height_of roots) nodes i (root_of roots v).node n root.node 0 v tree.forest.tiles (omega arith) h at root.stands level mine its

  five_live : (i v : ℕ) (n : NodeState) → slice_get nodes i ≡ Some n → within n.born n.died v ≡ true → i ≢ (root_of roots v).node → 5 ≤ live_at v n
  five_live i v n at alive other = split (nat_lt 0 n.low) (nat_lt n.high top) refl refl
    where
      split : (a b : Bool) → nat_lt 0 n.low ≡ a → nat_lt n.high top ≡ b → 5 ≤ live_at v n
      split true b s t = ((all_at IsFilled nodes i n tree.filled at).enough v alive).lower (grind (arith, nat_tests))
      split false true s t = ((all_at IsFilled nodes i n tree.filled at).enough v alive).upper (grind (arith, nat_tests))
      split false false s t =
          let node = each i n at in
          let a = node.high in
          let e = node.ends in
          let d : v < n.died = grind (arith, nat_tests, alive) in
          absurd (other (whole_is_root i v n (omega arith) at alive (grind (arith, nat_tests)) (grind (arith, nat_tests))))

  pub tiling : IsTiling nodes roots
  tiling =
      record {
        one_region = one_region;
        lists = λ i k n e leaf. (listed_meets i k n e leaf, meets_listed i k n e leaf);
        born = born_is;
        dead = dead_is;
        enough = five_live;
        index = two_live;
        children = child_at;
        linked = tree.linked;
        tiled = tiled_at;
      }
