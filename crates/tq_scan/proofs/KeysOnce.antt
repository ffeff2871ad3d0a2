-- The keys that the leaves of a part report are exactly those that are found in it, each once.
use Rattle.std.proofs.Common.{◌≡◌, ◌≢◌, ℕ, ◌<◌, ◌≤◌, ◌⊎◌, inl, inr, Bool, true, false, cond, ◌&&◌, List, [], ◌∷◌, ap, refl, sym, ◌∙◌, subst, arith, count_by, slice_get, Some, None, nat_eq, nat_le, nat_lt, max}
use Rattle.std.specs.Prelude.{All}
use Rattle.std.proofs.lemmas.Bool.Decides.{nat_tests}
use Rattle.std.proofs.lemmas.List.Elements.{All-nil, All-head, All-tail, All-append}
use Rattle.std.proofs.lemmas.List.Sums.{sum_by-append}
use Rattle.tq_arena.specs.declared.arena.NodeNo.{NodeNo}
use Rattle.tq_mvbt.specs.declared.entry.Entry.{Entry}
use Rattle.tq_mvbt.specs.declared.root.Root.{Root}
use Rattle.tq_mvbt.specs.NodeState.{NodeState}
use Rattle.tq_mvbt.specs.Points.{now, within, covers, holds, end_of}
use Rattle.tq_mvbt.specs.Shape.{top, at_point, IsNode, IsRow, IsPlaced}
use Rattle.tq_mvbt.specs.TreeState.{lives_of, height_of, HasLife, IsTree}
use Rattle.tq_mvbt.specs.Tiling.{before_end, IsTiling}
use Rattle.tq_scan.specs.declared.window.Part.{Part}
use Rattle.tq_scan.specs.declared.window.Window.{Window}
use Rattle.tq_scan.specs.Windows.{IsInside, lies_in, whole_of}
use Rattle.tq_scan.specs.Scans.{FoundIn, IsMetLeaf, numbers}
use Rattle.tq_scan.specs.Lists.{ListsOnce}
use Rattle.tq_scan.specs.Reports.{is_reported, reported_keys, keys_at, keys_of}
use Rattle.tq_scan.proofs.Lists.{tally, count-cons, all_at, all_from_places, count_alike, count_map_filter, count_both, all_map_filter, two_pass, Passes, some_passes}

-- ---- tests

pub within_true : (a b v : ℕ) → a ≤ v → v < b → within a b v ≡ true
within_true a b v h g = grind (arith, nat_tests)

pub within_low : (a b v : ℕ) → within a b v ≡ true → a ≤ v
within_low a b v h = grind (arith, nat_tests)

pub within_high : (a b v : ℕ) → within a b v ≡ true → v < b
within_high a b v h = grind (arith, nat_tests)

pub and_first : (a b : Bool) → (a && b) ≡ true → a ≡ true
and_first true b h = refl
and_first false b h = h

pub and_second : (a b : Bool) → (a && b) ≡ true → b ≡ true
and_second true b h = h
and_second false b h = cc

pub and_both : (a b : Bool) → a ≡ true → b ≡ true → (a && b) ≡ true
and_both true b h g = g
and_both false b h g = h

-- a point that lies in a part
pub record Inside (p : Part) (k v : ℕ) : Type 0 where
  pub low : p.low ≤ k
  pub high : k < p.high
  pub first : p.first ≤ v
  pub last : v ≤ p.last

pub inside_of : (p : Part) (k v : ℕ) → lies_in p k v ≡ true → Inside p k v
inside_of p k v h =
    let a = and_first (nat_le p.low k && nat_lt k p.high) (nat_le p.first v && nat_le v p.last) h in
    let b = and_second (nat_le p.low k && nat_lt k p.high) (nat_le p.first v && nat_le v p.last) h in
    record { low = low p.low k p.high a; high = high p.low k p.high a; first = first p.first v p.last b; last = last p.first v p.last b }
  where
    low : (a b c : ℕ) → (nat_le a b && nat_lt b c) ≡ true → a ≤ b
    low a b c h = grind (arith, nat_tests)

    high : (a b c : ℕ) → (nat_le a b && nat_lt b c) ≡ true → b < c
    high a b c h = grind (arith, nat_tests)

    first : (a b c : ℕ) → (nat_le a b && nat_le b c) ≡ true → a ≤ b
    first a b c h = grind (arith, nat_tests)

    last : (a b c : ℕ) → (nat_le a b && nat_le b c) ≡ true → b ≤ c
    last a b c h = grind (arith, nat_tests)

pub lies_from : (p : Part) (k v : ℕ) → Inside p k v → lies_in p k v ≡ true
lies_from p k v i = and_both (nat_le p.low k && nat_lt k p.high) (nat_le p.first v && nat_le v p.last) (keys p.low k p.high i.low i.high) (versions p.first v p.last i.first i.last)
  where
    keys : (a b c : ℕ) → a ≤ b → b < c → (nat_le a b && nat_lt b c) ≡ true
    keys a b c h g = grind (arith, nat_tests)

    versions : (a b c : ℕ) → a ≤ b → b ≤ c → (nat_le a b && nat_le b c) ≡ true
    versions a b c h g = grind (arith, nat_tests)

-- a point that a node holds
pub record Held (n : NodeState) (k v : ℕ) : Type 0 where
  pub low : n.low ≤ k
  pub high : k < n.high
  pub born : n.born ≤ v
  pub died : v < n.died

pub held_of : (n : NodeState) (k v : ℕ) → holds k v n ≡ true → Held n k v
held_of n k v h =
    let a = and_first (within n.low n.high k) (within n.born n.died v) h in
    let b = and_second (within n.low n.high k) (within n.born n.died v) h in
    record { low = within_low n.low n.high k a; high = within_high n.low n.high k a; born = within_low n.born n.died v b; died = within_high n.born n.died v b }

pub holds_from : (n : NodeState) (k v : ℕ) → Held n k v → holds k v n ≡ true
holds_from n k v h = and_both (within n.low n.high k) (within n.born n.died v) (within_true n.low n.high k h.low h.high) (within_true n.born n.died v h.born h.died)

-- a version before the end of a life
pub ends_alike : (v d : ℕ) → v < now → before_end v (end_of d) ≡ nat_lt v d
ends_alike v d h = split (nat_eq d now) refl
  where
    split : (b : Bool) → nat_eq d now ≡ b → before_end v (cond b None (Some d)) ≡ nat_lt v d
    split true s = let e : nat_lt v d ≡ true = grind (arith, nat_tests) in sym e
    split false s = refl

-- two tests that imply each other are equal
pub both_ways : (a b : Bool) → (a ≡ true → b ≡ true) → (b ≡ true → a ≡ true) → a ≡ b
both_ways true true f g = refl
both_ways true false f g = sym (f refl)
both_ways false true f g = g refl
both_ways false false f g = refl

-- an entry whose key is reported
pub record Reports (w : Window) (p : Part) (n : NodeState) (e : Entry) : Type 0 where
  pub inside : Inside p e.low (max e.born w.first)
  pub born : n.born ≤ max e.born w.first
  pub died : max e.born w.first < n.died
  pub dead : max e.born w.first < e.dead

module _ (w : Window) (p : Part) (n : NodeState) (small : p.last < now) where
  pub reports_of : (e : Entry) → is_reported w p n e ≡ true → Reports w p n e
  reports_of e h =
      let r : ℕ = max e.born w.first in
      let a = and_first (lies_in p e.low (max e.born w.first)) (nat_le n.born (max e.born w.first) && (before_end (max e.born w.first) (end_of n.died) && before_end (max e.born w.first) (end_of e.dead))) h in
      let b = and_second (lies_in p e.low (max e.born w.first)) (nat_le n.born (max e.born w.first) && (before_end (max e.born w.first) (end_of n.died) && before_end (max e.born w.first) (end_of e.dead))) h in
      let b1 = and_first (nat_le n.born (max e.born w.first)) (before_end (max e.born w.first) (end_of n.died) && before_end (max e.born w.first) (end_of e.dead)) b in
      let b2 = and_second (nat_le n.born (max e.born w.first)) (before_end (max e.born w.first) (end_of n.died) && before_end (max e.born w.first) (end_of e.dead)) b in
      let c1 = and_first (before_end (max e.born w.first) (end_of n.died)) (before_end (max e.born w.first) (end_of e.dead)) b2 in
      let c2 = and_second (before_end (max e.born w.first) (end_of n.died)) (before_end (max e.born w.first) (end_of e.dead)) b2 in
      let i = inside_of p e.low (max e.born w.first) a in
      let l = i.last in
      let rn : max e.born w.first < now = omega arith in
      record {
        inside = i;
        born = le n.born (max e.born w.first) b1;
        died = lt (max e.born w.first) n.died (sym (ends_alike (max e.born w.first) n.died rn) ∙ c1);
        dead = lt (max e.born w.first) e.dead (sym (ends_alike (max e.born w.first) e.dead rn) ∙ c2);
      }
    where
      le : (a b : ℕ) → nat_le a b ≡ true → a ≤ b
      le a b h = grind (arith, nat_tests)

      lt : (a b : ℕ) → nat_lt a b ≡ true → a < b
      lt a b h = grind (arith, nat_tests)

  pub reported_from : (e : Entry) → Reports w p n e → is_reported w p n e ≡ true
  reported_from e r =
      let l = r.inside.last in
      let rn : max e.born w.first < now = omega arith in
      and_both (lies_in p e.low (max e.born w.first)) (nat_le n.born (max e.born w.first) && (before_end (max e.born w.first) (end_of n.died) && before_end (max e.born w.first) (end_of e.dead)))
      (lies_from p e.low (max e.born w.first) r.inside)
      (and_both (nat_le n.born (max e.born w.first)) (before_end (max e.born w.first) (end_of n.died) && before_end (max e.born w.first) (end_of e.dead))
      (le n.born (max e.born w.first) r.born)
      (and_both (before_end (max e.born w.first) (end_of n.died)) (before_end (max e.born w.first) (end_of e.dead))
      (ends_alike (max e.born w.first) n.died rn ∙ lt (max e.born w.first) n.died r.died)
      (ends_alike (max e.born w.first) e.dead rn ∙ lt (max e.born w.first) e.dead r.dead)))
    where
      le : (a b : ℕ) → a ≤ b → nat_le a b ≡ true
      le a b h = grind (arith, nat_tests)

      lt : (a b : ℕ) → a < b → nat_lt a b ≡ true
      lt a b h = grind (arith, nat_tests)

-- ---- the tree

module _ (version : ℕ) (nodes : List NodeState) (roots : List Root) (tree : IsTree version nodes roots) (tiling : IsTiling nodes roots) where
  pub each : (i : ℕ) (n : NodeState) → slice_get nodes i ≡ Some n → IsNode version (lives_of nodes) nodes n
  each i n e = all_at (IsNode version (lives_of nodes) nodes) nodes i n tree.forest.each e

  tall : (v : ℕ) → v < now → tally (nat_lt 0 (height_of roots v)) ≡ 1
  tall v h =
      let at = tree.rooted.stand v h in
      let l = at.level in
      let t : nat_lt 0 (height_of roots v) ≡ true = grind (arith, nat_tests) in
      ap tally t

  -- one leaf holds a point
  pub one_leaf : (k v : ℕ) → k < top → v < now → count_by (at_point 0 k v) nodes ≡ 1
  one_leaf k v kt vt = tree.forest.tiles 0 k v kt vt ∙ tall v vt

  pub leaf_at : (n : NodeState) (k v : ℕ) → n.level ≡ 0 → holds k v n ≡ true → at_point 0 k v n ≡ true
  leaf_at n k v l h = and_both (nat_eq n.level 0) (holds k v n) (grind (arith, nat_tests)) h

  pub at_leaf : (n : NodeState) (k v : ℕ) → at_point 0 k v n ≡ true → n.level ≡ 0
  at_leaf n k v h = (let a = and_first (nat_eq n.level 0) (holds k v n) h in grind (arith, nat_tests))

  pub unique : (i j : ℕ) (m n : NodeState) (k v : ℕ) → k < top → v < now → slice_get nodes i ≡ Some m → slice_get nodes j ≡ Some n → m.level ≡ 0 → n.level ≡ 0 → holds k v m ≡ true → holds k v n ≡ true → i ≡ j
  unique i j m n k v kt vt e f l l' a b = split (nat_eq i j) refl
    where
      split : (x : Bool) → nat_eq i j ≡ x → i ≡ j
      split true s = grind (arith, nat_tests)
      split false s =
          let differ : i ≢ j = grind (arith, nat_tests) in
          absurd (omega (arith, one_leaf k v kt vt, two_pass (at_point 0 k v) nodes i j m n differ e f (leaf_at m k v l a) (leaf_at n k v l' b)))

  module _ (w : Window) (p : Part) (inside : IsInside w p) where
    pub small : p.last < now
    small = (let a = inside.last in let b = w.in_versions in omega arith)

    pub keys_small : (k : ℕ) → k < p.high → k < top
    keys_small k h = (let a = inside.high in let b = w.in_keys in omega arith)

    -- a leaf reports a key exactly if it holds the key's reference point
    module _ (k born dead : ℕ) (life : HasLife nodes k born dead) (lies : lies_in p k (max born w.first) ≡ true) (lasts : max born w.first < dead) where
      abbrev r : ℕ
      r = max born w.first

      there : Inside p k r
      there = inside_of p k r lies

      r_small : r < now
      r_small = (let a = there.last in let b = small in omega arith)

      reports_alike : (i j : ℕ) (n : NodeState) (e : Entry) → slice_get nodes i ≡ Some n → n.level ≡ 0 → slice_get n.entries j ≡ Some e → (nat_eq k e.low && is_reported w p n e) ≡ (holds k r n && covers k r e)
      reports_alike i j n e at leaf stands = both_ways (nat_eq k e.low && is_reported w p n e) (holds k r n && covers k r e) onward back
        where
          node : IsNode version (lives_of nodes) nodes n
          node = each i n at

          placed : IsPlaced version n e
          placed = all_at (IsPlaced version n) n.entries j e node.placed stands

          row : IsRow (lives_of nodes) n e
          row = all_at (IsRow (lives_of nodes) n) n.entries j e (node.rows leaf) stands

          born_is : k ≡ e.low → e.born ≡ born
          born_is s = tiling.born i j n e born dead at leaf stands (subst (λ x. HasLife nodes x born dead) s life)

          onward : (nat_eq k e.low && is_reported w p n e) ≡ true → (holds k r n && covers k r e) ≡ true
          onward h =
              let t = and_first (nat_eq k e.low) (is_reported w p n e) h in
              let key : k ≡ e.low = grind (arith, nat_tests) in
              let f = reports_of w p n small e (and_second (nat_eq k e.low) (is_reported w p n e) h) in
              let b = born_is key in
              let a1 = placed.low in let a2 = placed.wide in let a3 = placed.high in
              let b1 = f.born in let b2 = f.died in let b3 = f.dead in
              and_both (holds k r n) (covers k r e)
              (holds_from n k r (record { low = omega arith; high = omega arith; born = omega arith; died = omega arith }))
              (and_both (within e.low e.high k) (within e.born e.dead r) (within_true e.low e.high k (omega arith) (omega arith)) (within_true e.born e.dead r (omega arith) (omega arith)))

          back : (holds k r n && covers k r e) ≡ true → (nat_eq k e.low && is_reported w p n e) ≡ true
          back h =
              let held = held_of n k r (and_first (holds k r n) (covers k r e) h) in
              let c = and_second (holds k r n) (covers k r e) h in
              let c1 = and_first (within e.low e.high k) (within e.born e.dead r) c in
              let c2 = and_second (within e.low e.high k) (within e.born e.dead r) c in
              let x1 = within_low e.low e.high k c1 in
              let x2 = within_high e.low e.high k c1 in
              let x3 = within_high e.born e.dead r c2 in
              let one = row.one_key in
              let key : k ≡ e.low = omega arith in
              let b = born_is key in
              let same : r ≡ max e.born w.first = ap (λ x. max x w.first) (sym b) in
              let h1 = held.born in let h2 = held.died in
              let t : nat_eq k e.low ≡ true = grind (arith, nat_tests) in
              and_both (nat_eq k e.low) (is_reported w p n e) t
              (reported_from w p n small e (record {
                inside = subst (λ x. Inside p e.low x) same (subst (λ x. Inside p x r) key there);
                born = omega arith;
                died = omega arith;
                dead = omega arith;
              }))

      lives_there : lives_of nodes k r ≡ true
      lives_there = life.lives r r_small ∙ within_true born dead r (omega arith) lasts

      -- the number of times that a leaf reports the key
      reported_count : (i : ℕ) (n : NodeState) → slice_get nodes i ≡ Some n → n.level ≡ 0 → count_by (nat_eq k) (reported_keys w p n) ≡ tally (holds k r n)
      reported_count i n at leaf =
          count_map_filter (nat_eq k) (λ (e : Entry). e.low) (is_reported w p n) n.entries
          ∙ count_alike (λ e. nat_eq k e.low && is_reported w p n e) (λ e. holds k r n && covers k r e) n.entries (all_from_places (λ (e : Entry). (nat_eq k e.low && is_reported w p n e) ≡ (holds k r n && covers k r e)) n.entries (λ j e s. reports_alike i j n e at leaf s))
          ∙ count_both (holds k r n) (covers k r) n.entries
          ∙ split (holds k r n) refl
        where
          split : (b : Bool) → holds k r n ≡ b → cond b (count_by (covers k r) n.entries) 0 ≡ tally b
          split false s = refl
          split true s =
              let z : nat_eq n.level 0 ≡ true = grind (arith, nat_tests) in
              (each i n at).lists k r s ∙ ap (λ b. cond b (tally (lives_of nodes k r)) 1) z ∙ ap tally lives_there

      -- the leaf that holds the reference point
      home : Passes (at_point 0 k r) nodes
      home = some_passes (at_point 0 k r) nodes (let one = one_leaf k r (keys_small k there.high) r_small in omega arith)

      home_holds : holds k r home.element ≡ true
      home_holds = and_second (nat_eq home.element.level 0) (holds k r home.element) home.passes

      home_leaf : home.element.level ≡ 0
      home_leaf = at_leaf home.element k r home.passes

      home_met : IsMetLeaf nodes p home.place
      home_met = record { node = home.element; stands = home.stands; leaf = home_leaf; key = k; version = r; held = home_holds; inside = lies }

      at_home : (a : NodeNo) → IsMetLeaf nodes p a.0 → count_by (nat_eq k) (keys_at w p (slice_get nodes a.0)) ≡ tally (nat_eq home.place a.0)
      at_home a met =
          ap (λ o. count_by (nat_eq k) (keys_at w p o)) met.stands
          ∙ reported_count a.0 met.node met.stands met.leaf
          ∙ ap tally (both_ways (holds k r met.node) (nat_eq home.place a.0) onward back)
        where
          onward : holds k r met.node ≡ true → nat_eq home.place a.0 ≡ true
          onward h =
              let same = unique home.place a.0 home.element met.node k r (keys_small k there.high) r_small home.stands met.stands home_leaf met.leaf home_holds h in
              grind (arith, nat_tests)

          back : nat_eq home.place a.0 ≡ true → holds k r met.node ≡ true
          back h =
              let same : home.place ≡ a.0 = grind (arith, nat_tests) in
              let e : slice_get nodes a.0 ≡ Some home.element = subst (λ x. slice_get nodes x ≡ Some home.element) same home.stands in
              let f = met.stands in
              let node : home.element ≡ met.node = cc in
              subst (λ n. holds k r n ≡ true) node home_holds

      counted : (leaves : List NodeNo) → All (IsMetLeaf nodes p) (numbers leaves) → count_by (nat_eq k) (keys_of w p nodes leaves) ≡ count_by (nat_eq home.place) (numbers leaves)
      counted [] a = refl
      counted (x ∷ xs) a =
          let here = at_home x (All-head (IsMetLeaf nodes p) x.0 (numbers xs) a) in
          let rest = counted xs (All-tail (IsMetLeaf nodes p) x.0 (numbers xs) a) in
          omega (arith, here, rest, sum_by-append (λ y. tally (nat_eq k y)) (keys_at w p (slice_get nodes x.0)) (keys_of w p nodes xs), count-cons (nat_eq home.place) x.0 (numbers xs))

    -- each key that is found is reported once
    found_once : (leaves : List NodeNo) → ListsOnce (IsMetLeaf nodes p) (numbers leaves) → (k : ℕ) → FoundIn nodes w p k → count_by (nat_eq k) (keys_of w p nodes leaves) ≡ 1
    found_once leaves met k f =
        let i = inside_of (whole_of w) k f.version f.in_window in
        let a = i.first in
        let b = within_low f.born f.dead f.version f.alive in
        let c = within_high f.born f.dead f.version f.alive in
        let lasts : max f.born w.first < f.dead = omega arith in
        counted k f.born f.dead f.life f.reference lasts leaves met.all ∙ met.once _ (home_met k f.born f.dead f.life f.reference lasts)

    -- a reported key is found
    reported_found : (i j : ℕ) (n : NodeState) (e : Entry) → slice_get nodes i ≡ Some n → n.level ≡ 0 → slice_get n.entries j ≡ Some e → is_reported w p n e ≡ true → FoundIn nodes w p e.low
    reported_found i j n e at leaf stands h =
        let f = reports_of w p n small e h in
        let node = each i n at in
        let row = all_at (IsRow (lives_of nodes) n) n.entries j e (node.rows leaf) stands in
        let r : ℕ = max e.born w.first in
        let l = tree.lives.each e.low (keys_small e.low f.inside.high) in
        let b2 = f.died in let b3 = f.dead in let i1 = f.inside.low in let i2 = f.inside.high in let i3 = f.inside.first in let i4 = f.inside.last in
        let x1 = inside.low in let x2 = inside.high in let x3 = inside.first in let x4 = inside.last in
        let rs : r < now = (let s = small in omega arith) in
        let alive : within l.born l.dead r ≡ true = sym (l.lives_at r rs) ∙ row.life r b2 ∙ within_true e.born e.dead r (omega arith) b3 in
        let y1 = within_low l.born l.dead r alive in
        let y2 = within_high l.born l.dead r alive in
        let life : HasLife nodes e.low l.born l.dead = record { lived = omega arith; ends = ends l.dead l.ends; lives = l.lives_at } in
        let same = tiling.born i j n e l.born l.dead at leaf stands life in
        record {
          born = l.born;
          dead = l.dead;
          life = life;
          version = r;
          in_window = lies_from (whole_of w) e.low r (record { low = omega arith; high = omega arith; first = omega arith; last = omega arith });
          alive = alive;
          reference = subst (λ x. lies_in p e.low (max x w.first) ≡ true) same (lies_from p e.low r f.inside);
        }
      where
        ends : (d : ℕ) → (d ≡ now) ⊎ (d ≤ version) → d ≤ now
        ends d (inl h) = omega arith
        ends d (inr h) = (let s = tree.small in omega arith)

    all_found : (leaves : List NodeNo) → All (IsMetLeaf nodes p) (numbers leaves) → All (FoundIn nodes w p) (keys_of w p nodes leaves)
    all_found [] a = All-nil (FoundIn nodes w p)
    all_found (x ∷ xs) a =
        let met = All-head (IsMetLeaf nodes p) x.0 (numbers xs) a in
        let here : All (FoundIn nodes w p) (reported_keys w p met.node) = all_map_filter (FoundIn nodes w p) (λ (e : Entry). e.low) (is_reported w p met.node) met.node.entries (λ j e s h. reported_found x.0 j met.node e met.stands met.leaf s h) in
        All-append (FoundIn nodes w p) (keys_at w p (slice_get nodes x.0)) (keys_of w p nodes xs)
        (subst (λ o. All (FoundIn nodes w p) (keys_at w p o)) (sym met.stands) here)
        (all_found xs (All-tail (IsMetLeaf nodes p) x.0 (numbers xs) a))

    -- the leaves of the part report each key that is found once, and no other
    pub keys_once : (leaves : List NodeNo) → ListsOnce (IsMetLeaf nodes p) (numbers leaves) → ListsOnce (FoundIn nodes w p) (keys_of w p nodes leaves)
    keys_once leaves met = record { all = all_found leaves met.all; once = found_once leaves met }
