-- Nodes of one level end at a version: their properties, and which points are lost.
use Rattle.std.proofs.Common.{◌≡◌, ◌≢◌, ℕ, ◌+◌, ◌-◌, ◌<◌, ◌≤◌, ◌⊎◌, inl, inr, List, Bool, true, false, ◌&&◌, ◌||◌, length, get_or, set, ap, refl, sym, ◌∙◌, subst, arith, count_by, nat_lt, nat_eq, slice_get, Some, take, drop, length-set}
use Rattle.std.specs.Prelude.{All}
use Rattle.std.proofs.lemmas.Bool.Decides.{nat_tests}
use Rattle.std.proofs.lemmas.Option.{get_or_from_slice_get, slice_get_within}
use Rattle.std.proofs.lemmas.List.Sums.{sum_by-set}
use Rattle.tq_mvbt.specs.NodeState.{NodeState}
use Rattle.tq_mvbt.specs.Points.{now, within, holds}
use Rattle.tq_mvbt.specs.Shape.{top, tally, at_point, Tiles}
use Rattle.tq_mvbt.specs.Steps.{retired}
use Rattle.tq_mvbt.proofs.Places.{at_set_same, at_set_other, two_pass}
use Rattle.tq_mvbt.proofs.Losses.{node_ends}

-- a point lies in exactly one node of a level
pub unique : (height : ℕ → ℕ) (nodes : List NodeState) (i j : ℕ) (m n : NodeState) (k v : ℕ) → Tiles height nodes → k < top → v < now → slice_get nodes i ≡ Some m → slice_get nodes j ≡ Some n → m.level ≡ n.level → holds k v m ≡ true → holds k v n ≡ true → i ≡ j
unique height nodes i j m n k v tiles kt vt e f l a b = split (nat_eq i j) refl
  where
    at_most : (x : Bool) → tally x ≤ 1
    at_most true = omega arith
    at_most false = omega arith

    split : (x : Bool) → nat_eq i j ≡ x → i ≡ j
    split true s = grind (arith, nat_tests)
    split false s =
        let differ : i ≢ j = grind (arith, nat_tests) in
        let first : at_point n.level k v m ≡ true = rw l (let same : nat_eq n.level n.level ≡ true = grind (arith, nat_tests) in rw (same, a) refl) in
        let second : at_point n.level k v n ≡ true = (let same : nat_eq n.level n.level ≡ true = grind (arith, nat_tests) in rw (same, b) refl) in
        absurd (omega (arith, two_pass (at_point n.level k v) nodes i j m n differ e f first second, tiles n.level k v kt vt, at_most (nat_lt n.level (height v))))

-- a current node of the level that lies in the range and is from before the version
pub record IsEnded (version level low high : ℕ) (n : NodeState) : Type 0 where
  pub at_level : n.level ≡ level
  pub died : n.died ≡ now
  pub born : n.born < version
  pub above : low ≤ n.low
  pub below : n.high ≤ high

-- the node, ended, without its entries that began at the version
pub record HasGone (version : ℕ) (mid : List NodeState) (i : ℕ) (n : NodeState) : Type 0 where
  pub last : ℕ
  pub stands : slice_get mid i ≡ Some (retired version last n)
  pub old : All (λ e. e.born < version) (take (length n.entries - last) n.entries)
  pub young : All (λ e. version ≤ e.born) (drop (length n.entries - last) n.entries)

-- exactly the nodes of the level over the range's keys ended
pub record IsEnding (version level low high : ℕ) (old mid : List NodeState) (ended : ℕ → Bool) : Type 0 where
  pub long : length mid ≡ length old
  pub inside : (i : ℕ) (n : NodeState) → slice_get old i ≡ Some n → ended i ≡ true → IsEnded version level low high n
  pub whole : (i : ℕ) (n : NodeState) (k : ℕ) → slice_get old i ≡ Some n → n.level ≡ level → n.died ≡ now → n.low ≤ k → k < n.high → low ≤ k → k < high → ended i ≡ true
  pub kept : (i : ℕ) (n : NodeState) → slice_get old i ≡ Some n → ended i ≡ false → slice_get mid i ≡ Some n
  pub gone : (i : ℕ) (n : NodeState) → slice_get old i ≡ Some n → ended i ≡ true → HasGone version mid i n
  pub points : (l k v : ℕ) → v < now → count_by (at_point l k v) mid + tally (nat_eq level l && (within low high k && within version now v)) ≡ count_by (at_point l k v) old

-- one node of a list ends
pub list_retired : (l k v version last : ℕ) (nodes : List NodeState) (i : ℕ) (n : NodeState) → slice_get nodes i ≡ Some n → n.died ≡ now → n.born ≤ version → v < now → count_by (at_point l k v) (set nodes i (retired version last n)) + tally (nat_eq n.level l && (within n.low n.high k && within version now v)) ≡ count_by (at_point l k v) nodes
list_retired l k v version last nodes i n e d b h =
    let change = sum_by-set (λ m. tally (at_point l k v m)) nodes i (retired version last n) n (slice_get_within nodes i n e) in
    let same : tally (at_point l k v (get_or nodes i n)) ≡ tally (at_point l k v n) = ap (λ m. tally (at_point l k v m)) (get_or_from_slice_get nodes i n n e) in
    omega (arith, change, same, node_ends l k v version n d b h)

-- one node ends
pub ends_one : (height : ℕ → ℕ) (version level last : ℕ) (nodes : List NodeState) (i : ℕ) (n : NodeState) → Tiles height nodes → version < now → ((j : ℕ) (m : NodeState) → slice_get nodes j ≡ Some m → m.born ≤ version) → slice_get nodes i ≡ Some n → n.level ≡ level → n.died ≡ now → n.born < version → n.high ≤ top
    → All (λ e. e.born < version) (take (length n.entries - last) n.entries) → All (λ e. version ≤ e.born) (drop (length n.entries - last) n.entries)
    → IsEnding version level n.low n.high nodes (set nodes i (retired version last n)) (nat_eq i)
ends_one height version level last nodes i n tiles small born e l d b t old young =
    record {
      long = length-set nodes i (retired version last n);
      inside = λ j m f s.
          let at : i ≡ j = grind (arith, nat_tests) in
          let same : n ≡ m = is_one j m f at in
          subst (λ (x : NodeState). IsEnded version level n.low n.high x) same (record { at_level = l; died = d; born = b; above = omega arith; below = omega arith });
      whole = λ j m k f lm dm a1 a2 b1 b2.
          let bm = born j m f in
          let at : i ≡ j = unique height nodes i j n m k version tiles (omega arith) small e f (l ∙ sym lm) (grind (arith, nat_tests)) (grind (arith, nat_tests)) in
          grind (arith, nat_tests);
      kept = λ j m f s. let differ : i ≢ j = grind (arith, nat_tests) in at_set_other nodes i j (retired version last n) differ ∙ f;
      gone = λ j m f s.
          let at : i ≡ j = grind (arith, nat_tests) in
          let same : n ≡ m = is_one j m f at in
          subst (λ (x : NodeState). HasGone version (set nodes i (retired version last n)) j x) same
          (record {
            last = last;
            stands = subst (λ x. slice_get (set nodes i (retired version last n)) x ≡ Some (retired version last n)) at (at_set_same nodes i (retired version last n) (slice_get_within nodes i n e));
            old = old;
            young = young;
          });
      points = λ m k v h. subst (λ x. count_by (at_point m k v) (set nodes i (retired version last n)) + tally (nat_eq x m && (within n.low n.high k && within version now v)) ≡ count_by (at_point m k v) nodes) l (list_retired m k v version last nodes i n e d (omega arith) h);
    }
  where
    is_one : (j : ℕ) (m : NodeState) → slice_get nodes j ≡ Some m → i ≡ j → n ≡ m
    is_one j m f at = let g : slice_get nodes j ≡ Some n = subst (λ x. slice_get nodes x ≡ Some n) at e in cc

-- two adjacent nodes end
module _ (height : ℕ → ℕ) (version level low high last : ℕ) (nodes : List NodeState) (i j : ℕ) (n m : NodeState)
    (tiles : Tiles height nodes) (small : version < now)
    (born : (x : ℕ) (c : NodeState) → slice_get nodes x ≡ Some c → c.born ≤ version)
    (e : slice_get nodes i ≡ Some n) (l : n.level ≡ level) (d : n.died ≡ now) (b : n.born < version)
    (f : slice_get nodes j ≡ Some m) (l' : m.level ≡ level) (d' : m.died ≡ now) (b' : m.born < version)
    (differ : i ≢ j) (keys : high ≤ top)
    (a1 : low ≤ n.low) (a2 : n.high ≤ high) (a3 : low ≤ m.low) (a4 : m.high ≤ high)
    (sides : (k : ℕ) → tally (within low high k) ≡ tally (within n.low n.high k) + tally (within m.low m.high k))
    (old : All (λ e. e.born < version) (take (length n.entries - last) n.entries))
    (young : All (λ e. version ≤ e.born) (drop (length n.entries - last) n.entries))
    (old' : All (λ e. e.born < version) (take (length m.entries - 0) m.entries))
    (young' : All (λ e. version ≤ e.born) (drop (length m.entries - 0) m.entries))
  where
    abbrev pub both : ℕ → Bool
    both x = nat_eq i x || nat_eq j x

    abbrev first_list : List NodeState
    first_list = set nodes i (retired version last n)

    abbrev pub both_list : List NodeState
    both_list = set first_list j (retired version 0 m)

    m_there : slice_get first_list j ≡ Some m
    m_there = at_set_other nodes i j (retired version last n) differ ∙ f

    n_gone : slice_get both_list i ≡ Some (retired version last n)
    n_gone = at_set_other first_list j i (retired version 0 m) (λ s. differ (sym s)) ∙ at_set_same nodes i (retired version last n) (slice_get_within nodes i n e)

    m_gone : slice_get both_list j ≡ Some (retired version 0 m)
    m_gone = at_set_same first_list j (retired version 0 m) (slice_get_within first_list j m m_there)

    which : (x : ℕ) (c : NodeState) → slice_get nodes x ≡ Some c → both x ≡ true → ((i ≡ x) × (n ≡ c)) ⊎ ((j ≡ x) × (m ≡ c))
    which x c g s = split (nat_eq i x) (nat_eq j x) refl refl s
      where
        split : (p q : Bool) → nat_eq i x ≡ p → nat_eq j x ≡ q → (p || q) ≡ true → ((i ≡ x) × (n ≡ c)) ⊎ ((j ≡ x) × (m ≡ c))
        split true q t u r =
            let at : i ≡ x = grind (arith, nat_tests) in
            let h : slice_get nodes x ≡ Some n = subst (λ y. slice_get nodes y ≡ Some n) at e in
            inl (at, cc)
        split false true t u r =
            let at : j ≡ x = grind (arith, nat_tests) in
            let h : slice_get nodes x ≡ Some m = subst (λ y. slice_get nodes y ≡ Some m) at f in
            inr (at, cc)
        split false false t u r = cc

    neither : (x : ℕ) → both x ≡ false → (i ≢ x) × (j ≢ x)
    neither x s = split (nat_eq i x) (nat_eq j x) refl refl s
      where
        split : (p q : Bool) → nat_eq i x ≡ p → nat_eq j x ≡ q → (p || q) ≡ false → (i ≢ x) × (j ≢ x)
        split true q t u r = cc
        split false true t u r = cc
        split false false t u r = (grind (arith, nat_tests), grind (arith, nat_tests))

    is_both : (x : ℕ) → (i ≡ x) ⊎ (j ≡ x) → both x ≡ true
    is_both x (inl t) = let s : nat_eq i x ≡ true = grind (arith, nat_tests) in rw s refl
    is_both x (inr t) = let s : nat_eq j x ≡ true = grind (arith, nat_tests) in split (nat_eq i x) s
      where
        split : (p : Bool) → nat_eq j x ≡ true → (p || nat_eq j x) ≡ true
        split true s = refl
        split false s = s

    pub ends_two : IsEnding version level low high nodes both_list both
    ends_two =
        record {
          long = length-set first_list j (retired version 0 m) ∙ length-set nodes i (retired version last n);
          inside = λ x c g s. in_range x c (which x c g s);
          whole = λ x c k g lc dc c1 c2 c3 c4. is_both x (found x c k g lc dc c1 c2 (within n.low n.high k) (within m.low m.high k) refl refl (let w : within low high k ≡ true = grind (arith, nat_tests) in sym (sides k) ∙ ap tally w));
          kept = λ x c g s. let o = neither x s in at_set_other first_list j x (retired version 0 m) o.1 ∙ at_set_other nodes i x (retired version last n) o.0 ∙ g;
          gone = λ x c g s. is_gone x c (which x c g s);
          points = λ p k v h.
              let one = list_retired p k v version last nodes i n e d (omega arith) h in
              let two = list_retired p k v version 0 first_list j m m_there d' (omega arith) h in
              counted p k v one two;
        }
      where
        in_range : (x : ℕ) (c : NodeState) → ((i ≡ x) × (n ≡ c)) ⊎ ((j ≡ x) × (m ≡ c)) → IsEnded version level low high c
        in_range x c (inl t) = subst (λ (y : NodeState). IsEnded version level low high y) t.1 (record { at_level = l; died = d; born = b; above = a1; below = a2 })
        in_range x c (inr t) = subst (λ (y : NodeState). IsEnded version level low high y) t.1 (record { at_level = l'; died = d'; born = b'; above = a3; below = a4 })

        is_gone : (x : ℕ) (c : NodeState) → ((i ≡ x) × (n ≡ c)) ⊎ ((j ≡ x) × (m ≡ c)) → HasGone version both_list x c
        is_gone x c (inl t) = subst (λ (y : NodeState). HasGone version both_list x y) t.1 (subst (λ y. HasGone version both_list y n) t.0 (record { last = last; stands = n_gone; old = old; young = young }))
        is_gone x c (inr t) = subst (λ (y : NodeState). HasGone version both_list x y) t.1 (subst (λ y. HasGone version both_list y m) t.0 (record { last = 0; stands = m_gone; old = old'; young = young' }))

        found : (x : ℕ) (c : NodeState) (k : ℕ) → slice_get nodes x ≡ Some c → c.level ≡ level → c.died ≡ now → c.low ≤ k → k < c.high → (p q : Bool) → within n.low n.high k ≡ p → within m.low m.high k ≡ q → tally (within n.low n.high k) + tally (within m.low m.high k) ≡ 1 → (i ≡ x) ⊎ (j ≡ x)
        found x c k g lc dc c1 c2 true q s t r =
            let bc = born x c g in
            let w : k < n.high = grind (arith, nat_tests) in
            inl (unique height nodes i x n c k version tiles (omega arith) small e g (l ∙ sym lc) (grind (arith, nat_tests)) (grind (arith, nat_tests)))
        found x c k g lc dc c1 c2 false true s t r =
            let bc = born x c g in
            let w : k < m.high = grind (arith, nat_tests) in
            inr (unique height nodes j x m c k version tiles (omega arith) small f g (l' ∙ sym lc) (grind (arith, nat_tests)) (grind (arith, nat_tests)))
        found x c k g lc dc c1 c2 false false s t r =
            let x1 : tally (within n.low n.high k) ≡ 0 = ap tally s in
            let x2 : tally (within m.low m.high k) ≡ 0 = ap tally t in
            absurd (omega (arith, x1, x2, r))

        counted : (p k v : ℕ) → count_by (at_point p k v) first_list + tally (nat_eq n.level p && (within n.low n.high k && within version now v)) ≡ count_by (at_point p k v) nodes
            → count_by (at_point p k v) both_list + tally (nat_eq m.level p && (within m.low m.high k && within version now v)) ≡ count_by (at_point p k v) first_list
            → count_by (at_point p k v) both_list + tally (nat_eq level p && (within low high k && within version now v)) ≡ count_by (at_point p k v) nodes
        counted p k v one two =
            let one' : count_by (at_point p k v) first_list + tally (nat_eq level p && (within n.low n.high k && within version now v)) ≡ count_by (at_point p k v) nodes = subst (λ x. count_by (at_point p k v) first_list + tally (nat_eq x p && (within n.low n.high k && within version now v)) ≡ count_by (at_point p k v) nodes) l one in
            let two' : count_by (at_point p k v) both_list + tally (nat_eq level p && (within m.low m.high k && within version now v)) ≡ count_by (at_point p k v) first_list = subst (λ x. count_by (at_point p k v) both_list + tally (nat_eq x p && (within m.low m.high k && within version now v)) ≡ count_by (at_point p k v) first_list) l' two in
            omega (arith, one', two', sum3 (nat_eq level p) (within version now v) (within low high k) (within n.low n.high k) (within m.low m.high k) (sides k))
          where
            sum3 : (x w a b c : Bool) → tally a ≡ tally b + tally c → tally (x && (a && w)) ≡ tally (x && (b && w)) + tally (x && (c && w))
            sum3 false w a b c r = refl
            sum3 true w true true true r = absurd (omega arith)
            sum3 true true true true false r = refl
            sum3 true false true true false r = refl
            sum3 true true true false true r = refl
            sum3 true false true false true r = refl
            sum3 true w true false false r = absurd (omega arith)
            sum3 true w false true c r = absurd (cases c r)
              where
                cases : (c : Bool) → tally false ≡ tally true + tally c → ⊥
                cases true r = omega arith
                cases false r = omega arith
            sum3 true w false false true r = absurd (omega arith)
            sum3 true w false false false r = refl
