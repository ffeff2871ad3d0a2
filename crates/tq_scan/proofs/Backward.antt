-- Going back along links. Each leaf that meets a part and died in it is reached from exactly one leaf, which was born
-- when it died. So all leaves of the part are reached once from those at its last version.
use Rattle.std.proofs.Common.{◌≡◌, ℕ, zero, suc, ◌+◌, ◌-◌, ◌<◌, ◌≤◌, Bool, true, false, cond, ◌&&◌, List, [], ◌∷◌, ◌++◌, length, take, drop, ap, refl, sym, ◌∙◌, subst, arith, count_by, slice_get, Some, nat_eq, nat_le, nat_lt, max}
use Rattle.std.specs.Prelude.{All}
use Rattle.std.proofs.lemmas.Bool.Decides.{nat_tests}
use Rattle.std.proofs.lemmas.Option.{slice_get_within}
use Rattle.std.proofs.lemmas.List.Elements.{All-head, All-tail, All-weaker, All-map, All-take}
use Rattle.std.proofs.lemmas.List.Sums.{sum_by-append}
use Rattle.std.proofs.lemmas.List.{take-append-drop}
use Rattle.tq_arena.specs.declared.arena.NodeNo.{NodeNo}
use Rattle.tq_mvbt.specs.declared.node.Link.{Link}
use Rattle.tq_mvbt.specs.declared.root.Root.{Root}
use Rattle.tq_mvbt.specs.NodeState.{NodeState}
use Rattle.tq_mvbt.specs.Points.{now, holds}
use Rattle.tq_mvbt.specs.Links.{IsLinkTo}
use Rattle.tq_mvbt.specs.Shape.{at_point, IsNode}
use Rattle.tq_mvbt.specs.TreeState.{lives_of, IsTree}
use Rattle.tq_mvbt.specs.Tiling.{IsTiling}
use Rattle.tq_scan.specs.declared.window.Part.{Part}
use Rattle.tq_scan.specs.declared.window.Window.{Window}
use Rattle.tq_scan.specs.Windows.{IsInside}
use Rattle.tq_scan.specs.Scans.{IsMetLeaf, numbers}
use Rattle.tq_scan.specs.Lists.{ListsOnce}
use Rattle.tq_scan.specs.Rows.{holds_key, holds_key_at, IsMetNode, IsRowOf}
use Rattle.tq_scan.specs.Follows.{is_met_link, is_followed, followed_at, followed_from}
use Rattle.tq_scan.proofs.Lists.{tally, count-cons, all_at, all_from_places, count_alike, count_none, count_map_filter, count_both, all_map_filter, times, times_numbers, few_different, Passes, some_passes}
use Rattle.tq_scan.proofs.KeysOnce.{and_first, and_second, and_both, both_ways, Held, held_of, holds_from, each, one_leaf, unique, at_leaf, small, keys_small}
use Rattle.tq_scan.proofs.MetLeaves.{Meeting, met_from, meeting_from}

less : (a b : ℕ) → nat_lt a b ≡ true → a < b
less a b h = grind (arith, nat_tests)

at_most : (a b : ℕ) → nat_le a b ≡ true → a ≤ b
at_most a b h = grind (arith, nat_tests)

is_less : (a b : ℕ) → a < b → nat_lt a b ≡ true
is_less a b h = grind (arith, nat_tests)

is_at_most : (a b : ℕ) → a ≤ b → nat_le a b ≡ true
is_at_most a b h = grind (arith, nat_tests)

is_same : (a b : ℕ) → a ≡ b → nat_eq a b ≡ true
is_same a b h = grind (arith, nat_tests)

same_of : (a b : ℕ) → nat_eq a b ≡ true → a ≡ b
same_of a b h = grind (arith, nat_tests)

-- what a followed link satisfies
pub record Follows (p : Part) (n : NodeState) (l : Link) : Type 0 where
  pub born : p.first < n.born
  pub low : l.low < p.high
  pub high : p.low < l.high
  pub above : n.low ≤ max l.low p.low
  pub below : max l.low p.low < n.high

follows_of : (p : Part) (n : NodeState) (l : Link) → is_followed p n l ≡ true → Follows p n l
follows_of p n l h =
    let h1 = and_first (is_met_link p n l) (nat_le n.low (max l.low p.low) && nat_lt (max l.low p.low) n.high) h in
    let h2 = and_second (is_met_link p n l) (nat_le n.low (max l.low p.low) && nat_lt (max l.low p.low) n.high) h in
    let a = and_first (nat_lt p.first n.born) (nat_lt l.low p.high && nat_lt p.low l.high) h1 in
    let h3 = and_second (nat_lt p.first n.born) (nat_lt l.low p.high && nat_lt p.low l.high) h1 in
    let b = and_first (nat_lt l.low p.high) (nat_lt p.low l.high) h3 in
    let c = and_second (nat_lt l.low p.high) (nat_lt p.low l.high) h3 in
    let d = and_first (nat_le n.low (max l.low p.low)) (nat_lt (max l.low p.low) n.high) h2 in
    let e = and_second (nat_le n.low (max l.low p.low)) (nat_lt (max l.low p.low) n.high) h2 in
    record { born = less p.first n.born a; low = less l.low p.high b; high = less p.low l.high c; above = at_most n.low (max l.low p.low) d; below = less (max l.low p.low) n.high e }

follows_from : (p : Part) (n : NodeState) (l : Link) → Follows p n l → is_followed p n l ≡ true
follows_from p n l f =
    and_both (is_met_link p n l) (nat_le n.low (max l.low p.low) && nat_lt (max l.low p.low) n.high)
    (and_both (nat_lt p.first n.born) (nat_lt l.low p.high && nat_lt p.low l.high) (is_less p.first n.born f.born)
    (and_both (nat_lt l.low p.high) (nat_lt p.low l.high) (is_less l.low p.high f.low) (is_less p.low l.high f.high)))
    (and_both (nat_le n.low (max l.low p.low)) (nat_lt (max l.low p.low) n.high) (is_at_most n.low (max l.low p.low) f.above) (is_less (max l.low p.low) n.high f.below))

one_node : (nodes : List NodeState) (i j : ℕ) (a b : NodeState) → i ≡ j → slice_get nodes i ≡ Some a → slice_get nodes j ≡ Some b → a ≡ b
one_node nodes i j a b same e f =
    let g : slice_get nodes j ≡ Some a = subst (λ x. slice_get nodes x ≡ Some a) same e in
    cc

module _ (version : ℕ) (nodes : List NodeState) (roots : List Root) (tree : IsTree version nodes roots) (tiling : IsTiling nodes roots) (w : Window) (p : Part) (inside : IsInside w p) where
  last_small : p.last < now
  last_small = small version nodes roots tree tiling w p inside

  node_at : (i : ℕ) (n : NodeState) → slice_get nodes i ≡ Some n → IsNode version (lives_of nodes) nodes n
  node_at i n e = each version nodes roots tree tiling i n e

  meets : (i : ℕ) → (met : IsMetLeaf nodes p i) → Meeting p met.node
  meets i met = meeting_from version nodes roots tree tiling w p inside i met

  alone : (i j : ℕ) (m n : NodeState) (k v : ℕ) → k < p.high → v < now → slice_get nodes i ≡ Some m → slice_get nodes j ≡ Some n → m.level ≡ 0 → n.level ≡ 0 → holds k v m ≡ true → holds k v n ≡ true → i ≡ j
  alone i j m n k v kh vt e f l l' a b = unique version nodes roots tree tiling i j m n k v (keys_small version nodes roots tree tiling w p inside k kh) vt e f l l' a b

  -- ---- a followed leaf meets the part

  followed_met : (b : ℕ) → (met : IsMetLeaf nodes p b) → (j : ℕ) (l : Link) → slice_get met.node.links j ≡ Some l → is_followed p met.node l ≡ true → IsMetLeaf nodes p l.node.0
  followed_met b met j l s h =
      let m = met.node in
      let f = follows_of p m l h in
      let just = tiling.linked.leaves b m met.stands met.leaf in
      let t = all_at (IsLinkTo nodes m.born) m.links j l just.back s in
      let leaf = node_at l.node.0 t.leaf t.stands in
      let g = meets b met in
      let a1 = leaf.begins in let a2 = t.died in let a3 = t.low in let a4 = t.high in
      let b1 = f.born in let b2 = f.low in let b3 = f.high in let b4 = g.born in
      met_from version nodes roots tree tiling w p inside l.node.0 t.leaf t.stands t.at_level (record { low = omega arith; high = omega arith; born = omega arith; died = omega arith })

  pub all_followed_at : (b : NodeNo) → IsMetLeaf nodes p b.0 → All (λ a. IsMetLeaf nodes p a.0) (followed_at p (slice_get nodes b.0))
  all_followed_at b met =
      subst (λ o. All (λ (a : NodeNo). IsMetLeaf nodes p a.0) (followed_at p o)) (sym met.stands)
      (all_map_filter (λ (a : NodeNo). IsMetLeaf nodes p a.0) (λ (l : Link). l.node) (is_followed p met.node) met.node.links (followed_met b.0 met))

  -- ---- a leaf that is alive at the part's last version is not linked

  module _ (a : ℕ) (n : NodeState) (stands : slice_get nodes a ≡ Some n) (leaf : n.level ≡ 0) where
    module _ (lasts : p.last < n.died) where
      not_followed : (b : NodeNo) → IsMetLeaf nodes p b.0 → times a (followed_at p (slice_get nodes b.0)) ≡ 0
      not_followed b met =
          ap (λ o. times a (followed_at p o)) met.stands
          ∙ count_map_filter (λ (x : NodeNo). nat_eq a x.0) (λ (l : Link). l.node) (is_followed p met.node) met.node.links
          ∙ count_none (λ (l : Link). nat_eq a l.node.0 && is_followed p met.node l) met.node.links (all_from_places (λ (l : Link). (nat_eq a l.node.0 && is_followed p met.node l) ≡ false) met.node.links (λ j l s. both_ways (nat_eq a l.node.0 && is_followed p met.node l) false (λ h. absurd (never j l s h)) (λ h. cc)))
        where
          never : (j : ℕ) (l : Link) → slice_get met.node.links j ≡ Some l → (nat_eq a l.node.0 && is_followed p met.node l) ≡ true → ⊥
          never j l s h =
              let same = same_of a l.node.0 (and_first (nat_eq a l.node.0) (is_followed p met.node l) h) in
              let just = tiling.linked.leaves b.0 met.node met.stands met.leaf in
              let t = all_at (IsLinkTo nodes met.node.born) met.node.links j l just.back s in
              let node_is = one_node nodes a l.node.0 n t.leaf same stands t.stands in
              let died : n.died ≡ met.node.born = ap (λ (x : NodeState). x.died) node_is ∙ t.died in
              let g = (meets b.0 met).born in
              omega arith

      never_followed : (xs : List NodeNo) → All (λ b. IsMetLeaf nodes p b.0) xs → times a (followed_from p nodes xs) ≡ 0
      never_followed [] all = refl
      never_followed (x ∷ xs) all =
          let here = not_followed x (All-head (λ (b : NodeNo). IsMetLeaf nodes p b.0) x xs all) in
          let rest = never_followed xs (All-tail (λ (b : NodeNo). IsMetLeaf nodes p b.0) x xs all) in
          omega (arith, here, rest, sum_by-append (λ (y : NodeNo). tally (nat_eq a y.0)) (followed_at p (slice_get nodes x.0)) (followed_from p nodes xs))

    -- ---- a leaf that died in the part is reached from exactly one leaf

    module _ (met_n : Meeting p n) (ends : n.died ≤ p.last) where
      abbrev key : ℕ
      key = max n.low p.low

      n_node : IsNode version (lives_of nodes) nodes n
      n_node = node_at a n stands

      key_high : key < p.high
      key_high = (let m = met_n.low in let i = inside.wide in omega arith)

      -- the leaf that holds the key at the version at which the leaf died
      next : Passes (at_point 0 key n.died) nodes
      next = some_passes (at_point 0 key n.died) nodes (let one = one_leaf version nodes roots tree tiling key n.died (keys_small version nodes roots tree tiling w p inside key key_high) (let s = last_small in omega arith) in omega arith)

      next_leaf : next.element.level ≡ 0
      next_leaf = at_leaf version nodes roots tree tiling next.element key n.died next.passes

      next_held : Held next.element key n.died
      next_held = held_of next.element key n.died (and_second (nat_eq next.element.level 0) (holds key n.died next.element) next.passes)

      -- it was born at that version
      next_born : next.element.born ≡ n.died
      next_born = split (nat_lt next.element.born n.died) refl
        where
          split : (b : Bool) → nat_lt next.element.born n.died ≡ b → next.element.born ≡ n.died
          split false s = (let l = next_held.born in let g : n.died ≤ next.element.born = grind (arith, nat_tests) in omega arith)
          split true s =
              let earlier = less next.element.born n.died s in
              let b = n_node.begins in let w1 = n_node.wide in let m2 = met_n.high in
              let h1 = next_held.low in let h2 = next_held.high in let h3 = next_held.died in
              let v : ℕ = n.died - 1 in
              let mine : holds key v n ≡ true = holds_from n key v (record { low = omega arith; high = omega arith; born = omega arith; died = omega arith }) in
              let its : holds key v next.element ≡ true = holds_from next.element key v (record { low = h1; high = h2; born = omega arith; died = omega arith }) in
              let same = alone a next.place n next.element key v key_high (let x = last_small in omega arith) stands next.stands leaf next_leaf mine its in
              let node_is = one_node nodes a next.place n next.element same stands next.stands in
              let died : n.died ≡ next.element.died = ap (λ (x : NodeState). x.died) node_is in
              absurd (omega arith)

      next_met : IsMetLeaf nodes p next.place
      next_met =
          let h1 = next_held.low in let h2 = next_held.high in let h3 = next_held.born in let h4 = next_held.died in
          let k = key_high in let d = met_n.died in
          met_from version nodes roots tree tiling w p inside next.place next.element next.stands next_leaf (record { low = omega arith; high = omega arith; born = omega arith; died = omega arith })

      next_is : (next_met.node ≡ next.element)
      next_is = one_node nodes next.place next.place next_met.node next.element refl next_met.stands next.stands

      followed_alike : (b : ℕ) → (met : IsMetLeaf nodes p b) → (j : ℕ) (l : Link) → slice_get met.node.links j ≡ Some l → (nat_eq a l.node.0 && is_followed p met.node l) ≡ (nat_eq next.place b && nat_eq l.node.0 a)
      followed_alike b met j l s = both_ways (nat_eq a l.node.0 && is_followed p met.node l) (nat_eq next.place b && nat_eq l.node.0 a) onward back
        where
          m : NodeState
          m = met.node

          link : IsLinkTo nodes met.node.born l
          link = all_at (IsLinkTo nodes met.node.born) met.node.links j l (tiling.linked.leaves b met.node met.stands met.leaf).back s

          onward : (nat_eq a l.node.0 && is_followed p met.node l) ≡ true → (nat_eq next.place b && nat_eq l.node.0 a) ≡ true
          onward h =
              let same = same_of a l.node.0 (and_first (nat_eq a l.node.0) (is_followed p met.node l) h) in
              let f = follows_of p met.node l (and_second (nat_eq a l.node.0) (is_followed p met.node l) h) in
              let node_is = one_node nodes a l.node.0 n link.leaf same stands link.stands in
              let died : n.died ≡ met.node.born = ap (λ (x : NodeState). x.died) node_is ∙ link.died in
              let low : n.low ≡ l.low = ap (λ (x : NodeState). x.low) node_is ∙ link.low in
              let its = (node_at b met.node met.stands).begins in
              let f1 = f.above in let f2 = f.below in
              let its_holds : holds key n.died met.node ≡ true = holds_from met.node key n.died (record { low = omega arith; high = omega arith; born = omega arith; died = omega arith }) in
              let place = alone next.place b next.element met.node key n.died key_high (let x = last_small in omega arith) next.stands met.stands next_leaf met.leaf (holds_from next.element key n.died next_held) its_holds in
              and_both (nat_eq next.place b) (nat_eq l.node.0 a) (is_same next.place b place) (is_same l.node.0 a (sym same))

          back : (nat_eq next.place b && nat_eq l.node.0 a) ≡ true → (nat_eq a l.node.0 && is_followed p met.node l) ≡ true
          back h =
              let place = same_of next.place b (and_first (nat_eq next.place b) (nat_eq l.node.0 a) h) in
              let same = same_of l.node.0 a (and_second (nat_eq next.place b) (nat_eq l.node.0 a) h) in
              let its_is = one_node nodes next.place b next.element met.node place next.stands met.stands in
              let node_is = one_node nodes a l.node.0 n link.leaf (sym same) stands link.stands in
              let born : met.node.born ≡ n.died = ap (λ (x : NodeState). x.born) (sym its_is) ∙ next_born in
              let its_low : met.node.low ≡ next.element.low = ap (λ (x : NodeState). x.low) (sym its_is) in
              let its_high : met.node.high ≡ next.element.high = ap (λ (x : NodeState). x.high) (sym its_is) in
              let low : n.low ≡ l.low = ap (λ (x : NodeState). x.low) node_is ∙ link.low in
              let high : n.high ≡ l.high = ap (λ (x : NodeState). x.high) node_is ∙ link.high in
              let m1 = met_n.low in let m2 = met_n.high in let m3 = met_n.died in
              let h1 = next_held.low in let h2 = next_held.high in
              and_both (nat_eq a l.node.0) (is_followed p met.node l) (is_same a l.node.0 (sym same))
              (follows_from p met.node l (record { born = omega arith; low = omega arith; high = omega arith; above = omega arith; below = omega arith }))

      followed_count : (b : NodeNo) → IsMetLeaf nodes p b.0 → times a (followed_at p (slice_get nodes b.0)) ≡ tally (nat_eq next.place b.0)
      followed_count b met =
          ap (λ o. times a (followed_at p o)) met.stands
          ∙ count_map_filter (λ (x : NodeNo). nat_eq a x.0) (λ (l : Link). l.node) (is_followed p met.node) met.node.links
          ∙ count_alike (λ (l : Link). nat_eq a l.node.0 && is_followed p met.node l) (λ (l : Link). nat_eq next.place b.0 && nat_eq l.node.0 a) met.node.links (all_from_places (λ (l : Link). (nat_eq a l.node.0 && is_followed p met.node l) ≡ (nat_eq next.place b.0 && nat_eq l.node.0 a)) met.node.links (followed_alike b.0 met))
          ∙ count_both (nat_eq next.place b.0) (λ (l : Link). nat_eq l.node.0 a) met.node.links
          ∙ split (nat_eq next.place b.0) refl
        where
          split : (t : Bool) → nat_eq next.place b.0 ≡ t → cond t (count_by (λ (l : Link). nat_eq l.node.0 a) met.node.links) 0 ≡ tally t
          split false s = refl
          split true s =
              let its_is = one_node nodes next.place b.0 next.element met.node (same_of next.place b.0 s) next.stands met.stands in
              let born : n.died ≡ met.node.born = sym next_born ∙ ap (λ (x : NodeState). x.born) its_is in
              (tiling.linked.leaves b.0 met.node met.stands met.leaf).once a n stands leaf born

      followed_as_often : (xs : List NodeNo) → All (λ b. IsMetLeaf nodes p b.0) xs → times a (followed_from p nodes xs) ≡ times next.place xs
      followed_as_often [] all = refl
      followed_as_often (x ∷ xs) all =
          let here = followed_count x (All-head (λ (b : NodeNo). IsMetLeaf nodes p b.0) x xs all) in
          let rest = followed_as_often xs (All-tail (λ (b : NodeNo). IsMetLeaf nodes p b.0) x xs all) in
          omega (arith, here, rest, count-cons (λ (y : NodeNo). nat_eq next.place y.0) x xs, sum_by-append (λ (y : NodeNo). tally (nat_eq a y.0)) (followed_at p (slice_get nodes x.0)) (followed_from p nodes xs))

      next_later : n.born < next.element.born
      next_later = (let b = n_node.begins in let e = next_born in omega arith)

  -- ---- the leaves at the part's last version

  module _ (first : List NodeNo) (row : IsRowOf nodes p 0 first) where
    pub first_met : All (λ b. IsMetLeaf nodes p b.0) first
    first_met = All-weaker (IsMetNode nodes p 0) (λ (b : NodeNo). IsMetLeaf nodes p b.0)
        (λ b m. let l = inside.long in let d = m.died in met_from version nodes roots tree tiling w p inside b.0 m.node m.stands m.at_level (record { low = m.low; high = m.high; born = m.born; died = omega arith })) first row.each

    -- a leaf that is alive then is among them once
    first_once : (a : ℕ) → (met : IsMetLeaf nodes p a) → p.last < met.node.died → times a first ≡ 1
    first_once a met lasts =
        let n = met.node in
        let g = meets a met in
        let g1 = g.low in let g2 = g.high in let g3 = g.born in
        let wide = (node_at a n met.stands).wide in let i = inside.wide in
        let k : ℕ = max n.low p.low in
        let mine : holds k p.last n ≡ true = holds_from n k p.last (record { low = omega arith; high = omega arith; born = g3; died = lasts }) in
        count_alike (λ (b : NodeNo). nat_eq a b.0) (holds_key_at nodes k p.last) first (All-weaker (IsMetNode nodes p 0) (λ (b : NodeNo). nat_eq a b.0 ≡ holds_key_at nodes k p.last b) (λ b m. both_ways (nat_eq a b.0) (holds_key_at nodes k p.last b) (onward b k mine) (back b m k (omega arith) mine)) first row.each)
        ∙ row.tiles k (omega arith) (omega arith)
      where
        onward : (b : NodeNo) (k : ℕ) → holds k p.last met.node ≡ true → nat_eq a b.0 ≡ true → holds_key_at nodes k p.last b ≡ true
        onward b k mine h = subst (λ x. holds_key k p.last (slice_get nodes x) ≡ true) (same_of a b.0 h) (ap (holds_key k p.last) met.stands ∙ mine)

        back : (b : NodeNo) → IsMetNode nodes p 0 b → (k : ℕ) → k < p.high → holds k p.last met.node ≡ true → holds_key_at nodes k p.last b ≡ true → nat_eq a b.0 ≡ true
        back b m k kh mine h =
            let its : holds k p.last m.node ≡ true = ap (holds_key k p.last) (sym m.stands) ∙ h in
            is_same a b.0 (alone a b.0 met.node m.node k p.last kh last_small met.stands m.stands met.leaf m.at_level mine its)

    -- a leaf that died before is not
    first_none : (a : ℕ) (n : NodeState) → slice_get nodes a ≡ Some n → n.died ≤ p.last → times a first ≡ 0
    first_none a n stands ends = count_none (λ (b : NodeNo). nat_eq a b.0) first (All-weaker (IsMetNode nodes p 0) (λ (b : NodeNo). nat_eq a b.0 ≡ false) (λ b m. both_ways (nat_eq a b.0) false (λ h. absurd (never b m h)) (λ h. cc)) first row.each)
      where
        never : (b : NodeNo) → IsMetNode nodes p 0 b → nat_eq a b.0 ≡ true → ⊥
        never b m h =
            let node_is = one_node nodes a b.0 n m.node (same_of a b.0 h) stands m.stands in
            let died : n.died ≡ m.node.died = ap (λ (x : NodeState). x.died) node_is in
            let d = m.died in
            omega arith

    -- ---- with the leaves that are reached from them

    module _ (leaves : List NodeNo) (place : ℕ) (all : All (λ b. IsMetLeaf nodes p b.0) leaves) (grown : leaves ≡ first ++ followed_from p nodes (take place leaves)) where
      all_done : All (λ b. IsMetLeaf nodes p b.0) (take place leaves)
      all_done = All-take (λ (b : NodeNo). IsMetLeaf nodes p b.0) place leaves all

      parts : (a : ℕ) → times a leaves ≡ times a first + times a (followed_from p nodes (take place leaves))
      parts a = ap (times a) grown ∙ sum_by-append (λ (y : NodeNo). tally (nat_eq a y.0)) first (followed_from p nodes (take place leaves))

      done_less : (a : ℕ) → times a (take place leaves) ≤ times a leaves
      done_less a =
          let whole : times a (take place leaves ++ drop place leaves) ≡ times a leaves = ap (times a) (take-append-drop place leaves) in
          omega (arith, whole, sum_by-append (λ (y : NodeNo). tally (nat_eq a y.0)) (take place leaves) (drop place leaves))

      met_at_most : (fuel a : ℕ) → (met : IsMetLeaf nodes p a) → now - met.node.born ≤ fuel → times a leaves ≤ 1
      met_at_most zero a met few = (let n = node_at a met.node met.stands in let b = n.begins in let e = n.ends in absurd (omega arith))
      met_at_most (suc fuel) a met few = split (nat_lt p.last met.node.died) refl (λ b h. met_at_most fuel b h)
        where
          split : (t : Bool) → nat_lt p.last met.node.died ≡ t → ((b : ℕ) → (h : IsMetLeaf nodes p b) → now - h.node.born ≤ fuel → times b leaves ≤ 1) → times a leaves ≤ 1
          split true s later =
              let lasts = less p.last met.node.died s in
              omega (arith, parts a, first_once a met lasts, never_followed a met.node met.stands met.leaf lasts (take place leaves) all_done)
          split false s later =
              let ends : met.node.died ≤ p.last = grind (arith, nat_tests) in
              let m = meets a met in
              let it = next_met a met.node met.stands met.leaf m ends in
              let is = next_is a met.node met.stands met.leaf m ends in
              let born = next_later a met.node met.stands met.leaf m ends in
              let born' : it.node.born ≡ (next a met.node met.stands met.leaf m ends).element.born = ap (λ (x : NodeState). x.born) is in
              let n = node_at a met.node met.stands in let b1 = n.begins in let b2 = n.ends in
              let one = later (next a met.node met.stands met.leaf m ends).place it (omega arith) in
              omega (arith, parts a, first_none a met.node met.stands ends, followed_as_often a met.node met.stands met.leaf m ends (take place leaves) all_done, done_less (next a met.node met.stands met.leaf m ends).place, one)

      pub at_most_once : (a : ℕ) → times a leaves ≤ 1
      at_most_once a = split (nat_lt 0 (times a leaves)) refl
        where
          split : (t : Bool) → nat_lt 0 (times a leaves) ≡ t → times a leaves ≤ 1
          split false s = (let z : times a leaves ≤ 0 = grind (arith, nat_tests) in omega arith)
          split true s =
              let f = some_passes (λ (b : NodeNo). nat_eq a b.0) leaves (less 0 (times a leaves) s) in
              let met = all_at (λ (b : NodeNo). IsMetLeaf nodes p b.0) leaves f.place f.element all f.stands in
              let same = same_of a f.element.0 f.passes in
              subst (λ x. times x leaves ≤ 1) (sym same) (met_at_most (now - met.node.born) f.element.0 met (omega arith))

      pub few_leaves : length leaves ≤ length nodes
      few_leaves = few_different (length nodes) leaves (All-weaker (λ (b : NodeNo). IsMetLeaf nodes p b.0) (λ (b : NodeNo). b.0 < length nodes) (λ b m. slice_get_within nodes b.0 m.node m.stands) leaves all) at_most_once

    -- if all links are followed, each leaf of the part is in the list once
    module _ (leaves : List NodeNo) (all : All (λ b. IsMetLeaf nodes p b.0) leaves) (grown : leaves ≡ first ++ followed_from p nodes leaves) where
      all_parts : (a : ℕ) → times a leaves ≡ times a first + times a (followed_from p nodes leaves)
      all_parts a = ap (times a) grown ∙ sum_by-append (λ (y : NodeNo). tally (nat_eq a y.0)) first (followed_from p nodes leaves)

      met_once : (fuel a : ℕ) → (met : IsMetLeaf nodes p a) → now - met.node.born ≤ fuel → times a leaves ≡ 1
      met_once zero a met few = (let n = node_at a met.node met.stands in let b = n.begins in let e = n.ends in absurd (omega arith))
      met_once (suc fuel) a met few = split (nat_lt p.last met.node.died) refl (λ b h. met_once fuel b h)
        where
          split : (t : Bool) → nat_lt p.last met.node.died ≡ t → ((b : ℕ) → (h : IsMetLeaf nodes p b) → now - h.node.born ≤ fuel → times b leaves ≡ 1) → times a leaves ≡ 1
          split true s later =
              let lasts = less p.last met.node.died s in
              omega (arith, all_parts a, first_once a met lasts, never_followed a met.node met.stands met.leaf lasts leaves all)
          split false s later =
              let ends : met.node.died ≤ p.last = grind (arith, nat_tests) in
              let m = meets a met in
              let it = next_met a met.node met.stands met.leaf m ends in
              let is = next_is a met.node met.stands met.leaf m ends in
              let born = next_later a met.node met.stands met.leaf m ends in
              let born' : it.node.born ≡ (next a met.node met.stands met.leaf m ends).element.born = ap (λ (x : NodeState). x.born) is in
              let n = node_at a met.node met.stands in let b1 = n.begins in let b2 = n.ends in
              let one = later (next a met.node met.stands met.leaf m ends).place it (omega arith) in
              omega (arith, all_parts a, first_none a met.node met.stands ends, followed_as_often a met.node met.stands met.leaf m ends leaves all, one)

      pub leaves_once : ListsOnce (IsMetLeaf nodes p) (numbers leaves)
      leaves_once = record {
        all = All-map (IsMetLeaf nodes p) (λ (b : NodeNo). b.0) leaves all;
        once = λ a met. times_numbers a leaves ∙ met_once (now - met.node.born) a met (omega arith);
      }
