-- From the nodes of a level to those of the level below.
use Rattle.std.proofs.Common.{◌≡◌, ℕ, zero, suc, ◌+◌, ◌-◌, ◌*◌, ◌<◌, ◌≤◌, Bool, true, false, ◌&&◌, List, [], ◌∷◌, length, ap, refl, sym, ◌∙◌, subst, arith, count_by, slice_get, Some, nat_eq, nat_le, nat_lt, max, length-append}
use Rattle.std.specs.Prelude.{All}
use Rattle.std.proofs.lemmas.Bool.Decides.{nat_tests}
use Rattle.std.proofs.lemmas.List.Elements.{All-nil, All-head, All-tail, All-append}
use Rattle.std.proofs.lemmas.List.Sums.{sum_by-append, count_by-le-length}
use Rattle.tq_arena.specs.declared.arena.NodeNo.{NodeNo}
use Rattle.tq_mvbt.specs.declared.entry.Entry.{Entry}
use Rattle.tq_mvbt.specs.declared.root.Root.{Root}
use Rattle.tq_mvbt.specs.NodeState.{NodeState}
use Rattle.tq_mvbt.specs.Points.{now, within, covers, holds, end_of}
use Rattle.tq_mvbt.specs.Shape.{IsNode, IsBranch, IsPlaced}
use Rattle.tq_mvbt.specs.TreeState.{lives_of, IsTree}
use Rattle.tq_mvbt.specs.Tiling.{before_end}
use Rattle.tq_scan.specs.declared.window.Part.{Part}
use Rattle.tq_scan.specs.Windows.{IsSmall}
use Rattle.std.specs.List.Sorted.{IsPermutation}
use Rattle.std.proofs.lemmas.List.Sorted.{sum_by-IsPermutation}
use Rattle.tq_scan.specs.Scans.{is_alive, alive_at}
use Rattle.tq_scan.specs.Lists.{IsLonger}
use Rattle.tq_scan.specs.Rows.{holds_key, holds_key_at, IsMetNode, IsRowOf}
use Rattle.tq_scan.specs.Follows.{is_met_child, met_children, children_at, children_of}
use Rattle.tq_scan.proofs.Lists.{tally, count-cons, all_at, all_from_places, count_alike, count_none, count_map_filter, all_map_filter}
use Rattle.tq_scan.proofs.KeysOnce.{within_true, within_low, within_high, and_first, and_second, and_both, held_of, holds_from, ends_alike, both_ways}

less : (a b : ℕ) → nat_lt a b ≡ true → a < b
less a b h = grind (arith, nat_tests)

at_most : (a b : ℕ) → nat_le a b ≡ true → a ≤ b
at_most a b h = grind (arith, nat_tests)

is_less : (a b : ℕ) → a < b → nat_lt a b ≡ true
is_less a b h = grind (arith, nat_tests)

is_at_most : (a b : ℕ) → a ≤ b → nat_le a b ≡ true
is_at_most a b h = grind (arith, nat_tests)

-- what a visited child satisfies
pub record MetChild (p : Part) (e : Entry) : Type 0 where
  pub low : e.low < p.high
  pub high : p.low < e.high
  pub born : e.born ≤ p.last
  pub dead : p.last < e.dead

met_child_of : (p : Part) (e : Entry) → p.last < now → is_met_child p e ≡ true → MetChild p e
met_child_of p e small h =
    let a = and_first (nat_lt e.low p.high) (nat_lt p.low e.high && (nat_le e.born p.last && before_end p.last (end_of e.dead))) h in
    let h1 = and_second (nat_lt e.low p.high) (nat_lt p.low e.high && (nat_le e.born p.last && before_end p.last (end_of e.dead))) h in
    let b = and_first (nat_lt p.low e.high) (nat_le e.born p.last && before_end p.last (end_of e.dead)) h1 in
    let h2 = and_second (nat_lt p.low e.high) (nat_le e.born p.last && before_end p.last (end_of e.dead)) h1 in
    let c = and_first (nat_le e.born p.last) (before_end p.last (end_of e.dead)) h2 in
    let d = and_second (nat_le e.born p.last) (before_end p.last (end_of e.dead)) h2 in
    record { low = less e.low p.high a; high = less p.low e.high b; born = at_most e.born p.last c; dead = less p.last e.dead (sym (ends_alike p.last e.dead small) ∙ d) }

met_child_from : (p : Part) (e : Entry) → p.last < now → MetChild p e → is_met_child p e ≡ true
met_child_from p e small m =
    and_both (nat_lt e.low p.high) (nat_lt p.low e.high && (nat_le e.born p.last && before_end p.last (end_of e.dead))) (is_less e.low p.high m.low)
    (and_both (nat_lt p.low e.high) (nat_le e.born p.last && before_end p.last (end_of e.dead)) (is_less p.low e.high m.high)
    (and_both (nat_le e.born p.last) (before_end p.last (end_of e.dead)) (is_at_most e.born p.last m.born) (ends_alike p.last e.dead small ∙ is_less p.last e.dead m.dead)))

module _ (version : ℕ) (nodes : List NodeState) (roots : List Root) (tree : IsTree version nodes roots) (p : Part) (is_small : IsSmall p) where
  last_small : p.last < now
  last_small = (let a = is_small.in_versions in omega arith)

  node_at : (i : ℕ) (n : NodeState) → slice_get nodes i ≡ Some n → IsNode version (lives_of nodes) nodes n
  node_at i n e = all_at (IsNode version (lives_of nodes) nodes) nodes i n tree.forest.each e

  -- ---- one level down

  module _ (level : ℕ) where
    module _ (i : ℕ) (n : NodeState) (stands : slice_get nodes i ≡ Some n) (at_level : n.level ≡ level + 1) (born : n.born ≤ p.last) (died : p.last < n.died) where
      node : IsNode version (lives_of nodes) nodes n
      node = node_at i n stands

      branch : (j : ℕ) (e : Entry) → slice_get n.entries j ≡ Some e → IsBranch nodes n e
      branch j e s = all_at (IsBranch nodes n) n.entries j e (node.branches (omega arith)) s

      child_met : (j : ℕ) (e : Entry) → slice_get n.entries j ≡ Some e → is_met_child p e ≡ true → IsMetNode nodes p level (record { 0 = e.child })
      child_met j e s h =
          let m = met_child_of p e last_small h in
          let b = branch j e s in
          let a1 = b.low in let a2 = b.high in let a3 = b.born in let a4 = b.level in
          let m1 = m.low in let m2 = m.high in let m3 = m.born in
          let life = b.life p.last died ∙ is_less p.last e.dead m.dead in
          record { node = b.child; stands = b.stands; at_level = omega arith; low = omega arith; high = omega arith; born = omega arith; died = less p.last b.child.died life }

      alike : (k : ℕ) → p.low ≤ k → k < p.high → (j : ℕ) (e : Entry) → slice_get n.entries j ≡ Some e → (holds_key_at nodes k p.last (record { 0 = e.child }) && is_met_child p e) ≡ covers k p.last e
      alike k kl kh j e s = both_ways (holds_key_at nodes k p.last (record { 0 = e.child }) && is_met_child p e) (covers k p.last e) onward back
        where
          b : IsBranch nodes n e
          b = branch j e s

          onward : (holds_key_at nodes k p.last (record { 0 = e.child }) && is_met_child p e) ≡ true → covers k p.last e ≡ true
          onward h =
              let held : holds k p.last b.child ≡ true = ap (holds_key k p.last) (sym b.stands) ∙ and_first (holds_key_at nodes k p.last (record { 0 = e.child })) (is_met_child p e) h in
              let f = held_of b.child k p.last held in
              let m = met_child_of p e last_small (and_second (holds_key_at nodes k p.last (record { 0 = e.child })) (is_met_child p e) h) in
              let a1 = b.low in let a2 = b.high in let f1 = f.low in let f2 = f.high in
              and_both (within e.low e.high k) (within e.born e.dead p.last) (within_true e.low e.high k (omega arith) (omega arith)) (within_true e.born e.dead p.last m.born m.dead)

          back : covers k p.last e ≡ true → (holds_key_at nodes k p.last (record { 0 = e.child }) && is_met_child p e) ≡ true
          back h =
              let h1 = and_first (within e.low e.high k) (within e.born e.dead p.last) h in
              let h2 = and_second (within e.low e.high k) (within e.born e.dead p.last) h in
              let x1 = within_low e.low e.high k h1 in
              let x2 = within_high e.low e.high k h1 in
              let x3 = within_low e.born e.dead p.last h2 in
              let x4 = within_high e.born e.dead p.last h2 in
              let a1 = b.low in let a2 = b.high in let a3 = b.born in
              let life = less p.last b.child.died (b.life p.last died ∙ is_less p.last e.dead x4) in
              and_both (holds_key_at nodes k p.last (record { 0 = e.child })) (is_met_child p e)
              (ap (holds_key k p.last) b.stands ∙ holds_from b.child k p.last (record { low = omega arith; high = omega arith; born = omega arith; died = life }))
              (met_child_from p e last_small (record { low = omega arith; high = omega arith; born = x3; dead = x4 }))

      counted : (k : ℕ) → p.low ≤ k → k < p.high → count_by (holds_key_at nodes k p.last) (met_children p n) ≡ tally (holds k p.last n)
      counted k kl kh =
          count_map_filter (holds_key_at nodes k p.last) (λ (e : Entry). record { 0 = e.child }) (is_met_child p) n.entries
          ∙ count_alike (λ (e : Entry). holds_key_at nodes k p.last (record { 0 = e.child }) && is_met_child p e) (covers k p.last) n.entries (all_from_places (λ (e : Entry). (holds_key_at nodes k p.last (record { 0 = e.child }) && is_met_child p e) ≡ covers k p.last e) n.entries (alike k kl kh))
          ∙ split (holds k p.last n) refl
        where
          split : (b : Bool) → holds k p.last n ≡ b → count_by (covers k p.last) n.entries ≡ tally b
          split true h = node.lists k p.last h ∙ (let z : nat_eq n.level 0 ≡ false = grind (arith, nat_tests) in rw z refl)
          split false h = count_none (covers k p.last) n.entries (all_from_places (λ (e : Entry). covers k p.last e ≡ false) n.entries (λ j e s. off j e s (covers k p.last e) refl))
            where
              off : (j : ℕ) (e : Entry) → slice_get n.entries j ≡ Some e → (c : Bool) → covers k p.last e ≡ c → c ≡ false
              off j e s false t = refl
              off j e s true t =
                  let placed = all_at (IsPlaced version n) n.entries j e node.placed s in
                  let h1 = and_first (within e.low e.high k) (within e.born e.dead p.last) t in
                  let x1 = within_low e.low e.high k h1 in
                  let x2 = within_high e.low e.high k h1 in
                  let a1 = placed.low in let a2 = placed.high in
                  sym (holds_from n k p.last (record { low = omega arith; high = omega arith; born = born; died = died })) ∙ h

    children_met : (a : NodeNo) → IsMetNode nodes p (level + 1) a → All (IsMetNode nodes p level) (children_at p (slice_get nodes a.0))
    children_met a met =
        subst (λ o. All (IsMetNode nodes p level) (children_at p o)) (sym met.stands)
        (all_map_filter (IsMetNode nodes p level) (λ (e : Entry). record { 0 = e.child }) (is_met_child p) met.node.entries (child_met a.0 met.node met.stands met.at_level met.born met.died))

    children_count : (a : NodeNo) → IsMetNode nodes p (level + 1) a → (k : ℕ) → p.low ≤ k → k < p.high → count_by (holds_key_at nodes k p.last) (children_at p (slice_get nodes a.0)) ≡ tally (holds_key_at nodes k p.last a)
    children_count a met k kl kh =
        ap (λ o. count_by (holds_key_at nodes k p.last) (children_at p o)) met.stands
        ∙ counted a.0 met.node met.stands met.at_level met.born met.died k kl kh
        ∙ ap (λ o. tally (holds_key k p.last o)) (sym met.stands)

    children_some : (a : NodeNo) → IsMetNode nodes p (level + 1) a → 1 ≤ length (children_at p (slice_get nodes a.0))
    children_some a met =
        let n = met.node in
        let node' = node_at a.0 n met.stands in
        let w = node'.wide in
        let m1 = met.low in let m2 = met.high in let w' = is_small.wide in
        let k : ℕ = max n.low p.low in
        let held : holds k p.last n ≡ true = holds_from n k p.last (record { low = omega arith; high = omega arith; born = met.born; died = met.died }) in
        let one : count_by (holds_key_at nodes k p.last) (children_at p (slice_get nodes a.0)) ≡ 1 = children_count a met k (omega arith) (omega arith) ∙ ap (λ o. tally (holds_key k p.last o)) met.stands ∙ ap tally held in
        omega (arith, one, count_by-le-length (holds_key_at nodes k p.last) (children_at p (slice_get nodes a.0)))

    all_children : (row : List NodeNo) → All (IsMetNode nodes p (level + 1)) row → All (IsMetNode nodes p level) (children_of p nodes row)
    all_children [] a = All-nil (IsMetNode nodes p level)
    all_children (x ∷ xs) a =
        All-append (IsMetNode nodes p level) (children_at p (slice_get nodes x.0)) (children_of p nodes xs)
        (children_met x (All-head (IsMetNode nodes p (level + 1)) x xs a))
        (all_children xs (All-tail (IsMetNode nodes p (level + 1)) x xs a))

    all_counted : (row : List NodeNo) → All (IsMetNode nodes p (level + 1)) row → (k : ℕ) → p.low ≤ k → k < p.high → count_by (holds_key_at nodes k p.last) (children_of p nodes row) ≡ count_by (holds_key_at nodes k p.last) row
    all_counted [] a k kl kh = refl
    all_counted (x ∷ xs) a k kl kh =
        let here = children_count x (All-head (IsMetNode nodes p (level + 1)) x xs a) k kl kh in
        let rest = all_counted xs (All-tail (IsMetNode nodes p (level + 1)) x xs a) k kl kh in
        omega (arith, here, rest, count-cons (holds_key_at nodes k p.last) x xs, sum_by-append (λ n. tally (holds_key_at nodes k p.last n)) (children_at p (slice_get nodes x.0)) (children_of p nodes xs))

    pub more_children : (row : List NodeNo) → All (IsMetNode nodes p (level + 1)) row → length row ≤ length (children_of p nodes row)
    more_children [] a = omega arith
    more_children (x ∷ xs) a =
        let here = children_some x (All-head (IsMetNode nodes p (level + 1)) x xs a) in
        let rest = more_children xs (All-tail (IsMetNode nodes p (level + 1)) x xs a) in
        omega (arith, here, rest, length-append (children_at p (slice_get nodes x.0)) (children_of p nodes xs))

    pub row_below : (row : List NodeNo) → IsRowOf nodes p (level + 1) row → IsRowOf nodes p level (children_of p nodes row)
    row_below row r = record { each = all_children row r.each; tiles = λ k kl kh. all_counted row r.each k kl kh ∙ r.tiles k kl kh }

-- some node of a level is visited
pub some_in_row : (nodes : List NodeState) (p : Part) (level : ℕ) (row : List NodeNo) → p.low < p.high → IsRowOf nodes p level row → 1 ≤ length row
some_in_row nodes p level row wide r = omega (arith, r.tiles p.low (omega arith) wide, count_by-le-length (holds_key_at nodes p.low p.last) row)

-- reads during the descent
pub reads_more : (m r r' passed row row' : ℕ) → 1 ≤ passed → r ≤ m + (passed - 1) * row → r' ≤ r + row → row ≤ row' → r' ≤ m + (passed + 1 - 1) * row'
reads_more m r r' (suc q) row row' h a b le =
    let e : suc q - 1 ≡ q = omega arith in
    let f : suc q + 1 - 1 ≡ suc q = omega arith in
    let a' : r ≤ m + q * row = rw e at a in
    let mono : q * row ≤ q * row' = mul_mono q row row' le in
    let more : suc q * row' ≡ row' + q * row' = suc_mul q row' in
    rw f (omega arith)
  where
    suc_mul : (q x : ℕ) → suc q * x ≡ x + q * x
    suc_mul q x = omega arith

    mul_mono : (q x y : ℕ) → x ≤ y → q * x ≤ q * y
    mul_mono zero x y l = omega arith
    mul_mono (suc q) x y l = omega (arith, suc_mul q x, suc_mul q y, mul_mono q x y l)
reads_more m r r' zero row row' h a b le = absurd (omega arith)

-- all reads
pub reads_all : (m r r' up first alive len : ℕ) → r ≤ m + up * first → first ≤ alive → r' ≤ r + len → r' ≤ m + len + up * alive
reads_all m r r' up first alive len a b c = let mono = mul_mono up first alive b in omega arith
  where
    suc_mul : (q x : ℕ) → suc q * x ≡ x + q * x
    suc_mul q x = omega arith

    mul_mono : (q x y : ℕ) → x ≤ y → q * x ≤ q * y
    mul_mono zero x y l = omega arith
    mul_mono (suc q) x y l = omega (arith, suc_mul q x, suc_mul q y, mul_mono q x y l)

-- the leaves at the part's last version are alive then
pub row_alive : (nodes : List NodeState) (p : Part) (row : List NodeNo) → All (IsMetNode nodes p 0) row → count_by (alive_at nodes p.last) row ≡ length row
row_alive nodes p [] a = refl
row_alive nodes p (x ∷ xs) a =
    let met = All-head (IsMetNode nodes p 0) x xs a in
    let one : tally (alive_at nodes p.last x) ≡ 1 = ap (λ o. tally (is_alive p.last o)) met.stands ∙ ap tally (within_true met.node.born met.node.died p.last met.born met.died) in
    omega (arith, one, count-cons (alive_at nodes p.last) x xs, row_alive nodes p xs (All-tail (IsMetNode nodes p 0) x xs a))

-- a longer list has at least as many leaves that are alive
pub alive_longer : (nodes : List NodeState) (p : Part) (first leaves sorted : List NodeNo) → All (IsMetNode nodes p 0) first → IsLonger first leaves → IsPermutation leaves sorted → length first ≤ count_by (alive_at nodes p.last) sorted
alive_longer nodes p first leaves sorted met longer moved =
    let same = sum_by-IsPermutation (λ n. tally (alive_at nodes p.last n)) leaves sorted moved in
    let parts : count_by (alive_at nodes p.last) leaves ≡ count_by (alive_at nodes p.last) first + count_by (alive_at nodes p.last) longer.more = ap (count_by (alive_at nodes p.last)) longer.is ∙ sum_by-append (λ n. tally (alive_at nodes p.last n)) first longer.more in
    omega (arith, same, parts, row_alive nodes p first met)
