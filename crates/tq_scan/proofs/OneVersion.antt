-- A window of one version: each of its leaves, except two, has five keys that are found.
use Rattle.std.proofs.Common.{◌≡◌, ℕ, ◌+◌, ◌-◌, ◌*◌, ◌/◌, ◌<◌, ◌≤◌, Bool, true, false, ◌&&◌, List, [], ◌∷◌, length, filter, ap, refl, sym, ◌∙◌, subst, arith, count_by, slice_get, Some, None, Option, nat_eq, nat_le, nat_lt, length-append}
use Rattle.std.specs.Prelude.{All}
use Rattle.std.proofs.lemmas.Bool.Decides.{nat_tests}
use Rattle.std.proofs.lemmas.List.{length-map}
use Rattle.std.proofs.lemmas.List.Elements.{All-head, All-tail, All-weaker}
use Rattle.std.proofs.lemmas.List.Sums.{length-filter}
use Rattle.tq_arena.specs.declared.arena.NodeNo.{NodeNo}
use Rattle.tq_mvbt.specs.declared.entry.Entry.{Entry}
use Rattle.tq_mvbt.specs.declared.root.Root.{Root}
use Rattle.tq_mvbt.specs.NodeState.{NodeState}
use Rattle.tq_mvbt.specs.Points.{now, within, holds}
use Rattle.tq_mvbt.specs.Shape.{at_point, IsPlaced, IsFilled}
use Rattle.tq_mvbt.specs.TreeState.{IsTree}
use Rattle.tq_mvbt.specs.Tiling.{IsTiling}
use Rattle.tq_scan.specs.declared.window.Part.{Part}
use Rattle.tq_scan.specs.declared.window.Window.{Window}
use Rattle.tq_scan.specs.Windows.{IsInside}
use Rattle.tq_scan.specs.Scans.{IsMetLeaf, numbers}
use Rattle.tq_scan.specs.Lists.{ListsOnce}
use Rattle.tq_scan.specs.Reports.{is_reported, reported_keys, keys_at, keys_of}
use Rattle.tq_scan.specs.Rows.{holds_key, holds_key_at}
use Rattle.tq_scan.proofs.Lists.{tally, count-cons, all_at, all_from_places, all_numbers, times, times_numbers, some_passes}
use Rattle.tq_scan.proofs.KeysOnce.{within_true, within_low, within_high, and_first, and_second, held_of, holds_from, reported_from, each, one_leaf, unique, at_leaf, small, keys_small}
use Rattle.tq_scan.proofs.MetLeaves.{met_from, meeting_from}

-- a test that holds wherever another one does counts at least as many
count_grows : {X : Type 0} (p q : X → Bool) (xs : List X) → All (λ x. p x ≡ true → q x ≡ true) xs → count_by p xs ≤ count_by q xs
count_grows p q [] a = omega arith
count_grows p q (x ∷ xs) a =
    let one = at_most (p x) (q x) (All-head (λ y. p y ≡ true → q y ≡ true) x xs a) in
    omega (arith, one, count-cons p x xs, count-cons q x xs, count_grows p q xs (All-tail (λ y. p y ≡ true → q y ≡ true) x xs a))
  where
    at_most : (b c : Bool) → (b ≡ true → c ≡ true) → tally b ≤ tally c
    at_most true true f = omega arith
    at_most true false f = absurd (let h = f refl in cc)
    at_most false true f = omega arith
    at_most false false f = omega arith

-- whether a leaf lies inside the part's keys
abbrev is_inner : Part → Option NodeState → Bool
is_inner p None = false
is_inner p (Some n) = nat_lt p.low n.low && nat_le n.high p.high

module _ (version : ℕ) (nodes : List NodeState) (roots : List Root) (tree : IsTree version nodes roots) (tiling : IsTiling nodes roots) (w : Window) (p : Part) (inside : IsInside w p) (one : w.first ≡ w.last) where
  abbrev v : ℕ
  v = w.first

  v_small : v < now
  v_small = (let b = w.in_versions in omega arith)

  -- a leaf that meets the part is alive at the version
  born_by : (b : ℕ) → (met : IsMetLeaf nodes p b) → met.node.born ≤ v
  born_by b met = (let m = (meeting_from version nodes roots tree tiling w p inside b met).born in let l = inside.last in omega arith)

  died_after : (b : ℕ) → (met : IsMetLeaf nodes p b) → v < met.node.died
  died_after b met = (let m = (meeting_from version nodes roots tree tiling w p inside b met).died in let l = inside.first in omega arith)

  -- ---- a leaf inside has five keys

  live_reported : (b : ℕ) → (met : IsMetLeaf nodes p b) → is_inner p (Some met.node) ≡ true → (j : ℕ) (e : Entry) → slice_get met.node.entries j ≡ Some e → within e.born e.dead v ≡ true → is_reported w p met.node e ≡ true
  live_reported b met inner j e s live =
      let n = met.node in
      let placed = all_at (IsPlaced version n) n.entries j e (each version nodes roots tree tiling b n met.stands).placed s in
      let x1 = less p.low n.low (and_first (nat_lt p.low n.low) (nat_le n.high p.high) inner) in
      let x2 = at_most n.high p.high (and_second (nat_lt p.low n.low) (nat_le n.high p.high) inner) in
      let a1 = placed.low in let a2 = placed.wide in let a3 = placed.high in
      let l1 = within_low e.born e.dead v live in
      let l2 = within_high e.born e.dead v live in
      let b1 = born_by b met in let b2 = died_after b met in
      let i1 = inside.first in let i2 = inside.last in let i3 = inside.long in
      reported_from w p n (small version nodes roots tree tiling w p inside) e (record {
        inside = record { low = omega arith; high = omega arith; first = omega arith; last = omega arith };
        born = omega arith;
        died = omega arith;
        dead = omega arith;
      })
    where
      less : (a b : ℕ) → nat_lt a b ≡ true → a < b
      less a b h = grind (arith, nat_tests)

      at_most : (a b : ℕ) → nat_le a b ≡ true → a ≤ b
      at_most a b h = grind (arith, nat_tests)

  five : (b : ℕ) → (met : IsMetLeaf nodes p b) → is_inner p (Some met.node) ≡ true → 5 ≤ length (reported_keys w p met.node)
  five b met inner =
      let n = met.node in
      let filled = all_at IsFilled nodes b n tree.filled met.stands in
      let low : p.low < n.low = less p.low n.low (and_first (nat_lt p.low n.low) (nat_le n.high p.high) inner) in
      let enough = (filled.enough v (within_true n.born n.died v (born_by b met) (died_after b met))).lower (omega arith) in
      let more = count_grows (λ (e : Entry). within e.born e.dead v) (is_reported w p n) n.entries (all_from_places (λ (e : Entry). within e.born e.dead v ≡ true → is_reported w p n e ≡ true) n.entries (live_reported b met inner)) in
      omega (arith, enough, more, length-map (filter (is_reported w p n) n.entries) (λ (e : Entry). e.low), length-filter (is_reported w p n) n.entries)
    where
      less : (a b : ℕ) → nat_lt a b ≡ true → a < b
      less a b h = grind (arith, nat_tests)

  -- ---- the leaves at the ends

  held_by_one : (leaves : List NodeNo) → ListsOnce (IsMetLeaf nodes p) (numbers leaves) → (k : ℕ) → p.low ≤ k → k < p.high → count_by (holds_key_at nodes k v) leaves ≤ 1
  held_by_one leaves lists k kl kh =
      let kt = keys_small version nodes roots tree tiling w p inside k kh in
      let count = one_leaf version nodes roots tree tiling k v kt v_small in
      let f = some_passes (at_point 0 k v) nodes (omega arith) in
      let leaf = at_leaf version nodes roots tree tiling f.element k v f.passes in
      let held = and_second (nat_eq f.element.level 0) (holds k v f.element) f.passes in
      let h = held_of f.element k v held in
      let h1 = h.low in let h2 = h.high in let h3 = h.born in let h4 = h.died in
      let i1 = inside.first in let i2 = inside.last in let i3 = inside.long in
      let met = met_from version nodes roots tree tiling w p inside f.place f.element f.stands leaf (record { low = omega arith; high = omega arith; born = omega arith; died = omega arith }) in
      let once : times f.place leaves ≡ 1 = sym (times_numbers f.place leaves) ∙ lists.once f.place met in
      let more = count_grows (holds_key_at nodes k v) (λ (a : NodeNo). nat_eq f.place a.0) leaves (All-weaker (λ (a : NodeNo). IsMetLeaf nodes p a.0) (λ (a : NodeNo). holds_key_at nodes k v a ≡ true → nat_eq f.place a.0 ≡ true) (λ a m t.
      let its : holds k v m.node ≡ true = ap (holds_key k v) (sym m.stands) ∙ t in
      is_same f.place a.0 (unique version nodes roots tree tiling f.place a.0 f.element m.node k v kt v_small f.stands m.stands leaf m.leaf held its)) leaves (all_numbers (IsMetLeaf nodes p) leaves lists.all)) in
      omega arith
    where
      is_same : (a b : ℕ) → a ≡ b → nat_eq a b ≡ true
      is_same a b h = grind (arith, nat_tests)

  ends_or_inner : (a : NodeNo) → IsMetLeaf nodes p a.0 → 1 ≤ tally (is_inner p (slice_get nodes a.0)) + (tally (holds_key_at nodes p.low v a) + tally (holds_key_at nodes (p.high - 1) v a))
  ends_or_inner a met =
      let n = met.node in
      let m = meeting_from version nodes roots tree tiling w p inside a.0 met in
      let m1 = m.low in let m2 = m.high in let w1 = inside.wide in
      let wide = (each version nodes roots tree tiling a.0 n met.stands).wide in
      subst (λ o. 1 ≤ tally (is_inner p o) + (tally (holds_key p.low v o) + tally (holds_key (p.high - 1) v o))) (sym met.stands)
      (split (nat_lt p.low n.low) (nat_le n.high p.high) refl refl
      (λ h. ap tally (holds_from n p.low v (record { low = h; high = m2; born = born_by a.0 met; died = died_after a.0 met })))
      (λ h. ap tally (holds_from n (p.high - 1) v (record { low = omega arith; high = omega arith; born = born_by a.0 met; died = died_after a.0 met }))))
    where
      split : (s t : Bool) → nat_lt p.low met.node.low ≡ s → nat_le met.node.high p.high ≡ t → (met.node.low ≤ p.low → tally (holds p.low v met.node) ≡ 1) → (p.high < met.node.high → tally (holds (p.high - 1) v met.node) ≡ 1) → 1 ≤ tally (s && t) + (tally (holds p.low v met.node) + tally (holds (p.high - 1) v met.node))
      split true true e f g h = omega arith
      split true false e f g h = (let x : p.high < met.node.high = grind (arith, nat_tests) in let y = h x in omega arith)
      split false t e f g h = (let x : met.node.low ≤ p.low = grind (arith, nat_tests) in let y = g x in omega arith)

  all_ends : (leaves : List NodeNo) → All (λ a. IsMetLeaf nodes p a.0) leaves → length leaves ≤ count_by (λ (a : NodeNo). is_inner p (slice_get nodes a.0)) leaves + (count_by (holds_key_at nodes p.low v) leaves + count_by (holds_key_at nodes (p.high - 1) v) leaves)
  all_ends [] a = omega arith
  all_ends (x ∷ xs) a =
      let here = ends_or_inner x (All-head (λ (b : NodeNo). IsMetLeaf nodes p b.0) x xs a) in
      let rest = all_ends xs (All-tail (λ (b : NodeNo). IsMetLeaf nodes p b.0) x xs a) in
      omega (arith, here, rest, count-cons (λ (b : NodeNo). is_inner p (slice_get nodes b.0)) x xs, count-cons (holds_key_at nodes p.low v) x xs, count-cons (holds_key_at nodes (p.high - 1) v) x xs)

  five_each : (leaves : List NodeNo) → All (λ a. IsMetLeaf nodes p a.0) leaves → 5 * count_by (λ (a : NodeNo). is_inner p (slice_get nodes a.0)) leaves ≤ length (keys_of w p nodes leaves)
  five_each [] a = omega arith
  five_each (x ∷ xs) a =
      let met = All-head (λ (b : NodeNo). IsMetLeaf nodes p b.0) x xs a in
      let here : 5 * tally (is_inner p (slice_get nodes x.0)) ≤ length (keys_at w p (slice_get nodes x.0)) = subst (λ o. 5 * tally (is_inner p o) ≤ length (keys_at w p o)) (sym met.stands) (split met (is_inner p (Some met.node)) refl) in
      let rest = five_each xs (All-tail (λ (b : NodeNo). IsMetLeaf nodes p b.0) x xs a) in
      omega (arith, here, rest, count-cons (λ (b : NodeNo). is_inner p (slice_get nodes b.0)) x xs, length-append (keys_at w p (slice_get nodes x.0)) (keys_of w p nodes xs))
    where
      split : (met : IsMetLeaf nodes p x.0) → (t : Bool) → is_inner p (Some met.node) ≡ t → 5 * tally t ≤ length (reported_keys w p met.node)
      split met false e = omega arith
      split met true e = (let f = five x.0 met e in omega arith)

  pub few_met : (leaves : List NodeNo) → ListsOnce (IsMetLeaf nodes p) (numbers leaves) → length leaves ≤ length (keys_of w p nodes leaves) / 5 + 2
  few_met leaves lists =
      let all = all_numbers (IsMetLeaf nodes p) leaves lists.all in
      let w1 = inside.wide in
      omega (arith, all_ends leaves all, five_each leaves all, held_by_one leaves lists p.low (omega arith) w1, held_by_one leaves lists (p.high - 1) (omega arith) (omega arith))
