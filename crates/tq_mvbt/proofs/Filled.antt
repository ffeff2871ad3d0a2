-- The number of entries of a node: a new node has enough of them, and a node that ends had.
use Rattle.std.proofs.Common.{◌≡◌, ℕ, ◌+◌, ◌-◌, ◌<◌, ◌≤◌, List, [], ◌∷◌, ◌++◌, true, false, length, ap, refl, arith, count_by, take, drop, length-take}
use Rattle.std.specs.Prelude.{All}
use Rattle.std.proofs.lemmas.Bool.Decides.{nat_tests}
use Rattle.std.proofs.lemmas.List.{take-append-drop}
use Rattle.std.proofs.lemmas.List.Elements.{All-head, All-tail}
use Rattle.std.proofs.lemmas.List.Sums.{sum_by-cons, sum_by-append}
use Rattle.tq_mvbt.specs.declared.entry.Entry.{Entry}
use Rattle.tq_mvbt.specs.declared.node.Link.{Link}
use Rattle.tq_mvbt.specs.NodeState.{NodeState}
use Rattle.tq_mvbt.specs.Points.{now, within}
use Rattle.tq_mvbt.specs.Shape.{top, tally, IsFilled}
use Rattle.tq_mvbt.specs.Steps.{fresh, retired, IsDivided}
use Rattle.tq_mvbt.specs.Copies.{IsInside}
use Rattle.tq_mvbt.specs.Unsettled.{IsFilledBefore}

-- what was copied lives from the version on
copied_live : (version low high v : ℕ) (items : List Entry) → All (IsInside version low high) items → version ≤ v → v < now → count_by (λ e. within e.born e.dead v) items ≡ length items
copied_live version low high v [] a h s = refl
copied_live version low high v (e ∷ items) a h s =
    let i = All-head (IsInside version low high) e items a in
    let b = i.born in
    let d = i.dead in
    let one : tally (within e.born e.dead v) ≡ 1 = (let t : within e.born e.dead v ≡ true = grind (arith, nat_tests) in ap tally t) in
    omega (arith, one, sum_by-cons (λ f. tally (within f.born f.dead v)) e items, copied_live version low high v items (All-tail (IsInside version low high) e items a) h s)

-- a new node with 5 to 32 entries
pub filled_begins : {ls : List Link} → (level low high version : ℕ) (items : List Entry) → All (IsInside version low high) items → 5 ≤ length items → length items ≤ 32 → IsFilled (fresh level low high version items ls)
filled_begins level low high version items inside many few =
    record {
      fits = few;
      enough = λ v h.
          let n = copied_live version low high v items inside (grind (arith, nat_tests)) (grind (arith, nat_tests)) in
          record { lower = λ x. omega (arith, n); upper = λ x. omega (arith, n); index = λ x. omega (arith, n) };
    }

-- a new root: up to 24 entries, and 2 above the leaves
pub filled_root : {ls : List Link} → (level version : ℕ) (items : List Entry) → All (IsInside version 0 top) items → (0 < level → 2 ≤ length items) → length items ≤ 32 → IsFilled (fresh level 0 top version items ls)
filled_root level version items inside many few =
    record {
      fits = few;
      enough = λ v h.
          let n = copied_live version 0 top v items inside (grind (arith, nat_tests)) (grind (arith, nat_tests)) in
          record { lower = λ x. absurd (omega arith); upper = λ x. absurd (omega arith); index = λ x. let m = many x in omega (arith, n, m) };
    }

-- 25 to 40 entries make two nodes of 12 to 20
pub parts_filled : {ls : List Link} → (level low middle high version : ℕ) (items lower upper : List Entry) → All (IsInside version low middle) lower → All (IsInside version middle high) upper → IsDivided items lower upper middle → 25 ≤ length items → length items ≤ 40 → IsFilled (fresh level low middle version lower ls) × IsFilled (fresh level middle high version upper ls)
parts_filled level low middle high version items lower upper a b cut many few =
    let l = cut.lower_len in
    let u = cut.upper_len in
    (filled_begins level low middle version lower a (omega arith) (omega arith), filled_begins level middle high version upper b (omega arith) (omega arith))

-- before the version at which entries end or begin, equally many live
pub not_yet : (version v : ℕ) (xs : List Entry) → All (λ e. version ≤ e.born) xs → v < version → count_by (λ e. within e.born e.dead v) xs ≡ 0
not_yet version v [] a h = refl
not_yet version v (e ∷ xs) a h =
    let b = All-head (λ f. version ≤ f.born) e xs a in
    let none : tally (within e.born e.dead v) ≡ 0 = (let t : within e.born e.dead v ≡ false = grind (arith, nat_tests) in ap tally t) in
    omega (arith, none, sum_by-cons (λ f. tally (within f.born f.dead v)) e xs, not_yet version v xs (All-tail (λ f. version ≤ f.born) e xs a) h)

pub filled_ends : (version last : ℕ) (n : NodeState) → version < now → n.died ≡ now → length n.entries ≤ 32 + last → last ≤ length n.entries → All (λ e. version ≤ e.born) (drop (length n.entries - last) n.entries) → IsFilledBefore version n → IsFilled (retired version last n)
filled_ends version last n small died few in_items young filled =
    let items = n.entries in
    let i = length items - last in
    record {
      fits = omega (arith, length-take i items);
      enough = λ v h.
          let b : v < version = grind (arith, nat_tests) in
          let stood : within n.born n.died v ≡ true = grind (arith, nat_tests) in
          let was = filled.enough v b stood in
          let none = not_yet version v (drop i items) young b in
          let parts = sum_by-append (λ e. tally (within e.born e.dead v)) (take i items) (drop i items) in
          let whole : count_by (λ e. within e.born e.dead v) (take i items ++ drop i items) ≡ count_by (λ e. within e.born e.dead v) items = ap (λ xs. count_by (λ e. within e.born e.dead v) xs) (take-append-drop i items) in
          let same : count_by (λ e. within e.born e.dead v) (take i items) ≡ count_by (λ e. within e.born e.dead v) items = omega (arith, none, parts, whole) in
          record { lower = λ x. let w = was.lower x in omega (arith, w, same); upper = λ x. let w = was.upper x in omega (arith, w, same); index = λ x. let w = was.index x in omega (arith, w, same) };
    }
