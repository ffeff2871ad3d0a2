-- What ends and what begins over the same keys hold the same points.
use Rattle.std.proofs.Common.{◌≡◌, ℕ, ◌+◌, ◌<◌, ◌≤◌, List, [], ◌∷◌, map, Bool, true, false, cond, not, ◌&&◌, ap, refl, arith, count_by, filter, nat_eq}
use Rattle.std.specs.Prelude.{All}
use Rattle.std.proofs.lemmas.Bool.Decides.{nat_tests}
use Rattle.std.proofs.lemmas.List.Elements.{All-head, All-tail}
use Rattle.std.proofs.lemmas.List.Sums.{sum_by-cons}
use Rattle.tq_mvbt.specs.declared.entry.Entry.{Entry}
use Rattle.tq_mvbt.specs.NodeState.{NodeState}
use Rattle.tq_mvbt.specs.Points.{now, within, covers, is_live, with_end}
use Rattle.tq_mvbt.specs.Shape.{tally, at_point}

-- ---- regions

-- a life that is cut at a version: the points from the version on are lost
life_cut : (born version v : ℕ) → born ≤ version → v < now → tally (within born now v) ≡ tally (within born version v) + tally (within version now v)
life_cut born version v b h = grind (arith, nat_tests)

-- a range that is cut at a key
pub range_cut : (low middle high k : ℕ) → low ≤ middle → middle ≤ high → tally (within low high k) ≡ tally (within low middle k) + tally (within middle high k)
range_cut low middle high k a b = grind (arith, nat_tests)

-- ---- the node that ends

abbrev ended : ℕ → NodeState → NodeState
ended version n = record n { died = version }

-- the points that a node loses if it ends at a version
pub node_ends : (level k v version : ℕ) (n : NodeState) → n.died ≡ now → n.born ≤ version → v < now → tally (at_point level k v n) ≡ tally (at_point level k v (ended version n)) + tally (nat_eq n.level level && (within n.low n.high k && within version now v))
node_ends level k v version n d b h = split (nat_eq n.level level) (within n.low n.high k)
  where
    cut : tally (within n.born n.died v) ≡ tally (within n.born version v) + tally (within version now v)
    cut = rw d (life_cut n.born version v b h)

    split : (p q : Bool) → tally (p && (q && within n.born n.died v)) ≡ tally (p && (q && within n.born version v)) + tally (p && (q && within version now v))
    split true true = cut
    split true false = refl
    split false true = refl
    split false false = refl

-- a node that begins at the version holds the points of its keys from there on
pub node_begins : (level k v version : ℕ) (n : NodeState) → n.died ≡ now → n.born ≡ version → tally (at_point level k v n) ≡ tally (nat_eq n.level level && (within n.low n.high k && within version now v))
node_begins level k v version n d b = rw (d, b) refl

-- ---- the entries of a node

-- an entry that ended did not end after the version
abbrev pub IsMarked : ℕ → Entry → Type 0
IsMarked version e = (e.dead ≤ now) × (e.dead < now → e.dead ≤ version)

count-cons : {X : Type 0} (p : X → Bool) (x : X) (xs : List X) → count_by p (x ∷ xs) ≡ tally (p x) + count_by p xs
count-cons p x xs = sum_by-cons (λ y. tally (p y)) x xs

-- an entry that ended covers no point from the version on
ended_covers : (k v version : ℕ) (e : Entry) → IsMarked version e → is_live e ≡ false → version ≤ v → covers k v e ≡ false
ended_covers k v version e m d h = grind (arith, nat_tests)

-- from the version on, entries hold exactly the points that the live ones hold
pub covers-filter_live : (k v version : ℕ) (es : List Entry) → All (IsMarked version) es → version ≤ v → count_by (covers k v) (filter is_live es) ≡ count_by (covers k v) es
covers-filter_live k v version [] m h = refl
covers-filter_live k v version (e ∷ es) m h = split (is_live e) refl (covers-filter_live k v version es (All-tail (IsMarked version) e es m) h)
  where
    split : (b : Bool) → is_live e ≡ b → count_by (covers k v) (filter is_live es) ≡ count_by (covers k v) es → count_by (covers k v) (cond b (e ∷ filter is_live es) (filter is_live es)) ≡ count_by (covers k v) (e ∷ es)
    split true d rest = omega (arith, rest, count-cons (covers k v) e es, count-cons (covers k v) e (filter is_live es))
    split false d rest =
        let none : tally (covers k v e) ≡ 0 = ap tally (ended_covers k v version e (All-head (IsMarked version) e es m) d h) in
        omega (arith, rest, none, count-cons (covers k v) e es)

-- entries with other ranges hold no point of the key
pub covers-elsewhere : (k v : ℕ) (es : List Entry) → All (λ e. within e.low e.high k ≡ false) es → count_by (covers k v) es ≡ 0
covers-elsewhere k v [] a = refl
covers-elsewhere k v (e ∷ es) a =
    let none : tally (covers k v e) ≡ 0 = rw (All-head (λ f. within f.low f.high k ≡ false) e es a) refl in
    omega (arith, none, count-cons (covers k v) e es, covers-elsewhere k v es (All-tail (λ f. within f.low f.high k ≡ false) e es a))

-- before the version at which they end, entries hold the same points
ends_later : (k v low high version : ℕ) (e : Entry) → v < version → version < now → covers k v (with_end low high version e) ≡ covers k v e
ends_later k v low high version e h f = split (is_live e && within low high e.low) refl
  where
    split : (b : Bool) → (is_live e && within low high e.low) ≡ b → covers k v (cond b (record e { dead = version }) e) ≡ covers k v e
    split false d = refl
    split true d = grind (arith, nat_tests)

pub covers-ended_before : (k v low high version : ℕ) (es : List Entry) → v < version → version < now → count_by (covers k v) (map (with_end low high version) es) ≡ count_by (covers k v) es
covers-ended_before k v low high version [] h f = refl
covers-ended_before k v low high version (e ∷ es) h f =
    let here : tally (covers k v (with_end low high version e)) ≡ tally (covers k v e) = ap tally (ends_later k v low high version e h f) in
    omega (arith, here, count-cons (covers k v) e es, count-cons (covers k v) (with_end low high version e) (map (with_end low high version) es), covers-ended_before k v low high version es h f)

-- whether the edit of the range leaves the entry's points from its version on
abbrev pub is_beside : ℕ → ℕ → Entry → Bool
is_beside low high e = not (is_live e && within low high e.low)

ends_now : (k v low high version : ℕ) (e : Entry) → version ≤ v → covers k v (with_end low high version e) ≡ (covers k v e && is_beside low high e)
ends_now k v low high version e h = split (is_live e && within low high e.low) (covers k v e) refl
  where
    split : (b c : Bool) → covers k v e ≡ c → covers k v (cond b (record e { dead = version }) e) ≡ (c && not b)
    split false true d = d
    split false false d = d
    split true true d = grind (arith, nat_tests)
    split true false d = grind (arith, nat_tests)

-- from that version on, the remaining entries hold their points
pub covers-ended_after : (k v low high version : ℕ) (es : List Entry) → version ≤ v → count_by (covers k v) (map (with_end low high version) es) ≡ count_by (λ e. covers k v e && is_beside low high e) es
covers-ended_after k v low high version [] h = refl
covers-ended_after k v low high version (e ∷ es) h =
    let here : tally (covers k v (with_end low high version e)) ≡ tally (covers k v e && is_beside low high e) = ap tally (ends_now k v low high version e h) in
    omega (arith, here, count-cons (λ f. covers k v f && is_beside low high f) e es, count-cons (covers k v) (with_end low high version e) (map (with_end low high version) es), covers-ended_after k v low high version es h)
