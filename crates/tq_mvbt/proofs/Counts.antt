-- The number of live entries of a node: after an edit, at a version, and for a part of the keys.
use Rattle.std.proofs.Common.{◌≡◌, ℕ, zero, suc, ◌+◌, ◌<◌, ◌≤◌, ◌⊎◌, inl, inr, List, [], ◌∷◌, Bool, true, false, cond, ◌&&◌, length, map, ap, refl, arith, count_by, nat_eq, slice_get, Some}
use Rattle.std.specs.Prelude.{All}
use Rattle.std.proofs.lemmas.Bool.Decides.{nat_tests}
use Rattle.std.proofs.lemmas.List.Elements.{All-head, All-tail, All-weaker}
use Rattle.std.proofs.lemmas.List.Sums.{sum_by-cons}
use Rattle.tq_mvbt.specs.declared.entry.Entry.{Entry}
use Rattle.tq_mvbt.specs.NodeState.{NodeState}
use Rattle.tq_mvbt.specs.Points.{now, within, is_live, with_end}
use Rattle.tq_mvbt.specs.Shape.{tally, live_at, IsPlaced, IsNode}
use Rattle.tq_mvbt.proofs.Lists.{count_alike}

-- a test that holds wherever another one does counts at least as many
pub count_grows : {X : Type 0} (p q : X → Bool) (xs : List X) → All (λ x. p x ≡ true → q x ≡ true) xs → count_by p xs ≤ count_by q xs
count_grows p q [] a = omega arith
count_grows p q (x ∷ xs) a =
    let here = All-head (λ y. p y ≡ true → q y ≡ true) x xs a in
    let one = at_most (p x) (q x) here in
    omega (arith, one, sum_by-cons (λ y. tally (p y)) x xs, sum_by-cons (λ y. tally (q y)) x xs, count_grows p q xs (All-tail (λ y. p y ≡ true → q y ≡ true) x xs a))
  where
    at_most : (b c : Bool) → (b ≡ true → c ≡ true) → tally b ≤ tally c
    at_most true true f = omega arith
    at_most true false f = absurd (let h = f refl in cc)
    at_most false true f = omega arith
    at_most false false f = omega arith

-- a test that holds only if one of two does counts at most as many as both
pub count_either : {X : Type 0} (p q r : X → Bool) (xs : List X) → All (λ x. p x ≡ true → (q x ≡ true) ⊎ (r x ≡ true)) xs → count_by p xs ≤ count_by q xs + count_by r xs
count_either p q r [] a = omega arith
count_either p q r (x ∷ xs) a =
    let here = All-head (λ y. p y ≡ true → (q y ≡ true) ⊎ (r y ≡ true)) x xs a in
    let one = at_most (p x) (q x) (r x) here in
    omega (arith, one, sum_by-cons (λ y. tally (p y)) x xs, sum_by-cons (λ y. tally (q y)) x xs, sum_by-cons (λ y. tally (r y)) x xs, count_either p q r xs (All-tail (λ y. p y ≡ true → (q y ≡ true) ⊎ (r y ≡ true)) x xs a))
  where
    one_of : (c d : Bool) → (c ≡ true) ⊎ (d ≡ true) → 1 ≤ tally c + tally d
    one_of c d (inl h) = let e : tally c ≡ 1 = ap tally h in omega arith
    one_of c d (inr h) = let e : tally d ≡ 1 = ap tally h in omega arith

    at_most : (b c d : Bool) → (b ≡ true → (c ≡ true) ⊎ (d ≡ true)) → tally b ≤ tally c + tally d
    at_most true c d f = one_of c d (f refl)
    at_most false c d f = omega arith

-- if the test holds for at most one position, it counts at most one
pub count_one : {X : Type 0} (p : X → Bool) (xs : List X) (i : ℕ) → ((j : ℕ) (x : X) → slice_get xs j ≡ Some x → p x ≡ true → j ≡ i) → count_by p xs ≤ 1
count_one p [] i f = omega arith
count_one p (x ∷ xs) zero f =
    let none = count_none p xs (λ j y e t. absurd (later (f (suc j) y e t))) in
    let one = at_most (p x) in
    omega (arith, none, one, sum_by-cons (λ y. tally (p y)) x xs)
  where
    later : {j : ℕ} → suc j ≡ 0 → ⊥
    later e = omega arith

    at_most : (b : Bool) → tally b ≤ 1
    at_most true = omega arith
    at_most false = omega arith

    count_none : {X : Type 0} (p : X → Bool) (xs : List X) → ((j : ℕ) (x : X) → slice_get xs j ≡ Some x → p x ≡ true → ⊥) → count_by p xs ≡ 0
    count_none p [] f = refl
    count_none p (x ∷ xs) f =
        let none = off (p x) (f 0 x refl) in
        omega (arith, none, sum_by-cons (λ y. tally (p y)) x xs, count_none p xs (λ j y e t. f (suc j) y e t))
      where
        off : (b : Bool) → (b ≡ true → ⊥) → tally b ≡ 0
        off true g = absurd (g refl)
        off false g = refl
count_one p (x ∷ xs) (suc i) f =
    let none = off (p x) (λ t. let e = f 0 x refl t in omega arith) in
    let rest = count_one p xs i (λ j y e t. let s = f (suc j) y e t in omega arith) in
    omega (arith, none, rest, sum_by-cons (λ y. tally (p y)) x xs)
  where
    off : (b : Bool) → (b ≡ true → ⊥) → tally b ≡ 0
    off true g = absurd (g refl)
    off false g = refl

-- an element that passes, if one is counted
pub record Passes {X : Type 0} (p : X → Bool) (xs : List X) : Type 0 where
  pub place : ℕ
  pub element : X
  pub stands : slice_get xs place ≡ Some element
  pub passes : p element ≡ true

pub some_passes : {X : Type 0} (p : X → Bool) (xs : List X) → 1 ≤ count_by p xs → Passes p xs
some_passes p [] h = absurd (omega arith)
some_passes p (x ∷ xs) h = split (p x) refl (sum_by-cons (λ y. tally (p y)) x xs) (some_passes p xs)
  where
    split : (b : Bool) → p x ≡ b → count_by p (x ∷ xs) ≡ tally (p x) + count_by p xs → (1 ≤ count_by p xs → Passes p xs) → Passes p (x ∷ xs)
    split true e parts f = record { place = 0; element = x; stands = refl; passes = e }
    split false e parts f =
        let none : tally (p x) ≡ 0 = ap tally e in
        let rest = f (omega (arith, parts, none)) in
        record { place = suc rest.place; element = rest.element; stands = rest.stands; passes = rest.passes }

-- ---- an edit

-- whether the edit of the range ends the entry
abbrev pub is_ended : ℕ → ℕ → Entry → Bool
is_ended low high e = is_live e && within low high e.low

-- the live entries that the edit keeps, and those that it ends
pub live-edited : (low high version : ℕ) (es : List Entry) → version < now → count_by is_live (map (with_end low high version) es) + count_by (is_ended low high) es ≡ count_by is_live es
live-edited low high version [] small = refl
live-edited low high version (e ∷ es) small =
    let here = split (is_live e) (within low high e.low) refl in
    omega (arith, here, live-edited low high version es small, sum_by-cons (λ f. tally (is_live f)) e es, sum_by-cons (λ f. tally (is_live f)) (with_end low high version e) (map (with_end low high version) es), sum_by-cons (λ f. tally (is_ended low high f)) e es)
  where
    split : (l w : Bool) → is_live e ≡ l → tally (is_live (cond (l && w) (record e { dead = version }) e)) + tally (l && w) ≡ tally l
    split true true s = let off : nat_eq version now ≡ false = grind (arith, nat_tests) in rw off refl
    split true false s = rw s refl
    split false w s = rw s refl

-- at versions before the edit the number of live entries stays the same
pub lived-edited : (v low high version : ℕ) (es : List Entry) → v < version → version < now → count_by (λ e. within e.born e.dead v) (map (with_end low high version) es) ≡ count_by (λ e. within e.born e.dead v) es
lived-edited v low high version [] h small = refl
lived-edited v low high version (e ∷ es) h small =
    let here : tally (within (with_end low high version e).born (with_end low high version e).dead v) ≡ tally (within e.born e.dead v) = split (is_live e) (within low high e.low) refl in
    omega (arith, here, lived-edited v low high version es h small, sum_by-cons (λ f. tally (within f.born f.dead v)) e es, sum_by-cons (λ f. tally (within f.born f.dead v)) (with_end low high version e) (map (with_end low high version) es))
  where
    split : (l w : Bool) → is_live e ≡ l → tally (within (cond (l && w) (record e { dead = version }) e).born (cond (l && w) (record e { dead = version }) e).dead v) ≡ tally (within e.born e.dead v)
    split true true s = let same : within e.born version v ≡ within e.born e.dead v = grind (arith, nat_tests) in ap tally same
    split true false s = refl
    split false w s = refl

-- entries that all live
pub all_live : (es : List Entry) → All (λ e. e.dead ≡ now) es → count_by is_live es ≡ length es
all_live [] a = refl
all_live (e ∷ es) a =
    let d = All-head (λ f. f.dead ≡ now) e es a in
    let one : tally (is_live e) ≡ 1 = (let t : is_live e ≡ true = grind (arith, nat_tests) in ap tally t) in
    omega (arith, one, all_live es (All-tail (λ f. f.dead ≡ now) e es a), sum_by-cons (λ f. tally (is_live f)) e es)

-- ---- at a version

-- from the version of the last change on, exactly the entries live that live now
pub live_at-now : (version v : ℕ) (lives : ℕ → ℕ → Bool) (nodes : List NodeState) (n : NodeState) → IsNode version lives nodes n → version ≤ v → v < now → live_at v n ≡ count_by is_live n.entries
live_at-now version v lives nodes n node h small =
    count_alike (λ e. within e.born e.dead v) is_live n.entries (All-weaker (IsPlaced version n) (λ e. within e.born e.dead v ≡ is_live e) alike n.entries node.placed)
  where
    alike : (e : Entry) → IsPlaced version n e → within e.born e.dead v ≡ is_live e
    alike e p = split (nat_eq e.dead now) refl
      where
        split : (b : Bool) → nat_eq e.dead now ≡ b → within e.born e.dead v ≡ b
        split true s = let a = p.born in grind (arith, nat_tests)
        split false s = let b = p.ends in let c = p.ended in grind (arith, nat_tests)
