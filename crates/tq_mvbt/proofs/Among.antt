-- Counting keys: how many of a range pass a test.
use Rattle.std.proofs.Common.{◌≡◌, ◌≢◌, ℕ, zero, suc, ◌+◌, ◌-◌, ◌*◌, ◌<◌, ◌≤◌, Bool, true, false, ◌&&◌, List, [], ◌∷◌, ap, refl, sym, ◌∙◌, arith, count_by, nat_lt, nat_eq, sum_by}
use Rattle.std.specs.Prelude.{All}
use Rattle.std.proofs.lemmas.Bool.Decides.{nat_tests}
use Rattle.std.proofs.lemmas.List.Elements.{All-head, All-tail}
use Rattle.std.proofs.lemmas.List.Sums.{sum_by-cons}
use Rattle.tq_mvbt.specs.Shape.{tally}
use Rattle.tq_mvbt.specs.TreeState.{count_keys}

pub count_keys-zero : (p : ℕ → Bool) (low : ℕ) → count_keys p low zero ≡ 0
unfolding count_keys
count_keys-zero p low = refl

pub count_keys-suc : (p : ℕ → Bool) (low n : ℕ) → count_keys p low (suc n) ≡ tally (p (low + n)) + count_keys p low n
unfolding count_keys
count_keys-suc p low n = refl

-- a test that holds wherever another does passes at least as many keys
pub count_keys-grows : (p q : ℕ → Bool) (low n : ℕ) → ((k : ℕ) → low ≤ k → k < low + n → tally (p k) ≤ tally (q k)) → count_keys p low n ≤ count_keys q low n
count_keys-grows p q low zero f = omega (arith, count_keys-zero p low, count_keys-zero q low)
count_keys-grows p q low (suc n) f =
    let here = f (low + n) (omega arith) (omega arith) in
    omega (arith, here, count_keys-suc p low n, count_keys-suc q low n, count_keys-grows p q low n (λ k a b. f k a (omega arith)))

-- equal tests pass equally many keys
pub count_keys-alike : (p q : ℕ → Bool) (low n : ℕ) → ((k : ℕ) → low ≤ k → k < low + n → p k ≡ q k) → count_keys p low n ≡ count_keys q low n
count_keys-alike p q low zero f = count_keys-zero p low ∙ sym (count_keys-zero q low)
count_keys-alike p q low (suc n) f =
    let here : tally (p (low + n)) ≡ tally (q (low + n)) = ap tally (f (low + n) (omega arith) (omega arith)) in
    omega (arith, here, count_keys-suc p low n, count_keys-suc q low n, count_keys-alike p q low n (λ k a b. f k a (omega arith)))

-- two adjacent ranges
pub count_keys-add : (p : ℕ → Bool) (low a b : ℕ) → count_keys p low (a + b) ≡ count_keys p low a + count_keys p (low + a) b
count_keys-add p low a zero = let z : a + 0 ≡ a = omega arith in rw z (omega (arith, count_keys-zero p (low + a)))
count_keys-add p low a (suc b) =
    let s : a + suc b ≡ suc (a + b) = omega arith in
    let at : low + (a + b) ≡ low + a + b = omega arith in
    let same : tally (p (low + (a + b))) ≡ tally (p (low + a + b)) = ap (λ k. tally (p k)) at in
    rw s (omega (arith, same, count_keys-suc p low (a + b), count_keys-suc p (low + a) b, count_keys-add p low a b))

-- a part of a range passes at most as many keys
pub count_keys-part : (p : ℕ → Bool) (low n low' n' : ℕ) → low ≤ low' → low' + n' ≤ low + n → count_keys p low' n' ≤ count_keys p low n
count_keys-part p low n low' n' a b =
    let front : ℕ = low' - low in
    let back : ℕ = low + n - (low' + n') in
    let whole : n ≡ front + (n' + back) = omega arith in
    let at : low + front ≡ low' = omega arith in
    let one = count_keys-add p low front (n' + back) in
    let two = count_keys-add p (low + front) n' back in
    let same : count_keys p (low + front) n' ≡ count_keys p low' n' = ap (λ k. count_keys p k n') at in
    rw whole (omega (arith, one, two, same))

-- at most one more key passes
pub count_keys-one_more : (p q : ℕ → Bool) (key low n : ℕ) → ((k : ℕ) → k ≢ key → tally (p k) ≤ tally (q k)) → count_keys p low n ≤ count_keys q low n + tally (nat_lt key (low + n))
count_keys-one_more p q key low zero f = omega (arith, count_keys-zero p low, count_keys-zero q low)
count_keys-one_more p q key low (suc n) f = split (nat_eq (low + n) key) refl (count_keys-one_more p q key low n f)
  where
    most : (b : Bool) → tally b ≤ 1
    most true = omega arith
    most false = omega arith

    rises : (x y : ℕ) → x ≤ y → tally (nat_lt key x) ≤ tally (nat_lt key y)
    rises x y h = grind (arith, nat_tests)

    split : (b : Bool) → nat_eq (low + n) key ≡ b → count_keys p low n ≤ count_keys q low n + tally (nat_lt key (low + n)) → count_keys p low (suc n) ≤ count_keys q low (suc n) + tally (nat_lt key (low + suc n))
    split true s rest =
        let at : low + n ≡ key = grind (arith, nat_tests) in
        let off : tally (nat_lt key (low + n)) ≡ 0 = (let t : nat_lt key (low + n) ≡ false = grind (arith, nat_tests) in ap tally t) in
        let on : tally (nat_lt key (low + suc n)) ≡ 1 = (let t : nat_lt key (low + suc n) ≡ true = grind (arith, nat_tests) in ap tally t) in
        omega (arith, rest, off, on, most (p (low + n)), count_keys-suc p low n, count_keys-suc q low n)
    split false s rest =
        let here = f (low + n) (grind (arith, nat_tests)) in
        let more = rises (low + n) (low + suc n) (omega arith) in
        omega (arith, rest, here, more, count_keys-suc p low n, count_keys-suc q low n)

-- ---- over a list of ranges

-- the number of keys that pass both the test and that of each element, added up
abbrev pub shared : {X : Type 0} → (ℕ → Bool) → (X → ℕ → Bool) → ℕ → ℕ → List X → ℕ
shared w c low n xs = sum_by (λ x. count_keys (λ k. w k && c x k) low n) xs

one_key : {X : Type 0} (w : Bool) (c : X → Bool) (xs : List X) → count_by c xs ≤ 1 → sum_by (λ x. tally (w && c x)) xs ≤ tally w
one_key true c xs h = same xs h
  where
    same : (ys : List _) → count_by c ys ≤ 1 → sum_by (λ x. tally (true && c x)) ys ≤ 1
    same ys g = g
one_key false c xs h = none xs
  where
    none : (ys : List _) → sum_by (λ x. tally (false && c x)) ys ≤ 0
    none [] = omega arith
    none (y ∷ ys) = omega (arith, none ys, sum_by-cons (λ x. tally (false && c x)) y ys)

-- if no key is in two of the ranges, the sum is at most the number of keys
pub shared-most : {X : Type 0} (w : ℕ → Bool) (c : X → ℕ → Bool) (low n : ℕ) (xs : List X) → ((k : ℕ) → low ≤ k → k < low + n → count_by (λ x. c x k) xs ≤ 1) → shared w c low n xs ≤ count_keys w low n
shared-most w c low zero xs f = none xs
  where
    none : (ys : List _) → sum_by (λ x. count_keys (λ k. w k && c x k) low zero) ys ≤ count_keys w low zero
    none [] = omega arith
    none (y ∷ ys) = omega (arith, none ys, count_keys-zero (λ k. w k && c y k) low, sum_by-cons (λ x. count_keys (λ k. w k && c x k) low zero) y ys)
shared-most w c low (suc n) xs f =
    let here = one_key (w (low + n)) (λ x. c x (low + n)) xs (f (low + n) (omega arith) (omega arith)) in
    let rest = shared-most w c low n xs (λ k a b. f k a (omega arith)) in
    omega (arith, here, rest, parts xs, count_keys-suc w low n)
  where
    parts : (ys : List _) → sum_by (λ x. count_keys (λ k. w k && c x k) low (suc n)) ys ≡ sum_by (λ x. tally (w (low + n) && c x (low + n))) ys + sum_by (λ x. count_keys (λ k. w k && c x k) low n) ys
    parts [] = refl
    parts (y ∷ ys) =
        omega (
          arith,
          parts ys,
          count_keys-suc (λ k. w k && c y k) low n,
          sum_by-cons (λ x. count_keys (λ k. w k && c x k) low (suc n)) y ys,
          sum_by-cons (λ x. tally (w (low + n) && c x (low + n))) y ys,
          sum_by-cons (λ x. count_keys (λ k. w k && c x k) low n) y ys,
        )

-- if each element that passes has at least n of the keys, so do all together
pub shared-least : {X : Type 0} (w : ℕ → Bool) (c : X → ℕ → Bool) (p : X → Bool) (low n least : ℕ) (xs : List X) → All (λ x. p x ≡ true → least ≤ count_keys (λ k. w k && c x k) low n) xs → count_by p xs * least ≤ shared w c low n xs
shared-least w c p low n least [] a = omega arith
shared-least w c p low n least (x ∷ xs) a =
    split (p x) refl (shared-least w c p low n least xs (All-tail (λ y. p y ≡ true → least ≤ count_keys (λ k. w k && c y k) low n) x xs a))
  where
    here : p x ≡ true → least ≤ count_keys (λ k. w k && c x k) low n
    here = All-head (λ y. p y ≡ true → least ≤ count_keys (λ k. w k && c y k) low n) x xs a

    split : (b : Bool) → p x ≡ b → count_by p xs * least ≤ shared w c low n xs → count_by p (x ∷ xs) * least ≤ shared w c low n (x ∷ xs)
    split true s rest =
        let one : count_by p (x ∷ xs) ≡ suc (count_by p xs) = sum_by-cons (λ y. tally (p y)) x xs ∙ (let t : tally (p x) ≡ 1 = ap tally s in omega (arith, t)) in
        let times : suc (count_by p xs) * least ≡ count_by p xs * least + least = grind arith in
        let h = here s in
        rw (one, times) (omega (arith, rest, h, sum_by-cons (λ y. count_keys (λ k. w k && c y k) low n) x xs))
    split false s rest =
        let one : count_by p (x ∷ xs) ≡ count_by p xs = sum_by-cons (λ y. tally (p y)) x xs ∙ (let t : tally (p x) ≡ 0 = ap tally s in omega (arith, t)) in
        rw one (omega (arith, rest, sum_by-cons (λ y. count_keys (λ k. w k && c y k) low n) x xs))
