-- Counting what passes a test in two lists that have the same elements, none twice.
use Rattle.std.proofs.Common.{◌≡◌, ◌≢◌, ℕ, zero, suc, ◌+◌, ◌<◌, ◌≤◌, ◌&&◌, Bool, true, false, cond, List, [], ◌∷◌, Some, map, slice_get, refl, sym, ap, ◌∙◌, arith, count_by}
use Rattle.std.specs.Prelude.{filter}
use Rattle.tq_store.proofs.VersionLemmas.{count_cons, tally}

-- counting the images of the filtered elements
pub count_kept : {X Y : Type 0} → (q : Y → Bool) (f : X → Y) (p : X → Bool) (xs : List X) → count_by q (map f (filter p xs)) ≡ count_by (λ x. p x && q (f x)) xs
count_kept q f p [] = refl
count_kept q f p (x ∷ xs) = by (p x) (count_kept q f p xs) ∙ sym (count_cons (λ y. p y && q (f y)) x xs)
  where
    by : (b : Bool) → count_by q (map f (filter p xs)) ≡ count_by (λ y. p y && q (f y)) xs
        → count_by q (map f (cond b (x ∷ filter p xs) (filter p xs))) ≡ tally (b && q (f x)) + count_by (λ y. p y && q (f y)) xs
    by true rest = count_cons q (f x) (map f (filter p xs)) ∙ ap (λ n. tally (q (f x)) + n) rest
    by false rest = omega (arith, rest)

pub count_made : {X Y : Type 0} → (q : Y → Bool) (f : X → Y) (xs : List X) → count_by q (map f xs) ≡ count_by (λ x. q (f x)) xs
count_made q f [] = refl
count_made q f (x ∷ xs) = count_cons q (f x) (map f xs) ∙ ap (λ n. tally (q (f x)) + n) (count_made q f xs) ∙ sym (count_cons (λ y. q (f y)) x xs)

-- ---- one element less

abbrev without : {X : Type 0} → List X → ℕ → List X
without [] i = []
without (x ∷ xs) zero = xs
without (x ∷ xs) (suc i) = x ∷ without xs i

count_without : {X : Type 0} → (q : X → Bool) (xs : List X) (i : ℕ) (x : X) → slice_get xs i ≡ Some x → count_by q xs ≡ tally (q x) + count_by q (without xs i)
count_without q [] i x here = absurd (cc)
count_without q (y ∷ xs) zero x here = let same : y ≡ x = cc in count_cons q y xs ∙ ap (λ z. tally (q z) + count_by q xs) same
count_without q (y ∷ xs) (suc i) x here =
    let first : count_by q (y ∷ xs) ≡ tally (q y) + count_by q xs = count_cons q y xs in
    let rest : count_by q xs ≡ tally (q x) + count_by q (without xs i) = count_without q xs i x here in
    let less : count_by q (y ∷ without xs i) ≡ tally (q y) + count_by q (without xs i) = count_cons q y (without xs i) in
    let all : count_by q (y ∷ xs) ≡ tally (q x) + count_by q (y ∷ without xs i) = omega (arith, first, rest, less) in
    all

pub record IsThere {X : Type 0} (xs : List X) (x : X) : Type 0 where
  pub place : ℕ
  pub stands : slice_get xs place ≡ Some x

there_without : {X : Type 0} → (xs : List X) (i j : ℕ) (y : X) → i ≢ j → slice_get xs j ≡ Some y → IsThere (without xs i) y
there_without [] i j y other here = absurd (cc)
there_without (z ∷ xs) zero zero y other here = absurd (other refl)
there_without (z ∷ xs) zero (suc j) y other here = record { place = j; stands = here }
there_without (z ∷ xs) (suc i) zero y other here = record { place = 0; stands = here }
there_without (z ∷ xs) (suc i) (suc j) y other here =
    let rest = there_without xs i j y (λ same. other (ap suc same)) here in record { place = suc rest.place; stands = rest.stands }

-- ---- no element twice

module _ {X : Type 0} (key : X → ℕ) where
  -- no two elements have the same key
  abbrev pub AreApart : List X → Type 0
  AreApart [] = Unit {0}
  AreApart (x ∷ xs) = ((j : ℕ) (y : X) → slice_get xs j ≡ Some y → key x ≢ key y) × AreApart xs

  pub at_most : (q : X → Bool) (xs ys : List X) → AreApart xs → ((i : ℕ) (x : X) → q x ≡ true → slice_get xs i ≡ Some x → IsThere ys x) → count_by q xs ≤ count_by q ys
  at_most q [] ys apart among = omega arith
  at_most q (x ∷ xs) ys apart among = by (q x) refl (λ zs. at_most q xs zs)
    where
      by : (b : Bool) → q x ≡ b → ((zs : List X) → AreApart xs → ((i : ℕ) (y : X) → q y ≡ true → slice_get xs i ≡ Some y → IsThere zs y) → count_by q xs ≤ count_by q zs)
          → count_by q (x ∷ xs) ≤ count_by q ys
      by false is rest =
          let less = rest ys apart.1 (λ i y pass here. among (suc i) y pass here) in
          omega (arith, count_cons q x xs, ap tally is, less)
      by true is rest =
          let first = among 0 x is refl in
          let less = rest (without ys first.place) apart.1 (λ i y pass here.
          let other = among (suc i) y pass here in
          there_without ys first.place other.place y
          (λ same. apart.0 i y here (let one : Some x ≡ Some y = sym first.stands ∙ ap (slice_get ys) same ∙ other.stands in let both : x ≡ y = cc in ap key both))
          other.stands) in
          omega (arith, count_cons q x xs, ap tally is, less, count_without q ys first.place x first.stands)

  pub apart_pairs : (xs : List X) → ((i j : ℕ) (x y : X) → i < j → slice_get xs i ≡ Some x → slice_get xs j ≡ Some y → key x ≢ key y) → AreApart xs
  apart_pairs [] pairs = tt
  apart_pairs (x ∷ xs) pairs =
      ((λ j y here. pairs 0 (suc j) x y (omega arith) refl here), apart_pairs xs (λ i j y z less one other. pairs (suc i) (suc j) y z (omega (arith, less)) one other))

  -- keys that are the elements' numbers differ
  pub apart_placed : (xs : List X) → ((i : ℕ) (x : X) → slice_get xs i ≡ Some x → key x ≡ i) → AreApart xs
  apart_placed xs take_with_periods = apart_pairs xs (λ i j x y less one other same. let low = take_with_periods i x one in let high = take_with_periods j y other in omega (arith, less, low, high, same))
