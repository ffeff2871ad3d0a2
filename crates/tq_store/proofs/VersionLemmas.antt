-- Versions of instants: the number of the first events that are no later.
use Rattle.std.proofs.Common.{◌≡◌, ℕ, zero, suc, ◌+◌, ◌<◌, ◌≤◌, Bool, true, false, cond, List, [], ◌∷◌, Some, length, take, get_or, slice_get, nat_le, refl, sym, ap, subst, ◌∙◌, inl, inr, arith, rules, count_by}
use Rattle.std.specs.List.Sorted.{IsNonDecreasingBy}
use Rattle.std.proofs.lemmas.Bool.{cases_lt}
use Rattle.std.proofs.lemmas.Bool.Decides.{nat_tests}
use Rattle.std.proofs.lemmas.Option.{get_or_from_slice_get, slice_get_within}
use Rattle.std.proofs.lemmas.List.Sorted.{IsNonDecreasingBy-take}
use Rattle.std.proofs.lemmas.List.Sums.{count_by-le-length, sum_by-cons}
use Rattle.tq_event.specs.declared.event.Event.{Event}
use Rattle.tq_event.specs.History.{time_of}
use Rattle.tq_event.specs.Versions.{version_at}

abbrev pub tally : Bool → ℕ
tally b = cond b 1 0

pub count_cons : {X : Type 0} (p : X → Bool) (x : X) (xs : List X) → count_by p (x ∷ xs) ≡ tally (p x) + count_by p xs
count_cons p x xs = sum_by-cons (λ y. tally (p y)) x xs

-- a position before which all pass the test, and from which on none does
pub place_counts : {X : Type 0} (p : X → Bool) (xs : List X) (i : ℕ) → i ≤ length xs → ((k : ℕ) (d : X) → 0 ≤ k → k < i → p (get_or xs k d) ≡ true) → ((k : ℕ) (d : X) → i ≤ k → k < length xs → p (get_or xs k d) ≡ false)
    → i ≡ count_by p xs
place_counts p [] i le pass fail = omega (arith, le)
place_counts p (x ∷ xs) zero le pass fail =
    let later : 0 ≡ count_by p xs = place_counts p xs zero (omega arith) (λ k d low less. absurd (omega (arith, less))) (λ k d low less. fail (suc k) d (omega arith) (omega (arith, less))) in
    let first : p x ≡ false = fail 0 x (omega arith) (omega arith) in
    omega (arith, count_cons p x xs, later, ap tally first)
place_counts p (x ∷ xs) (suc i) le pass fail =
    let later : i ≡ count_by p xs = place_counts p xs i (omega (arith, le)) (λ k d low less. pass (suc k) d (omega arith) (omega (arith, less))) (λ k d low less. fail (suc k) d (omega (arith, low)) (omega (arith, less))) in
    let first : p x ≡ true = pass 0 x (omega arith) (omega arith) in
    omega (arith, count_cons p x xs, later, ap tally first)

abbrev no_later : ℕ → Event → Bool
no_later t e = nat_le (time_of e) t

le_is : (a b : ℕ) → a ≤ b → nat_le a b ≡ true
le_is a b le = search (rules, nat_tests, le)

gt_is : (a b : ℕ) → b < a → nat_le a b ≡ false
gt_is a b less = search (rules, nat_tests, less)

tail_sorted : (x : Event) (xs : List Event) → IsNonDecreasingBy time_of (x ∷ xs) → IsNonDecreasingBy time_of xs
tail_sorted x xs sorted i j d le less = sorted (suc i) (suc j) d (omega (arith, le)) (omega (arith, less))

head_least : (x : Event) (xs : List Event) (s : ℕ) (e : Event) → IsNonDecreasingBy time_of (x ∷ xs) → slice_get xs s ≡ Some e → time_of x ≤ time_of e
head_least x xs s e sorted here =
    let less : s < length xs = slice_get_within xs s e here in
    subst (λ (y : Event). time_of x ≤ time_of y) (get_or_from_slice_get xs s e e here) (sorted 0 (suc s) e (omega arith) (omega (arith, less)))

-- an event that is no later comes before the count, and one that is later does not
counted : (t : ℕ) (xs : List Event) (s : ℕ) (e : Event) → IsNonDecreasingBy time_of xs → slice_get xs s ≡ Some e → (time_of e ≤ t → s < count_by (no_later t) xs) × (t < time_of e → count_by (no_later t) xs ≤ s)
counted t [] s e sorted here = absurd (cc)
counted t (x ∷ xs) zero e sorted here =
    let same : x ≡ e = cc in (
      λ le. let yes = ap tally (le_is (time_of x) t (subst (λ (y : Event). time_of y ≤ t) (sym same) le)) in omega (arith, count_cons (no_later t) x xs, yes),
      λ less.
          let less_x : t < time_of x = subst (λ (y : Event). t < time_of y) (sym same) less in
          let none : 0 ≡ count_by (no_later t) (x ∷ xs) = place_counts (no_later t) (x ∷ xs) 0 (omega arith) (λ k d low below. absurd (omega (arith, below)))
          (λ k d low within. gt_is (time_of (get_or (x ∷ xs) k d)) t (let first = sorted 0 k d (omega arith) within in omega (arith, first, less_x))) in
          omega (arith, none),
    )
counted t (x ∷ xs) (suc s) e sorted here =
    let later = counted t xs s e (tail_sorted x xs sorted) here in
    let first = head_least x xs s e sorted here in (
      λ le. let yes = ap tally (le_is (time_of x) t (omega (arith, first, le))) in let rest = later.0 le in omega (arith, count_cons (no_later t) x xs, yes, rest),
      λ less. let rest = later.1 less in let one = tally_le (no_later t x) in omega (arith, count_cons (no_later t) x xs, one, rest),
    )
  where
    tally_le : (b : Bool) → tally b ≤ 1
    tally_le true = omega arith
    tally_le false = omega arith

get_take : {X : Type 0} (xs : List X) (n s : ℕ) → s < n → slice_get (take n xs) s ≡ slice_get xs s
get_take [] zero s less = refl
get_take [] (suc n) s less = refl
get_take (x ∷ xs) zero s less = absurd (omega (arith, less))
get_take (x ∷ xs) (suc n) zero less = refl
get_take (x ∷ xs) (suc n) (suc s) less = get_take xs n s (omega (arith, less))

module _ (es : List Event) (sorted : IsNonDecreasingBy time_of es) where
  -- an event among the first n comes before the version of an instant exactly if it is no later
  pub before_version : (n t s : ℕ) (e : Event) → slice_get es s ≡ Some e → s < n → time_of e ≤ t → s < version_at es n t
  before_version n t s e here less le = (counted t (take n es) s e (IsNonDecreasingBy-take time_of n es sorted) (get_take es n s less ∙ here)).0 le

  pub past_version : (n t s : ℕ) (e : Event) → slice_get es s ≡ Some e → s < n → t < time_of e → version_at es n t ≤ s
  past_version n t s e here less later = (counted t (take n es) s e (IsNonDecreasingBy-take time_of n es sorted) (get_take es n s less ∙ here)).1 later

taken : {X : Type 0} (n : ℕ) (xs : List X) → length (take n xs) ≤ n
taken zero xs = omega arith
taken (suc n) [] = omega arith
taken (suc n) (x ∷ xs) = omega (arith, taken n xs)

pub version_within : (es : List Event) (n t : ℕ) → version_at es n t ≤ n
version_within es n t = omega (arith, count_by-le-length (no_later t) (take n es), taken n es)

pub version_rises : (es : List Event) (n a b : ℕ) → a ≤ b → version_at es n a ≤ version_at es n b
version_rises es n a b le = rises (take n es)
  where
    one : (e : Event) → tally (no_later a e) ≤ tally (no_later b e)
    one e = elim (cases_lt a (time_of e)) [
      | inl less ↦ let no = ap tally (gt_is (time_of e) a less) in omega (arith, no)
      | inr no_less ↦ let yes = ap tally (le_is (time_of e) b (omega (arith, no_less, le))) in let small = at_most_one (no_later a e) in omega (arith, yes, small)
    ]
      where
        at_most_one : (c : Bool) → tally c ≤ 1
        at_most_one true = omega arith
        at_most_one false = omega arith

    rises : (xs : List Event) → count_by (no_later a) xs ≤ count_by (no_later b) xs
    rises [] = omega arith
    rises (x ∷ xs) = omega (arith, count_cons (no_later a) x xs, count_cons (no_later b) x xs, one x, rises xs)
