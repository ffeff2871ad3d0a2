-- Lists: counts, elements and their positions.
use Rattle.std.proofs.Common.{◌≡◌, ◌≢◌, ℕ, zero, suc, ◌+◌, ◌<◌, ◌≤◌, Bool, true, false, cond, List, [], ◌∷◌, ◌++◌, length, map, get_or, ap, refl, sym, ◌∙◌, subst, arith, count_by, slice_get, Some, nat_eq, filter, take, ◌&&◌, append_assoc}
use Rattle.std.specs.Prelude.{All, Contains, slice_index}
use Rattle.std.specs.List.Sorted.{IsPermutation, IsNonDecreasing, IsNonDecreasingBy}
use Rattle.std.specs.List.{flat_map}
use Rattle.std.proofs.lemmas.Grind.{flat_map-append}
use Rattle.std.proofs.lemmas.List.{length-map, map-append, take_more, take-append-le}
use Rattle.std.proofs.lemmas.List.Elements.{filter_more}
use Rattle.tq_arena.specs.declared.arena.NodeNo.{NodeNo}
use Rattle.tq_scan.specs.Scans.{numbers}
use Rattle.std.proofs.lemmas.Bool.Decides.{nat_tests}
use Rattle.std.proofs.lemmas.Option.{get_or_from_slice_get, slice_get_within, slice_get-get_or}
use Rattle.std.proofs.lemmas.List.Elements.{All-nil, All-cons, All-head, All-tail, All-get_or, All-contains, Contains-get_or}
use Rattle.std.proofs.lemmas.List.Sums.{sum_by-cons}
use Rattle.std.proofs.lemmas.List.Sorted.{sum_by-IsPermutation, All-permutation}
use Rattle.tq_scan.specs.Lists.{ListsJust, ListsOnce}

abbrev pub tally : Bool → ℕ
tally b = cond b 1 0

pub count-cons : {X : Type 0} (p : X → Bool) (x : X) (xs : List X) → count_by p (x ∷ xs) ≡ tally (p x) + count_by p xs
count-cons p x xs = sum_by-cons (λ y. tally (p y)) x xs

pub all_at : {X : Type 0} (P : X → Type 0) (xs : List X) (i : ℕ) (x : X) → All P xs → slice_get xs i ≡ Some x → P x
all_at P xs i x a s = subst P (get_or_from_slice_get xs i x x s) (All-get_or P xs i x (slice_get_within xs i x s) a)

pub all_from_places : {X : Type 0} (P : X → Type 0) (xs : List X) → ((i : ℕ) (x : X) → slice_get xs i ≡ Some x → P x) → All P xs
all_from_places P [] f = All-nil P
all_from_places P (x ∷ xs) f = All-cons P x xs (f 0 x refl) (all_from_places P xs (λ i y e. f (suc i) y e))

-- equal tests count equally many
pub count_alike : {X : Type 0} (p q : X → Bool) (xs : List X) → All (λ x. p x ≡ q x) xs → count_by p xs ≡ count_by q xs
count_alike p q [] a = refl
count_alike p q (x ∷ xs) a =
    let here : tally (p x) ≡ tally (q x) = ap tally (All-head (λ y. p y ≡ q y) x xs a) in
    omega (arith, here, count-cons p x xs, count-cons q x xs, count_alike p q xs (All-tail (λ y. p y ≡ q y) x xs a))

pub count_none : {X : Type 0} (p : X → Bool) (xs : List X) → All (λ x. p x ≡ false) xs → count_by p xs ≡ 0
count_none p [] a = refl
count_none p (x ∷ xs) a =
    let here : tally (p x) ≡ 0 = ap tally (All-head (λ y. p y ≡ false) x xs a) in
    omega (arith, here, count-cons p x xs, count_none p xs (All-tail (λ y. p y ≡ false) x xs a))

pub one_passes : {X : Type 0} (p : X → Bool) (xs : List X) (i : ℕ) (x : X) → slice_get xs i ≡ Some x → p x ≡ true → 1 ≤ count_by p xs
one_passes p [] i x e t = cc
one_passes p (a ∷ xs) zero x e t =
    let same : a ≡ x = cc in
    let one : tally (p a) ≡ 1 = ap tally (ap p same ∙ t) in
    omega (arith, one, count-cons p a xs)
one_passes p (a ∷ xs) (suc i) x e t = omega (arith, one_passes p xs i x e t, count-cons p a xs)

pub two_pass : {X : Type 0} (p : X → Bool) (xs : List X) (i j : ℕ) (x y : X) → i ≢ j → slice_get xs i ≡ Some x → slice_get xs j ≡ Some y → p x ≡ true → p y ≡ true → 2 ≤ count_by p xs
two_pass p [] i j x y n e f t u = cc
two_pass p (a ∷ xs) zero zero x y n e f t u = absurd (n refl)
two_pass p (a ∷ xs) zero (suc j) x y n e f t u =
    let same : a ≡ x = cc in
    let one : tally (p a) ≡ 1 = ap tally (ap p same ∙ t) in
    omega (arith, one, one_passes p xs j y f u, count-cons p a xs)
two_pass p (a ∷ xs) (suc i) zero x y n e f t u =
    let same : a ≡ y = cc in
    let one : tally (p a) ≡ 1 = ap tally (ap p same ∙ u) in
    omega (arith, one, one_passes p xs i x e t, count-cons p a xs)
two_pass p (a ∷ xs) (suc i) (suc j) x y n e f t u =
    omega (arith, two_pass p xs i j x y (λ s. n (ap suc s)) e f t u, count-cons p a xs)

-- an element that passes, if one is counted
pub record Passes {X : Type 0} (p : X → Bool) (xs : List X) : Type 0 where
  pub place : ℕ
  pub element : X
  pub stands : slice_get xs place ≡ Some element
  pub passes : p element ≡ true

pub some_passes : {X : Type 0} (p : X → Bool) (xs : List X) → 1 ≤ count_by p xs → Passes p xs
some_passes p [] h = absurd (omega arith)
some_passes p (x ∷ xs) h = split (p x) refl (count-cons p x xs) (some_passes p xs)
  where
    split : (b : Bool) → p x ≡ b → count_by p (x ∷ xs) ≡ tally (p x) + count_by p xs → (1 ≤ count_by p xs → Passes p xs) → Passes p (x ∷ xs)
    split true e parts f = record { place = 0; element = x; stands = refl; passes = e }
    split false e parts f =
        let none : tally (p x) ≡ 0 = ap tally e in
        let rest = f (omega (arith, parts, none)) in
        record { place = suc rest.place; element = rest.element; stands = rest.stands; passes = rest.passes }

-- a list that has each number once, sorted
pub just_sorted : (P : ℕ → Type 0) (xs ys : List ℕ) → ListsOnce P xs → IsPermutation xs ys → IsNonDecreasing ys → ListsJust P ys
just_sorted P xs ys lists moved sorted =
    record {
      ascending = λ k h. less k h (slice_index ys k) (slice_index ys (k + 1)) refl refl (up k h);
      just = λ x. (λ c. All-contains P ys x all c, has x);
    }
  where
    all : All P ys
    all = All-permutation P xs ys moved lists.all

    once : (x : ℕ) → P x → count_by (nat_eq x) ys ≡ 1
    once x h = sum_by-IsPermutation (λ y. tally (nat_eq x y)) xs ys moved ∙ lists.once x h

    up : (k : ℕ) → k + 1 < length ys → slice_index ys k ≤ slice_index ys (k + 1)
    up k h = sorted k (k + 1) 0 (omega arith) h

    less : (k : ℕ) → k + 1 < length ys → (a b : ℕ) → slice_index ys k ≡ a → slice_index ys (k + 1) ≡ b → slice_index ys k ≤ slice_index ys (k + 1) → slice_index ys k < slice_index ys (k + 1)
    less k h a b ea eb le = split (nat_eq a b) refl
      where
        split : (t : Bool) → nat_eq a b ≡ t → slice_index ys k < slice_index ys (k + 1)
        split false s = let differ : a ≢ b = grind (arith, nat_tests) in omega arith
        split true s =
            let same : a ≡ b = grind (arith, nat_tests) in
            let at : slice_get ys k ≡ Some a = slice_get-get_or ys k 0 (omega arith) ∙ ap Some ea in
            let at' : slice_get ys (k + 1) ≡ Some b = slice_get-get_or ys (k + 1) 0 h ∙ ap Some eb in
            let here : nat_eq a a ≡ true = grind (arith, nat_tests) in
            let one = once a (all_at P ys k a all at) in
            absurd (omega (arith, one, two_pass (nat_eq a) ys k (k + 1) a b (λ e. lower k e) at at' here s))
          where
            lower : (k : ℕ) → k ≡ k + 1 → ⊥
            lower k e = omega arith

    has : (x : ℕ) → P x → Contains ys x
    has x h =
        let one = once x h in
        let f = some_passes (nat_eq x) ys (omega arith) in
        let e = f.passes in
        let same : x ≡ f.element = grind (arith, nat_tests) in
        subst (Contains ys) (get_or_from_slice_get ys f.place f.element x f.stands ∙ sym same) (Contains-get_or ys f.place x (slice_get_within ys f.place f.element f.stands))

number_at : (nodes : List NodeNo) (i d : ℕ) → get_or (numbers nodes) i d ≡ (get_or nodes i (record { 0 = d })).0
number_at [] i d = refl
number_at (n ∷ nodes) zero d = refl
number_at (n ∷ nodes) (suc i) d = number_at nodes i d

-- nodes in the order of their numbers
pub numbers_ascend : (nodes : List NodeNo) → IsNonDecreasingBy (λ n. n.0) nodes → IsNonDecreasing (numbers nodes)
numbers_ascend nodes sorted i j d le h =
    let long : j < length nodes = simp length-map at h in
    let at : get_or (numbers nodes) i d ≡ (get_or nodes i (record { 0 = d })).0 = number_at nodes i d in
    let at' : get_or (numbers nodes) j d ≡ (get_or nodes j (record { 0 = d })).0 = number_at nodes j d in
    let s = sorted i j (record { 0 = d }) le long in
    omega arith

-- what holds for a list's numbers holds for the number at a position
pub all_numbers : (P : ℕ → Type 0) (nodes : List NodeNo) → All P (numbers nodes) → All (λ n. P n.0) nodes
all_numbers P [] a = All-nil (λ (n : NodeNo). P n.0)
all_numbers P (n ∷ nodes) a = All-cons (λ (m : NodeNo). P m.0) n nodes (All-head P n.0 (numbers nodes) a) (all_numbers P nodes (All-tail P n.0 (numbers nodes) a))

-- counting the images of the elements that pass
pub count_map_filter : {X Y : Type 0} (q : Y → Bool) (f : X → Y) (t : X → Bool) (xs : List X) → count_by q (map f (filter t xs)) ≡ count_by (λ x. q (f x) && t x) xs
count_map_filter q f t [] = refl
count_map_filter q f t (e ∷ es) = split (t e) (count_map_filter q f t es) (count-cons (λ x. q (f x) && t x) e es)
  where
    split : (b : Bool) → count_by q (map f (filter t es)) ≡ count_by (λ x. q (f x) && t x) es → count_by (λ x. q (f x) && t x) (e ∷ es) ≡ tally (q (f e) && b) + count_by (λ x. q (f x) && t x) es
        → count_by q (map f (cond b (e ∷ filter t es) (filter t es))) ≡ count_by (λ x. q (f x) && t x) (e ∷ es)
    split true rest parts =
        let same : tally (q (f e) && true) ≡ tally (q (f e)) = and_true (q (f e)) in
        omega (arith, rest, parts, same, count-cons q (f e) (map f (filter t es)))
      where
        and_true : (b : Bool) → tally (b && true) ≡ tally b
        and_true true = refl
        and_true false = refl
    split false rest parts =
        let none : tally (q (f e) && false) ≡ 0 = and_false (q (f e)) in
        omega (arith, rest, parts, none)
      where
        and_false : (b : Bool) → tally (b && false) ≡ 0
        and_false true = refl
        and_false false = refl

pub count_both : {X : Type 0} (b : Bool) (q : X → Bool) (xs : List X) → count_by (λ e. b && q e) xs ≡ cond b (count_by q xs) 0
count_both true q xs = refl
count_both false q xs = count_none (λ e. false) xs (all_from_places (λ e. false ≡ false) xs (λ i e s. refl))

pub all_map_filter : {X Y : Type 0} (P : Y → Type 0) (f : X → Y) (q : X → Bool) (es : List X) → ((i : ℕ) (e : X) → slice_get es i ≡ Some e → q e ≡ true → P (f e)) → All P (map f (filter q es))
all_map_filter P f q [] h = All-nil P
all_map_filter P f q (e ∷ es) h = split (q e) refl (all_map_filter P f q es (λ i x s. h (suc i) x s))
  where
    split : (b : Bool) → q e ≡ b → All P (map f (filter q es)) → All P (map f (cond b (e ∷ filter q es) (filter q es)))
    split true t rest = All-cons P (f e) (map f (filter q es)) (h 0 e refl t) rest
    split false t rest = rest

-- the number of times that a number occurs among those of nodes
abbrev pub times : ℕ → List NodeNo → ℕ
times a nodes = count_by (λ n. nat_eq a n.0) nodes

pub times_numbers : (a : ℕ) (nodes : List NodeNo) → count_by (nat_eq a) (numbers nodes) ≡ times a nodes
times_numbers a [] = refl
times_numbers a (n ∷ nodes) = omega (arith, times_numbers a nodes, count-cons (nat_eq a) n.0 (numbers nodes), count-cons (λ (m : NodeNo). nat_eq a m.0) n nodes)

-- ---- a list of different numbers below n has at most n of them

sum_to : (ℕ → ℕ) → ℕ → ℕ
sum_to f zero = 0
sum_to f (suc n) = sum_to f n + f n

sum_to-suc : (f : ℕ → ℕ) (n : ℕ) → sum_to f (suc n) ≡ sum_to f n + f n
unfolding sum_to
sum_to-suc f n = refl

sum_to-zero : (f : ℕ → ℕ) → sum_to f zero ≡ 0
unfolding sum_to
sum_to-zero f = refl

sum_to-both : (f g h : ℕ → ℕ) (n : ℕ) → ((i : ℕ) → h i ≡ f i + g i) → sum_to h n ≡ sum_to f n + sum_to g n
sum_to-both f g h zero e = omega (arith, sum_to-zero f, sum_to-zero g, sum_to-zero h)
sum_to-both f g h (suc n) e = omega (arith, e n, sum_to-both f g h n e, sum_to-suc f n, sum_to-suc g n, sum_to-suc h n)

sum_to-none : (f : ℕ → ℕ) (n : ℕ) → ((i : ℕ) → i < n → f i ≡ 0) → sum_to f n ≡ 0
sum_to-none f zero e = sum_to-zero f
sum_to-none f (suc n) e = omega (arith, e n (omega arith), sum_to-none f n (λ i h. e i (omega arith)), sum_to-suc f n)

sum_to-one : (x n : ℕ) → x < n → sum_to (λ i. tally (nat_eq i x)) n ≡ 1
sum_to-one x zero h = absurd (omega arith)
sum_to-one x (suc n) h = split (nat_eq n x) refl (sum_to-one x n) (sum_to-suc (λ i. tally (nat_eq i x)) n)
  where
    split : (b : Bool) → nat_eq n x ≡ b → (x < n → sum_to (λ i. tally (nat_eq i x)) n ≡ 1) → sum_to (λ i. tally (nat_eq i x)) (suc n) ≡ sum_to (λ i. tally (nat_eq i x)) n + tally (nat_eq n x) → sum_to (λ i. tally (nat_eq i x)) (suc n) ≡ 1
    split true s rest parts =
        let one : tally (nat_eq n x) ≡ 1 = ap tally s in
        let same : n ≡ x = grind (arith, nat_tests) in
        let none = sum_to-none (λ i. tally (nat_eq i x)) n (λ i l. let off : nat_eq i x ≡ false = grind (arith, nat_tests) in ap tally off) in
        omega (arith, parts, one, none)
    split false s rest parts =
        let zero' : tally (nat_eq n x) ≡ 0 = ap tally s in
        let differ : n ≢ x = grind (arith, nat_tests) in
        omega (arith, parts, zero', rest (omega arith))

sum_to-few : (f : ℕ → ℕ) (n : ℕ) → ((i : ℕ) → f i ≤ 1) → sum_to f n ≤ n
sum_to-few f zero e = omega (arith, sum_to-zero f)
sum_to-few f (suc n) e = omega (arith, e n, sum_to-few f n e, sum_to-suc f n)

length_to : (n : ℕ) (nodes : List NodeNo) → All (λ m. m.0 < n) nodes → sum_to (λ i. times i nodes) n ≡ length nodes
length_to n [] a = sum_to-none (λ i. times i []) n (λ i h. refl)
length_to n (m ∷ nodes) a =
    let here = All-head (λ (x : NodeNo). x.0 < n) m nodes a in
    let rest = length_to n nodes (All-tail (λ (x : NodeNo). x.0 < n) m nodes a) in
    let both = sum_to-both (λ i. tally (nat_eq i m.0)) (λ i. times i nodes) (λ i. times i (m ∷ nodes)) n (λ i. count-cons (λ (x : NodeNo). nat_eq i x.0) m nodes) in
    omega (arith, both, rest, sum_to-one m.0 n here)

pub few_different : (n : ℕ) (nodes : List NodeNo) → All (λ m. m.0 < n) nodes → ((i : ℕ) → times i nodes ≤ 1) → length nodes ≤ n
few_different n nodes a once = omega (arith, length_to n nodes a, sum_to-few (λ i. times i nodes) n once)

-- ---- one step of a loop

pub append-nil : {X : Type 0} (xs : List X) → xs ++ [] ≡ xs
append-nil [] = refl
append-nil (x ∷ xs) = ap (λ ys. x ∷ ys) (append-nil xs)

-- the images of the elements that pass, one element further
pub filter_step : {X Y : Type 0} (f : X → Y) (p : X → Bool) (es : List X) (i : ℕ) (d : X) (b : Bool) (initial before after : List Y) → i < length es → p (get_or es i d) ≡ b → after ≡ before ++ map f (cond b (get_or es i d ∷ []) []) → before ≡ initial ++ map f (filter p (take i es)) → after ≡ initial ++ map f (filter p (take (i + 1) es))
filter_step f p es i d b initial before after h t e is =
    e ∙ ap (λ xs. xs ++ map f (cond b (get_or es i d ∷ []) [])) is
    ∙ append_assoc initial (map f (filter p (take i es))) (map f (cond b (get_or es i d ∷ []) []))
    ∙ ap (λ xs. initial ++ xs) (sym (ap (map f) (filter_more p es i d h ∙ ap (λ x. filter p (take i es) ++ cond x (get_or es i d ∷ []) []) t) ∙ map-append f (filter p (take i es)) (cond b (get_or es i d ∷ []) [])))

-- the images of a list's elements, one element further, if the list has grown
pub flat_step : {X Y : Type 0} (f : X → List Y) (xs more : List X) (i : ℕ) (x : X) → slice_get xs i ≡ Some x → flat_map f (take (i + 1) (xs ++ more)) ≡ flat_map f (take i xs) ++ f x
flat_step f xs more i x e =
    let inside = slice_get_within xs i x e in
    let same = get_or_from_slice_get xs i x x e in
    let shorter : take (i + 1) (xs ++ more) ≡ take (i + 1) xs = take-append-le (i + 1) xs more (omega arith) in
    ap (flat_map f) (shorter ∙ take_more xs i x inside ∙ ap (λ y. take i xs ++ y ∷ []) same)
    ∙ flat_map-append f (take i xs) (x ∷ [])
    ∙ ap (λ ys. flat_map f (take i xs) ++ ys) (append-nil (f x))
