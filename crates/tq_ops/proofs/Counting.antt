-- Counts of rows as sums over fragments.
use Rattle.std.specs.Prelude.{All, ◌≡◌, ℕ, ◌+◌, ◌<◌, Bool, true, false, List, [], ◌∷◌, ◌++◌, map, filter, sum_by, refl}
use Rattle.std.specs.Ordering.{eq_by_cmp}
use Rattle.std.proofs.Common.{length, take, get_or, cond, sym, ap, ◌∙◌, arith}
use Rattle.std.proofs.lemmas.List.Elements.{All-head, All-tail}
use Rattle.std.proofs.lemmas.List.Sums.{sum_by-cons, sum_by_more}
use Rattle.tq_base.specs.declared.value.Value.{Value}
use Rattle.tq_base.specs.declared.fragment.Fragment.{Fragment}
use Rattle.tq_base.specs.ValueOrder.{values_cmp, eq_from_same}
use Rattle.tq_base.specs.Periods.{holds}
use Rattle.tq_base.specs.Fragments.{at, copies, occurrences}
use Rattle.tq_base.specs.Copies.{tally, copies-append, copies-sum_by}

-- 1 if the test holds, else 0
abbrev pub one_if : Bool → ℕ
one_if b = cond b 1 0

pub sum_by-same : {X : Type 0} (f g : X → ℕ) → ((x : X) → f x ≡ g x) → (xs : List X) → sum_by f xs ≡ sum_by g xs
sum_by-same f g same [] = refl
sum_by-same f g same (x ∷ xs) = omega (arith, sum_by-cons f x xs, sum_by-cons g x xs, same x, sum_by-same f g same xs)

pub sum_by-alike : {X : Type 0} (f g : X → ℕ) (xs : List X) → All (λ x. f x ≡ g x) xs → sum_by f xs ≡ sum_by g xs
sum_by-alike f g [] same = refl
sum_by-alike f g (x ∷ xs) same =
    omega (arith, sum_by-cons f x xs, sum_by-cons g x xs, All-head (λ x. f x ≡ g x) x xs same, sum_by-alike f g xs (All-tail (λ x. f x ≡ g x) x xs same))

pub sum_by-zero : {X : Type 0} (xs : List X) → sum_by (λ (x : X). 0) xs ≡ 0
sum_by-zero [] = refl
sum_by-zero {X} (x ∷ xs) = omega (arith, sum_by-cons (λ (x : X). 0) x xs, sum_by-zero xs)

-- a test that is the same for all
pub sum_by-cond : {X : Type 0} (b : Bool) (w : X → ℕ) (xs : List X) → sum_by (λ x. cond b (w x) 0) xs ≡ cond b (sum_by w xs) 0
sum_by-cond true w xs = refl
sum_by-cond false w xs = sum_by-zero xs

pub sum_by-map : {X Y : Type 0} (w : Y → ℕ) (f : X → Y) (xs : List X) → sum_by w (map f xs) ≡ sum_by (λ x. w (f x)) xs
sum_by-map w f [] = refl
sum_by-map w f (x ∷ xs) = omega (arith, sum_by-cons w (f x) (map f xs), sum_by-cons (λ x. w (f x)) x xs, sum_by-map w f xs)

pub sum_by-filter : {X : Type 0} (p : X → Bool) (w : X → ℕ) (xs : List X) → sum_by w (filter p xs) ≡ sum_by (λ x. cond (p x) (w x) 0) xs
sum_by-filter p w [] = refl
sum_by-filter {X} p w (x ∷ xs) = cases (sum_by-filter p w xs) (p x) ∙ sym (sum_by-cons (λ x. cond (p x) (w x) 0) x xs)
  where
    cases : sum_by w (filter p xs) ≡ sum_by (λ x. cond (p x) (w x) 0) xs → (b : Bool) → sum_by w (cond b (x ∷ filter p xs) (filter p xs)) ≡ cond b (w x) 0 + sum_by (λ x. cond (p x) (w x) 0) xs
    cases rest true = omega (arith, sum_by-cons w x (filter p xs), rest)
    cases rest false = omega (arith, rest)

pub sum_by-at : (w : List Value → ℕ) (fragments : List Fragment) (t : ℕ) → sum_by w (at fragments t) ≡ sum_by (λ f. cond (holds f.period t) (w f.values) 0) fragments
sum_by-at w [] t = refl
sum_by-at w (f ∷ fragments) t = cases (sum_by-at w fragments t) (holds f.period t) ∙ sym (sum_by-cons (λ f. cond (holds f.period t) (w f.values) 0) f fragments)
  where
    cases : sum_by w (at fragments t) ≡ sum_by (λ f. cond (holds f.period t) (w f.values) 0) fragments → (b : Bool) → sum_by w (map (λ g. g.values) (cond b (f ∷ filter (λ g. holds g.period t) fragments) (filter (λ g. holds g.period t) fragments)))
        ≡ cond b (w f.values) 0 + sum_by (λ f. cond (holds f.period t) (w f.values) 0) fragments
    cases rest true = omega (arith, sum_by-cons w f.values (at fragments t), rest)
    cases rest false = omega (arith, rest)

-- if no row occurs, the list is empty
pub none_there : (rows : List (List Value)) → ((v : List Value) → occurrences rows v ≡ 0) → rows ≡ []
none_there [] none = refl
none_there (u ∷ rows) none =
    let itself = ap one_if (eq_from_same u u refl) in
    let here = sum_by-cons (λ w. one_if (eq_by_cmp values_cmp w u)) u rows in
    absurd (omega (arith, none u, here, itself))

pub copies-push : (fragments : List Fragment) (f : Fragment) (v : List Value) (t : ℕ) → copies (fragments ++ f ∷ []) v t ≡ copies fragments v t + tally v t f
copies-push fragments f v t =
    omega (arith, copies-append fragments (f ∷ []) v t, copies-sum_by (f ∷ []) v t, sum_by-cons (tally v t) f [])

-- the sum over one more element
pub sum_by_step : {X : Type 0} (f : X → ℕ) (xs : List X) (i : ℕ) (x : X) → i < length xs → x ≡ get_or xs i x → sum_by f (take (i + 1) xs) ≡ sum_by f (take i xs) + f x
sum_by_step f xs i x lt is = sum_by_more f xs i x lt ∙ ap (λ y. sum_by f (take i xs) + f y) (sym is)
