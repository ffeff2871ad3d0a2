-- The rows of a table by key: each comes before those after it.
use Rattle.std.proofs.Common.{◌≡◌, ◌≢◌, ◌∙◌, ℕ, zero, suc, ◌+◌, ◌<◌, ◌≤◌, Bool, true, false, cond, ◌&&◌, ◌||◌, List, [], ◌∷◌, ap, refl, sym, arith, get_or, length}
use Rattle.std.specs.Prelude.{AllPairs, IsPermutation, ◌==◌, nat_lt}
use Rattle.std.specs.List.{count_by}
use Rattle.std.specs.Cmp.{nat_cmp_total, on_total, ranked, then_total, IsTotalOrder}
use Rattle.std.specs.Ordering.{is_lt, nat_cmp, ordering_then}
use Rattle.std.specs.declared.cmp.Ordering.{Ordering}
use Rattle.std.specs.declared.cmp.Ordering.TheVariants.{Equal, Greater, Less}
use Rattle.std.proofs.lemmas.Bool.Decides.{nat_tests}
use Rattle.std.proofs.lemmas.List.Sorted.{length_permutation, ranks_by, sorted_far, sum_by-IsPermutation}
use Rattle.std.proofs.lemmas.List.Sums.{sum_by-cons}
use Rattle.tq_base.specs.declared.fragment.Fragment.{Fragment}
use Rattle.tq_check.specs.declared.key_rows.KeyedRow.{KeyedRow}
use Rattle.tq_check.specs.KeyRows.{is_earlier, key_order_cmp, keyed, keyed_from, keyed_rows, IsKeyOrder}

-- whether the row comes before the other
abbrev pub is_before : KeyedRow → KeyedRow → Bool
is_before row other = nat_lt row.key other.key || is_earlier row other

pub key_order_total : IsTotalOrder key_order_cmp
key_order_total =
    then_total (then_total (on_total (λ (row : KeyedRow). row.key) nat_cmp_total) (on_total (λ (row : KeyedRow). row.start) nat_cmp_total))
    (on_total (λ (row : KeyedRow). row.place) nat_cmp_total)

length_keyed : (from : ℕ) (rows : List Fragment) → length (keyed_from from rows) ≡ length rows
unfolding keyed_from
length_keyed from [] = refl
length_keyed from (row ∷ rows) = let rest = length_keyed (from + 1) rows in omega (arith, rest)

-- as many rows are in order as the table has
pub order_length : (rows : List Fragment) (order : List KeyedRow) → IsKeyOrder rows order → length order ≡ length rows
order_length rows order is = length_permutation (keyed_rows rows) order is.permuted ∙ length_keyed 0 rows

-- ---- no two rows have one place

-- one more element
pub count_more : {X : Type 0} (p : X → Bool) (x : X) (xs : List X) → count_by p (x ∷ xs) ≡ cond (p x) 1 0 + count_by p xs
count_more p x xs = sum_by-cons (λ y. cond (p y) 1 0) x xs

abbrev has_place : ℕ → KeyedRow → Bool
has_place place row = row.place == place

none_at : (place from : ℕ) (rows : List Fragment) → place < from → count_by (has_place place) (keyed_from from rows) ≡ 0
unfolding keyed_from
none_at place from [] below = refl
none_at place from (row ∷ rows) below =
    let rest = none_at place (from + 1) rows (omega (arith, below)) in
    let other : (from == place) ≡ false = grind (arith, nat_tests, below) in
    let none : cond {A = ℕ} (from == place) 1 0 ≡ 0 = ap (λ b. cond {A = ℕ} b 1 0) other in
    let more = count_more (has_place place) (keyed row from) (keyed_from (from + 1) rows) in
    omega (arith, rest, none, more)

one_at : (place from : ℕ) (rows : List Fragment) → count_by (has_place place) (keyed_from from rows) ≤ 1
unfolding keyed_from
one_at place from [] = omega arith
one_at place from (row ∷ rows) =
    let more = count_more (has_place place) (keyed row from) (keyed_from (from + 1) rows) in
    let all = by (from == place) refl (one_at place (from + 1) rows) in
    omega (arith, more, all)
  where
    by : (b : Bool) → (from == place) ≡ b → count_by (has_place place) (keyed_from (from + 1) rows) ≤ 1 → cond {A = ℕ} (from == place) 1 0 + count_by (has_place place) (keyed_from (from + 1) rows) ≤ 1
    by true is rest =
        let same : from ≡ place = grind (arith, nat_tests, is) in
        let none = none_at place (from + 1) rows (omega (arith, same)) in
        let one : cond {A = ℕ} (from == place) 1 0 ≡ 1 = ap (λ b. cond {A = ℕ} b 1 0) is in
        omega (arith, none, one)
    by false is rest =
        let none : cond {A = ℕ} (from == place) 1 0 ≡ 0 = ap (λ b. cond {A = ℕ} b 1 0) is in
        omega (arith, rest, none)

one_hit : {X : Type 0} (p : X → Bool) (xs : List X) (j : ℕ) (d : X) → j < length xs → p (get_or xs j d) ≡ true → 1 ≤ count_by p xs
one_hit p [] j d less is = absurd (omega (arith, less))
one_hit p (x ∷ xs) zero d less is =
    let one : cond {A = ℕ} (p x) 1 0 ≡ 1 = ap (λ b. cond {A = ℕ} b 1 0) is in
    omega (arith, one, count_more p x xs)
one_hit p (x ∷ xs) (suc j) d less is = let rest = one_hit p xs j d (omega (arith, less)) is in omega (arith, rest, count_more p x xs)

two_hits : {X : Type 0} (p : X → Bool) (xs : List X) (i j : ℕ) (d : X) → i < j → j < length xs → p (get_or xs i d) ≡ true → p (get_or xs j d) ≡ true → 2 ≤ count_by p xs
two_hits p [] i j d before less one other = absurd (omega (arith, less))
two_hits p (x ∷ xs) zero zero d before less one other = absurd (omega (arith, before))
two_hits p (x ∷ xs) zero (suc j) d before less one other =
    let first : cond {A = ℕ} (p x) 1 0 ≡ 1 = ap (λ b. cond {A = ℕ} b 1 0) one in
    let rest = one_hit p xs j d (omega (arith, less)) other in
    omega (arith, first, rest, count_more p x xs)
two_hits p (x ∷ xs) (suc i) zero d before less one other = absurd (omega (arith, before))
two_hits p (x ∷ xs) (suc i) (suc j) d before less one other =
    let rest = two_hits p xs i j d (omega (arith, before)) (omega (arith, less)) one other in omega (arith, rest, count_more p x xs)

place_is : (a b : ℕ) → a ≡ b → (a == b) ≡ true
place_is a b same = grind (arith, nat_tests, same)

other_places : (rows : List Fragment) (order : List KeyedRow) → IsPermutation (keyed_rows rows) order → AllPairs (λ (a b : KeyedRow). a.place ≢ b.place) order
other_places rows order same i j d before less is =
    let place = (get_or order i d).place in
    let many = two_hits (has_place place) order i j d before less (place_is place place refl) (place_is (get_or order j d).place place (sym is)) in
    let few = one_at place 0 rows in
    let equal : count_by (has_place place) order ≡ count_by (has_place place) (keyed_rows rows) = sum_by-IsPermutation (λ row. cond (has_place place row) 1 0) (keyed_rows rows) order same in
    omega (arith, many, few, equal)

-- ---- a row that is not after another one comes before it

not_after : (k l s t p q : ℕ) → is_lt (ordering_then (ordering_then (nat_cmp l k) (nat_cmp t s)) (nat_cmp q p)) ≡ false → p ≢ q
    → (nat_lt k l || ((k == l) && (nat_lt s t || ((s == t) && nat_lt p q)))) ≡ true
not_after k l s t p q is differ = by_key (nat_cmp l k) refl
  where
    by_place : (r : Ordering) → nat_cmp q p ≡ r → nat_cmp l k ≡ Equal → nat_cmp t s ≡ Equal → (nat_lt k l || ((k == l) && (nat_lt s t || ((s == t) && nat_lt p q)))) ≡ true
    by_place Less here keys starts =
        let below : is_lt (ordering_then (ordering_then (nat_cmp l k) (nat_cmp t s)) (nat_cmp q p)) ≡ true = (λ i. is_lt (ordering_then (ordering_then (keys i) (starts i)) (here i))) in
        absurd (cc (below, is))
    by_place Equal here keys starts = let same : q ≡ p = ranked q p Equal (sym here) in absurd (differ (sym same))
    by_place Greater here keys starts =
        let place : p < q = ranked q p Greater (sym here) in
        let key : l ≡ k = ranked l k Equal (sym keys) in
        let start : t ≡ s = ranked t s Equal (sym starts) in
        grind (arith, nat_tests, place, key, start)

    by_start : (r : Ordering) → nat_cmp t s ≡ r → nat_cmp l k ≡ Equal → (nat_lt k l || ((k == l) && (nat_lt s t || ((s == t) && nat_lt p q)))) ≡ true
    by_start Less here keys =
        let below : is_lt (ordering_then (ordering_then (nat_cmp l k) (nat_cmp t s)) (nat_cmp q p)) ≡ true = (λ i. is_lt (ordering_then (ordering_then (keys i) (here i)) (nat_cmp q p))) in
        absurd (cc (below, is))
    by_start Equal here keys = by_place (nat_cmp q p) refl keys here
    by_start Greater here keys =
        let start : s < t = ranked t s Greater (sym here) in
        let key : l ≡ k = ranked l k Equal (sym keys) in
        grind (arith, nat_tests, start, key)

    by_key : (r : Ordering) → nat_cmp l k ≡ r → (nat_lt k l || ((k == l) && (nat_lt s t || ((s == t) && nat_lt p q)))) ≡ true
    by_key Less here =
        let below : is_lt (ordering_then (ordering_then (nat_cmp l k) (nat_cmp t s)) (nat_cmp q p)) ≡ true = (λ i. is_lt (ordering_then (ordering_then (here i) (nat_cmp t s)) (nat_cmp q p))) in
        absurd (cc (below, is))
    by_key Equal here = by_start (nat_cmp t s) refl here
    by_key Greater here =
        let key : k < l = ranked l k Greater (sym here) in
        grind (arith, nat_tests, key)

-- of rows in order, each comes before those after it
pub all_before : (rows : List Fragment) (order : List KeyedRow) → IsKeyOrder rows order → AllPairs (λ (a b : KeyedRow). is_before a b ≡ true) order
all_before rows order is i j d before less =
    let a = get_or order i d in
    let b = get_or order j d in
    let far : is_lt (key_order_cmp b a) ≡ false = sorted_far (λ x y. is_lt (key_order_cmp x y)) (ranks_by key_order_total (λ (row : KeyedRow). row)) order is.sorted i j d (omega (arith, before)) less in
    not_after a.key b.key a.start b.start a.place b.place far (other_places rows order is.permuted i j d before less)
