-- The rows of a table have one order by key, start and place: as many rows come before a row as stand above it.
use Rattle.std.proofs.Common.{◌≡◌, ◌∙◌, ℕ, zero, suc, ◌<◌, Bool, true, false, cond, ◌&&◌, ◌||◌, List, [], ◌∷◌, ap, refl, sym, arith, get_or, length}
use Rattle.std.specs.Prelude.{All, AllPairs, Contains, IsPermutation, ◌==◌, nat_lt}
use Rattle.std.specs.List.{count_by}
use Rattle.std.proofs.lemmas.Bool.Decides.{nat_tests}
use Rattle.std.proofs.lemmas.List.{get_or_default, same_lists}
use Rattle.std.proofs.lemmas.List.Elements.{All-head, All-tail}
use Rattle.std.proofs.lemmas.List.Sorted.{Contains-permutation, IsPermutation-sym, IsPermutation-trans, sum_by-IsPermutation}
use Rattle.tq_base.specs.declared.fragment.Fragment.{Fragment}
use Rattle.tq_check.specs.declared.key_rows.KeyedRow.{KeyedRow}
use Rattle.tq_check.specs.KeyRows.{keyed_rows, IsKeyOrder}
use Rattle.tq_check.proofs.KeyOrderLemmas.{all_before, count_more, is_before, order_length}

none_counted : {X : Type 0} (p : X → Bool) (xs : List X) → All (λ x. p x ≡ false) xs → count_by p xs ≡ 0
none_counted p [] none = refl
none_counted {X} p (x ∷ xs) none =
    let Not : X → Type 0 = λ x. p x ≡ false in
    let first : cond {A = ℕ} (p x) 1 0 ≡ 0 = ap (λ b. cond {A = ℕ} b 1 0) (All-head Not x xs none) in
    omega (arith, first, none_counted p xs (All-tail Not x xs none), count_more p x xs)

not_before : (k l s t p q : ℕ) → (nat_lt k l || ((k == l) && (nat_lt s t || ((s == t) && nat_lt p q)))) ≡ true → (nat_lt l k || ((l == k) && (nat_lt t s || ((t == s) && nat_lt q p)))) ≡ false
not_before k l s t p q is = grind (arith, nat_tests, is)

not_itself : (k s p : ℕ) → (nat_lt k k || ((k == k) && (nat_lt s s || ((s == s) && nat_lt p p)))) ≡ false
not_itself k s p = grind (arith, nat_tests)

-- as many rows come before a row as stand above it
rank : (rows : List KeyedRow) (i : ℕ) (d : KeyedRow) → AllPairs (λ (a b : KeyedRow). is_before a b ≡ true) rows → i < length rows → count_by (λ row. is_before row (get_or rows i d)) rows ≡ i
rank [] i d ordered less = absurd (omega (arith, less))
rank (row ∷ rows) zero d ordered less =
    let first : is_before row row ≡ false = not_itself row.key row.start row.place in
    let rest = none_counted (λ other. is_before other row) rows (λ k e below.
    let other = get_or rows k e in
    not_before row.key other.key row.start other.start row.place other.place (ordered 0 (suc k) e (omega arith) (omega (arith, below)))) in
    let one : cond {A = ℕ} (is_before row row) 1 0 ≡ 0 = ap (λ b. cond {A = ℕ} b 1 0) first in
    omega (arith, one, rest, count_more (λ other. is_before other row) row rows)
rank (row ∷ rows) (suc i) d ordered less =
    let first : is_before row (get_or rows i d) ≡ true = ordered 0 (suc i) d (omega arith) less in
    let rest = rank rows i d (λ a b e before below. ordered (suc a) (suc b) e (omega (arith, before)) (omega (arith, below))) (omega (arith, less)) in
    let one : cond {A = ℕ} (is_before row (get_or rows i d)) 1 0 ≡ 1 = ap (λ b. cond {A = ℕ} b 1 0) first in
    omega (arith, one, rest, count_more (λ other. is_before other (get_or rows i d)) row rows)

pub same_order : (rows : List Fragment) (one other : List KeyedRow) → IsKeyOrder rows one → IsKeyOrder rows other → one ≡ other
same_order rows one other one_is other_is = same_lists one other (order_length rows one one_is ∙ sym (order_length rows other other_is)) each
  where
    moved : IsPermutation one other
    moved = IsPermutation-trans one (keyed_rows rows) other (IsPermutation-sym (keyed_rows rows) one one_is.permuted) other_is.permuted

    each : (i : ℕ) (d : KeyedRow) → i < length one → get_or one i d ≡ get_or other i d
    each i d less =
        let a = get_or one i d in
        let there : Contains other a = Contains-permutation one other a moved (i, less, get_or_default one i a d less) in
        let j = there.0 in
        let here : get_or other j a ≡ a = there.2 in
        let counts : count_by (λ row. is_before row a) other ≡ count_by (λ row. is_before row a) one = sum_by-IsPermutation (λ row. cond (is_before row a) 1 0) one other moved in
        let in_one : count_by (λ row. is_before row a) one ≡ i = rank one i d (all_before rows one one_is) less in
        let in_other : count_by (λ row. is_before row a) other ≡ j = ap (λ z. count_by (λ row. is_before row z) other) (sym here) ∙ rank other j a (all_before rows other other_is) there.1 in
        let place : j ≡ i = omega (arith, counts, in_one, in_other) in
        sym here ∙ ap (λ n. get_or other n a) place ∙ get_or_default other i a d (omega (arith, there.1, place))
