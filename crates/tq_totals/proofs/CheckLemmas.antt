-- The first row, and the first column, that passes a test.
use Rattle.std.proofs.Common.{◌≡◌, ◌∙◌, ℕ, ◌+◌, ◌<◌, Bool, true, false, ◌||◌, cond, nat_lt, List, [], ◌∷◌, drop, get_or, length, Some, None, refl, ap, arith}
use Rattle.std.proofs.lemmas.Bool.Decides.{nat_tests}
use Rattle.std.proofs.lemmas.Bool.{eq-eqb, ne_eqb}
use Rattle.std.proofs.lemmas.List.{at_drop_more}
use Rattle.std.proofs.lemmas.List.Sums.{position_or_len_is}
use Rattle.std.specs.List.{find, list_any, position, position_or_len}
use Rattle.std.specs.Option.{option_map}
use Rattle.tq_base.specs.declared.fragment.Fragment.{Fragment}
use Rattle.tq_base.specs.declared.period.TheConstants.{FOREVER}
use Rattle.tq_totals.specs.Totals.{first_row, is_open}

pub position_is : {X : Type 0} (test : X → Bool) (xs : List X) (i : ℕ) (d : X) → i < length xs → ((k : ℕ) → k < i → test (get_or xs k d) ≡ false) → test (get_or xs i d) ≡ true
    → position test xs ≡ Some i
position_is test xs i d within before at =
    let place : position_or_len test xs ≡ i = position_or_len_is test xs i d (omega (arith, within)) before (λ _. at) in
    let less : nat_lt i (length xs) ≡ true = grind (arith, nat_tests) in
    ap (λ n. cond (nat_lt n (length xs)) (Some n) None) place ∙ ap (λ b. cond b (Some i) None) less

pub first_row_is : (test : Fragment → Bool) (rows : List Fragment) (i : ℕ) (d : Fragment) → i < length rows → ((k : ℕ) → k < i → test (get_or rows k d) ≡ false) → test (get_or rows i d) ≡ true
    → first_row test rows ≡ Some (i + 1)
first_row_is test rows i d within before at = ap (option_map (λ n. n + 1)) (position_is test rows i d within before at)

pub no_position : {X : Type 0} (test : X → Bool) (xs : List X) (d : X) → ((k : ℕ) → k < length xs → test (get_or xs k d) ≡ false) → position test xs ≡ None
no_position test xs d before =
    let place : position_or_len test xs ≡ length xs = position_or_len_is test xs (length xs) d (omega arith) before (λ less. absurd (omega (arith, less))) in
    let end : nat_lt (length xs) (length xs) ≡ false = grind (arith, nat_tests) in
    ap (λ n. cond (nat_lt n (length xs)) (Some n) None) place ∙ ap (λ b. cond b (Some (length xs)) None) end

-- the next element passes, or it does not
pub find_here : {X : Type 0} (test : X → Bool) (xs : List X) (i : ℕ) (d : X) → i < length xs → test (get_or xs i d) ≡ true → find test (drop i xs) ≡ Some (get_or xs i d)
find_here test xs i d within passes = at_drop_more (find test) xs i d within ∙ ap (λ b. cond b (Some (get_or xs i d)) (find test (drop (i + 1) xs))) passes

pub find_later : {X : Type 0} (test : X → Bool) (xs : List X) (i : ℕ) (d : X) → i < length xs → test (get_or xs i d) ≡ false → find test (drop i xs) ≡ find test (drop (i + 1) xs)
find_later test xs i d within fails = at_drop_more (find test) xs i d within ∙ ap (λ b. cond b (Some (get_or xs i d)) (find test (drop (i + 1) xs))) fails

-- an element passes exactly if one is found
pub any_found : {X : Type 0} (test : X → Bool) (xs : List X) (x : X) → find test xs ≡ Some x → list_any test xs ≡ true
any_found test [] x found = cc
any_found test (y ∷ xs) x found = by (test y) found (any_found test xs x)
  where
    by : (b : Bool) → cond b (Some y) (find test xs) ≡ Some x → (find test xs ≡ Some x → list_any test xs ≡ true) → (b || list_any test xs) ≡ true
    by true e rest = refl
    by false e rest = rest e

pub none_found : {X : Type 0} (test : X → Bool) (xs : List X) → find test xs ≡ None → list_any test xs ≡ false
none_found test [] found = refl
none_found test (y ∷ xs) found = by (test y) found (none_found test xs)
  where
    by : (b : Bool) → cond b (Some y) (find test xs) ≡ None → (find test xs ≡ None → list_any test xs ≡ false) → (b || list_any test xs) ≡ false
    by true e rest = cc
    by false e rest = rest e

-- whether a row's period has an end
pub not_open : (row : Fragment) → row.period.end < FOREVER → is_open row ≡ false
not_open row less = ne_eqb row.period.end FOREVER (λ same. omega (arith, less, same))

pub opened : (row : Fragment) → row.period.end ≡ FOREVER → is_open row ≡ true
opened row same = eq-eqb row.period.end FOREVER same
