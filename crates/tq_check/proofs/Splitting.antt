-- Counts by a test that gets the items above an item, part by part.
use Rattle.std.proofs.Common.{◌≡◌, ◌∙◌, ◌+◌, Bool, cond, List, [], ◌∷◌, ◌++◌, ap, refl, sym, arith}
use Rattle.std.specs.Prelude.{All}
use Rattle.std.proofs.lemmas.List.Elements.{All-cons, All-head, All-tail}
use Rattle.tq_check.specs.EqualRows.{count_rows}

-- the items above, after some more items
abbrev pub behind : {X : Type 0} → List X → List X → List X
behind [] above = above
behind (x ∷ xs) above = behind xs (x ∷ above)

-- what holds of the items of both lists holds of them put together
pub all_behind : {X : Type 0} (P : X → Type 0) (xs above : List X) → All P xs → All P above → All P (behind xs above)
all_behind P [] above xs_are above_are = above_are
all_behind P (x ∷ xs) above xs_are above_are =
    all_behind P xs (x ∷ above) (All-tail P x xs xs_are) (All-cons P x above (All-head P x xs xs_are) above_are)

-- the items of a list, and then those of another
pub count_append : {X : Type 0} (test : List X → X → Bool) (above xs ys : List X)
    → count_rows test above (xs ++ ys) ≡ count_rows test above xs + count_rows test (behind xs above) ys
unfolding count_rows
count_append test above [] ys = omega arith
count_append test above (x ∷ xs) ys = let rest = count_append test (x ∷ above) xs ys in omega (arith, rest)

-- two tests that get different items above, and agree on each item, give the same count
pub count_as : {X : Type 0} (test other : List X → X → Bool) (told : List X → List X) → ((x : X) (l : List X) → told (x ∷ l) ≡ x ∷ told l)
    → (above rows : List X) → All (λ row. (l : List X) → test (told l) row ≡ other l row) rows
    → count_rows test (told above) rows ≡ count_rows other above rows
unfolding count_rows
count_as test other told grows above [] same = refl
count_as {X} test other told grows above (row ∷ rows) same =
    let Same : X → Type 0 = λ row. (l : List X) → test (told l) row ≡ other l row in
    let first : test (told above) row ≡ other above row = All-head Same row rows same above in
    let rest = count_as test other told grows (row ∷ above) rows (All-tail Same row rows same) in
    let next : count_rows test (row ∷ told above) rows ≡ count_rows other (row ∷ above) rows = ap (λ l. count_rows test l rows) (sym (grows row above)) ∙ rest in
    λ i. cond (first i) 1 0 + next i
