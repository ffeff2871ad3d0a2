-- The comparisons of a condition, part by part.
use Rattle.std.proofs.Common.{◌≡◌, ◌∙◌, ℕ, ◌+◌, List, [], ◌∷◌, ◌++◌, ap, sym, refl, map, reverse, append_assoc}
use Rattle.std.proofs.lemmas.List.{map-append, reverse-append, reverse-reverse}
use Rattle.tq_sql.specs.declared.statement.Cond.{Cond, fold-Cond}
use Rattle.tq_sql.specs.declared.statement.Cond.TheFolds.{fold-roll-Cond}
use Rattle.tq_sql.specs.declared.statement.Cond.TheOpen.{Cond-F}
use Rattle.tq_sql.specs.declared.statement.Cond.TheVariants.{Is, And, Or, Not, rolls-Is, rolls-And, rolls-Or, rolls-Not}
use Rattle.tq_sql.specs.declared.statement.Sign.{Sign}
use Rattle.tq_sql.specs.declared.statement.Term.{Term}
use Rattle.tq_diagnostics.specs.Parts.{pairs_of, pairs_step}

pub pairs_of-Is : (left : Term) (sign : Sign) (right : Term) → pairs_of (Is left sign right) ≡ (left, right) ∷ []
unfolding pairs_of
pairs_of-Is left sign right =
    ap (λ c. fold-Cond (List (Term × Term)) pairs_step c) (sym (rolls-Is left sign right)) ∙ fold-roll-Cond (List (Term × Term)) pairs_step (Cond-F.Is left sign right)

pub pairs_of-And : (a b : Cond) → pairs_of (And a b) ≡ pairs_of a ++ pairs_of b
unfolding pairs_of
pairs_of-And a b = ap (λ c. fold-Cond (List (Term × Term)) pairs_step c) (sym (rolls-And a b)) ∙ fold-roll-Cond (List (Term × Term)) pairs_step (Cond-F.And a b)

pub pairs_of-Or : (a b : Cond) → pairs_of (Or a b) ≡ pairs_of a ++ pairs_of b
unfolding pairs_of
pairs_of-Or a b = ap (λ c. fold-Cond (List (Term × Term)) pairs_step c) (sym (rolls-Or a b)) ∙ fold-roll-Cond (List (Term × Term)) pairs_step (Cond-F.Or a b)

pub pairs_of-Not : (a : Cond) → pairs_of (Not a) ≡ pairs_of a
unfolding pairs_of
pairs_of-Not a = ap (λ c. fold-Cond (List (Term × Term)) pairs_step c) (sym (rolls-Not a)) ∙ fold-roll-Cond (List (Term × Term)) pairs_step (Cond-F.Not a)

abbrev pub weight_step : Cond-F ℕ → ℕ
weight_step (Cond-F.Is left sign right) = 0
weight_step (Cond-F.And a b) = a + b + 1
weight_step (Cond-F.Or a b) = a + b + 1
weight_step (Cond-F.Not a) = a + 1

-- the number of pairs and negations in a condition
unfoldable pub weight : Cond → ℕ
weight c = fold-Cond ℕ weight_step c

pub weight-And : (a b : Cond) → weight (And a b) ≡ weight a + weight b + 1
unfolding weight
weight-And a b = ap (λ c. fold-Cond ℕ weight_step c) (sym (rolls-And a b)) ∙ fold-roll-Cond ℕ weight_step (Cond-F.And a b)

pub weight-Or : (a b : Cond) → weight (Or a b) ≡ weight a + weight b + 1
unfolding weight
weight-Or a b = ap (λ c. fold-Cond ℕ weight_step c) (sym (rolls-Or a b)) ∙ fold-roll-Cond ℕ weight_step (Cond-F.Or a b)

pub weight-Not : (a : Cond) → weight (Not a) ≡ weight a + 1
unfolding weight
weight-Not a = ap (λ c. fold-Cond ℕ weight_step c) (sym (rolls-Not a)) ∙ fold-roll-Cond ℕ weight_step (Cond-F.Not a)

-- ---- the pairs from the right

-- the pairs of the first part come after those of the last part, from the right
pub first_next : (before after all first last whole : List (Term × Term)) → after ≡ before ++ reverse last → whole ≡ first ++ last
    → before ++ reverse whole ≡ all → after ++ reverse first ≡ all
first_next before after all first last whole pushed is leads =
    ap (λ (l : List (Term × Term)). l ++ reverse first) pushed
    ∙ append_assoc before (reverse last) (reverse first)
    ∙ ap (λ (l : List (Term × Term)). before ++ l) (sym (reverse-append first last))
    ∙ ap (λ (l : List (Term × Term)). before ++ reverse l) (sym is)
    ∙ leads

map_reverse : {X Y : Type 0} (f : X → Y) (l : List X) → map f (reverse l) ≡ reverse (map f l)
map_reverse f [] = refl
map_reverse f (x ∷ l) =
    ap (map f) (reverse-append (x ∷ []) l)
    ∙ map-append f (reverse l) (x ∷ [])
    ∙ ap (λ m. m ++ f x ∷ []) (map_reverse f l)
    ∙ sym (reverse-append (f x ∷ []) (map f l))

-- pairs that were pushed from the right, reversed
pub turned : {X : Type 0} (f : X → Term × Term) (new pushed old : List X) (pairs : List (Term × Term)) → new ≡ reverse pushed
    → map f pushed ≡ map f old ++ reverse pairs → old ≡ [] → map f new ≡ pairs
turned f new pushed old pairs is all none =
    ap (map f) is
    ∙ map_reverse f pushed
    ∙ ap reverse (all ∙ ap (λ o. map f o ++ reverse pairs) none)
    ∙ reverse-reverse pairs
