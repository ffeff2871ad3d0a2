-- Reading with one more level gives the same, but goes past the token that opens one level too many.
use Rattle.std.proofs.Common.{◌≡◌, ◌≢◌, ◌≤◌, ◌<◌, ◌⊎◌, inl, inr, ℕ, zero, suc, Bool, true, false, cond, List, [], ◌∷◌, ◌++◌, length, refl, ap, sym, ◌∙◌, subst, arith, append-nil, length-append}
use Rattle.std.specs.Prelude.{Option, Some, None, Ok, Err}
use Rattle.tq_sql.specs.declared.cursor.Refusal.{Refusal}
use Rattle.tq_sql.specs.declared.cursor.Refusal.TheVariants.{TooDeep, Unexpected}
use Rattle.tq_sql.specs.declared.statement.Cond.{Cond}
use Rattle.tq_sql.specs.declared.statement.Cond.TheVariants as c
use Rattle.tq_sql.specs.declared.statement.Item.{Item}
use Rattle.tq_sql.specs.declared.statement.Query.{Query}
use Rattle.tq_sql.specs.declared.statement.SourceRef.{SourceRef}
use Rattle.tq_sql.specs.declared.statement.Statement.{Statement}
use Rattle.tq_sql.specs.declared.token.TokenKind.{TokenKind}
use Rattle.tq_sql.specs.declared.token.TokenKind.TheVariants as k
use Rattle.tq_sql.specs.Tokens.{Token}
use Rattle.tq_sql.specs.Descent.{Outcome, Reader, and_then, pure, stop, next, sees, eat, expect, more_from, chain, optional, preceded, comparison_at, closed, not_at, and_at, or_at, condition_at, items_at, sources_at, group_at, query_at, window_at, right_at, end_at, body_at, statement_at, ◌>>=◌}
use Rattle.tq_sql.specs.Grammar.{IsStatementWithin}
use Rattle.tq_sql.specs.Reading.{CanContinue}
use Rattle.tq_sql.proofs.ReaderLemmas.{kind_seen}
use Rattle.tq_sql.proofs.ConditionLemmas.{open_real, not_real}
use Rattle.tq_sql.proofs.SteadyLemmas.{AgreeingTo, IsSteady, Says, tail_of, shorter, bind_steady, pure_steady, eat_steady, expect_steady}
use Rattle.tq_sql.proofs.OpenLemmas.{err_pair}
use Rattle.tq_sql.proofs.PlaceLemmas.{of_parts, made, items_steady, sources_steady, comparison_steady, chains_steady, closed_steady, not_steady, group_steady, window_steady, end_steady, statement_steady}
use Rattle.tq_sql.proofs.StatementLemmas.{statement_sound}
use Rattle.tq_sql.proofs.ViableLemmas.{statement_open}

-- both are equal and not TooDeep, or the first is TooDeep and the second goes past that token
abbrev pub Deepens : {A : Type 0} → Outcome A → Outcome A → Type 0
Deepens r s = ((r ≡ s) × Says false r) ⊎ ((rest : List Token) × (r ≡ Err (TooDeep, rest)) × (length (tail_of s) < length rest))

-- q reads as p does, with one more level
record IsDeeper {A : Type 0} (p q : List Token → Outcome A) : Type 0 where
  short : (ts : List Token) → length (tail_of (q ts)) ≤ length ts
  deepens : (ts : List Token) → Deepens (p ts) (q ts)

-- a reader without levels
flat : {A : Type 0} (p : List Token → Outcome A) → IsSteady false p → IsDeeper p p
flat p steady = record { short = λ ts. shorter p steady ts; deepens = λ ts. inl (refl, steady.says ts) }

-- ---- one reader after another

bind_short : {A B : Type 0} (r : Outcome A) (f : A → List Token → Outcome B) → ((x : A) (ts : List Token) → length (tail_of (f x ts)) ≤ length ts) → length (tail_of (and_then r f)) ≤ length (tail_of r)
bind_short (Err r) f short = omega arith
bind_short (Ok r) f short = short r.0 r.1

bind_same : {A B : Type 0} (r : Outcome A) (f g : A → List Token → Outcome B) → Says false r → ((x : A) → IsDeeper (f x) (g x)) → Deepens (and_then r f) (and_then r g)
bind_same (Err r) f g says others = inl (refl, says)
bind_same (Ok r) f g says others = (others r.0).deepens r.1

bind_deepens : {A B : Type 0} (r s : Outcome A) (f g : A → List Token → Outcome B) → Deepens r s → ((x : A) → IsDeeper (f x) (g x)) → Deepens (and_then r f) (and_then s g)
bind_deepens {A} r s f g (inl h) others = let P = λ (z : Outcome A). Deepens (and_then r f) (and_then z g) in subst P h.0 (bind_same r f g h.1 others)
bind_deepens r s f g (inr h) others = inr (h.0, ap (λ z. and_then z f) h.1, (let less = bind_short s g (λ x ts. (others x).short ts) in omega (arith, less, h.2)))

bind_deeper : {A B : Type 0} (p q : List Token → Outcome A) (f g : A → List Token → Outcome B) → IsDeeper p q → ((x : A) → IsDeeper (f x) (g x)) → IsDeeper (p >>= f) (q >>= g)
bind_deeper p q f g one others = record {
  short = λ ts. (let less = bind_short (q ts) g (λ x us. (others x).short us) in omega (arith, less, one.short ts));
  deepens = λ ts. bind_deepens (p ts) (q ts) f g (one.deepens ts) others;
}

-- a reader without levels, and then one with levels
then_deeper : {A B : Type 0} (p : List Token → Outcome A) (f g : A → List Token → Outcome B) → IsSteady false p → ((x : A) → IsDeeper (f x) (g x)) → IsDeeper (p >>= f) (p >>= g)
then_deeper p f g steady others = bind_deeper p p f g (flat p steady) others

-- ---- the next token

next_short : (ts : List Token) → length (next ts) ≤ length ts
unfolding next
next_short [] = omega arith
next_short (t ∷ ts) = omega arith

next_deeper : {A : Type 0} (p q : List Token → Outcome A) → IsDeeper p q → IsDeeper (λ ts. p (next ts)) (λ ts. q (next ts))
next_deeper p q deeper = record { short = λ ts. (let less = deeper.short (next ts) in omega (arith, less, next_short ts)); deepens = λ ts. deeper.deepens (next ts) }

if_deeper : {A : Type 0} (kind : TokenKind) (p q u v : List Token → Outcome A) → IsDeeper p q → IsDeeper u v → IsDeeper (λ ts. cond (sees kind ts) (p ts) (u ts)) (λ ts. cond (sees kind ts) (q ts) (v ts))
if_deeper kind p q u v one two = record { short = λ ts. short ts (sees kind ts); deepens = λ ts. deepens ts (sees kind ts) }
  where
    short : (ts : List Token) (b : Bool) → length (tail_of (cond b (q ts) (v ts))) ≤ length ts
    short ts true = one.short ts
    short ts false = two.short ts

    deepens : (ts : List Token) (b : Bool) → Deepens (cond b (p ts) (u ts)) (cond b (q ts) (v ts))
    deepens ts true = one.deepens ts
    deepens ts false = two.deepens ts

-- a token that opens a level: the first reader stops before it, the second goes past it
open_deeper : {A : Type 0} (kind : TokenKind) → kind ≢ k.End → (q u v : List Token → Outcome A) → IsSteady true q → IsDeeper u v → IsDeeper (λ ts. cond (sees kind ts) (stop TooDeep ts) (u ts)) (λ ts. cond (sees kind ts) (q (next ts)) (v ts))
open_deeper {A} kind real q u v steady two = record { short = λ ts. short ts (sees kind ts); deepens = λ ts. deepens ts (sees kind ts) refl }
  where
    short : (ts : List Token) (b : Bool) → length (tail_of (cond b (q (next ts)) (v ts))) ≤ length ts
    short ts true = let less = shorter q steady (next ts) in omega (arith, less, next_short ts)
    short ts false = two.short ts

    deepens : (ts : List Token) (b : Bool) → sees kind ts ≡ b → Deepens (cond b (stop {A = A} TooDeep ts) (u ts)) (cond b (q (next ts)) (v ts))
    deepens ts true e =
        let first = kind_seen kind ts e real in
        inr (ts, refl, omega (arith, ap length first.1, shorter q steady (next ts)))
    deepens ts false e = two.deepens ts

-- ---- conditions

more_deeper : (mark : TokenKind) (both : Cond → Cond → Cond) (p q : List Token → Outcome Cond) → IsDeeper p q → (n : ℕ) (all : Cond) → IsDeeper (more_from mark p both n all) (more_from mark q both n all)
more_deeper mark both p q one zero all = flat (pure all) (pure_steady all)
more_deeper mark both p q one (suc n) all =
    then_deeper (eat mark) (λ found. cond found (p >>= (λ x. more_from mark p both n (both all x))) (pure all)) (λ found. cond found (q >>= (λ x. more_from mark q both n (both all x))) (pure all)) (eat_steady mark) (turn (λ x. more_deeper mark both p q one n (both all x)))
  where
    turn : ((x : Cond) → IsDeeper (more_from mark p both n (both all x)) (more_from mark q both n (both all x))) → (found : Bool) → IsDeeper (cond found (p >>= (λ x. more_from mark p both n (both all x))) (pure all)) (cond found (q >>= (λ x. more_from mark q both n (both all x))) (pure all))
    turn again true = bind_deeper p q (λ x. more_from mark p both n (both all x)) (λ x. more_from mark q both n (both all x)) one again
    turn again false = flat (pure all) (pure_steady all)

chain_deeper : (mark : TokenKind) (both : Cond → Cond → Cond) (p q : List Token → Outcome Cond) → IsDeeper p q → IsDeeper (chain mark both p) (chain mark both q)
chain_deeper mark both p q one =
    bind_deeper p q (λ x ts. more_from mark p both (length ts) x ts) (λ x ts. more_from mark q both (length ts) x ts) one
    (λ x. record { short = λ ts. (more_deeper mark both p q one (length ts) x).short ts; deepens = λ ts. (more_deeper mark both p q one (length ts) x).deepens ts })

chains_deeper : (p q : List Token → Outcome Cond) → IsDeeper p q → IsDeeper (chain k.Or c.Or (chain k.And c.And p)) (chain k.Or c.Or (chain k.And c.And q))
chains_deeper p q one = chain_deeper k.Or c.Or (chain k.And c.And p) (chain k.And c.And q) (chain_deeper k.And c.And p q one)

closed_deeper : (p q : List Token → Outcome Cond) → IsDeeper p q → IsDeeper (closed p) (closed q)
unfolding closed
closed_deeper p q one =
    bind_deeper p q (λ x. expect k.Close >>= (λ _. pure x)) (λ x. expect k.Close >>= (λ _. pure x)) one
    (λ x. flat (expect k.Close >>= (λ _. pure x)) (bind_steady (expect k.Close) (λ _. pure x) (expect_steady k.Close) (λ _. pure_steady x)))

abbrev negated : ℕ → Reader Cond
negated levels = not_at levels >>= (λ x. pure (c.Not x))

abbrev bracketed : ℕ → Reader Cond
bracketed levels = closed (chain k.Or c.Or (chain k.And c.And (not_at levels)))

negated_steady : (levels : ℕ) → IsSteady true (negated levels)
negated_steady levels = bind_steady (not_at levels) (λ x. pure (c.Not x)) (not_steady levels) (λ x. pure_steady (c.Not x))

bracketed_steady : (levels : ℕ) → IsSteady true (bracketed levels)
bracketed_steady levels = closed_steady (chain k.Or c.Or (chain k.And c.And (not_at levels))) (chains_steady (not_at levels) (not_steady levels))

not_deeper : (levels : ℕ) → IsDeeper (not_at levels) (not_at (suc levels))
unfolding not_at
not_deeper zero =
    open_deeper k.Not not_real (negated 0) (λ ts. cond (sees k.Open ts) (stop TooDeep ts) (comparison_at ts)) (λ ts. cond (sees k.Open ts) (bracketed 0 (next ts)) (comparison_at ts)) (negated_steady 0)
    (open_deeper k.Open open_real (bracketed 0) comparison_at comparison_at (bracketed_steady 0) (flat comparison_at comparison_steady))
not_deeper (suc n) =
    let inner = not_deeper n in
    if_deeper k.Not (λ ts. negated n (next ts)) (λ ts. negated (suc n) (next ts)) (λ ts. cond (sees k.Open ts) (bracketed n (next ts)) (comparison_at ts)) (λ ts. cond (sees k.Open ts) (bracketed (suc n) (next ts)) (comparison_at ts))
    (next_deeper (negated n) (negated (suc n)) (bind_deeper (not_at n) (not_at (suc n)) (λ x. pure (c.Not x)) (λ x. pure (c.Not x)) inner (λ x. flat (pure (c.Not x)) (pure_steady (c.Not x)))))
    (if_deeper k.Open (λ ts. bracketed n (next ts)) (λ ts. bracketed (suc n) (next ts)) comparison_at comparison_at
    (next_deeper (bracketed n) (bracketed (suc n))
    (closed_deeper (chain k.Or c.Or (chain k.And c.And (not_at n))) (chain k.Or c.Or (chain k.And c.And (not_at (suc n)))) (chains_deeper (not_at n) (not_at (suc n)) inner)))
    (flat comparison_at comparison_steady))

or_deeper : (levels : ℕ) → IsDeeper (or_at levels) (or_at (suc levels))
unfolding or_at and_at
or_deeper levels = chains_deeper (not_at levels) (not_at (suc levels)) (not_deeper levels)

-- ---- queries and statements

optional_deeper : {A : Type 0} (kind : TokenKind) (p q : List Token → Outcome A) → IsDeeper p q → IsDeeper (optional kind p) (optional kind q)
optional_deeper kind p q one =
    then_deeper (eat kind) (λ found. cond found (p >>= (λ x. pure (Some x))) (pure None)) (λ found. cond found (q >>= (λ x. pure (Some x))) (pure None)) (eat_steady kind) by
  where
    by : (found : Bool) → IsDeeper (cond found (p >>= (λ x. pure (Some x))) (pure None)) (cond found (q >>= (λ x. pure (Some x))) (pure None))
    by true = bind_deeper p q (λ x. pure (Some x)) (λ x. pure (Some x)) one (λ x. flat (pure (Some x)) (pure_steady (Some x)))
    by false = flat (pure None) (pure_steady None)

behind_deeper : {A : Type 0} (kind : TokenKind) (p q : List Token → Outcome A) → IsDeeper p q → IsDeeper (preceded kind p) (preceded kind q)
behind_deeper kind p q one = then_deeper (expect kind) (λ _. p) (λ _. q) (expect_steady kind) (λ _. one)

condition_deeper : (levels : ℕ) → IsDeeper (condition_at levels) (condition_at (suc levels))
unfolding condition_at
condition_deeper levels = optional_deeper k.Where (or_at levels) (or_at (suc levels)) (or_deeper levels)

-- the readers of what follows the sources, and of what follows the items
abbrev behind_sources : ℕ → List Item → List SourceRef → Reader Query
behind_sources levels is ss = condition_at levels >>= (λ x. group_at >>= (λ g. pure (of_parts is ss x g)))

abbrev behind_items : ℕ → List Item → Reader Query
behind_items levels is = expect k.From >>= (λ _. sources_at >>= (λ ss. behind_sources levels is ss))

behind_sources_deeper : (levels : ℕ) (is : List Item) (ss : List SourceRef) → IsDeeper (behind_sources levels is ss) (behind_sources (suc levels) is ss)
behind_sources_deeper levels is ss =
    bind_deeper (condition_at levels) (condition_at (suc levels)) (λ x. group_at >>= (λ g. pure (of_parts is ss x g))) (λ x. group_at >>= (λ g. pure (of_parts is ss x g))) (condition_deeper levels)
    (λ x. flat (group_at >>= (λ g. pure (of_parts is ss x g))) (bind_steady group_at (λ g. pure (of_parts is ss x g)) group_steady (λ g. pure_steady (of_parts is ss x g))))

behind_items_deeper : (levels : ℕ) (is : List Item) → IsDeeper (behind_items levels is) (behind_items (suc levels) is)
behind_items_deeper levels is =
    behind_deeper k.From (sources_at >>= (λ ss. behind_sources levels is ss)) (sources_at >>= (λ ss. behind_sources (suc levels) is ss))
    (then_deeper sources_at (λ ss. behind_sources levels is ss) (λ ss. behind_sources (suc levels) is ss) sources_steady (λ ss. behind_sources_deeper levels is ss))

query_deeper : (levels : ℕ) → IsDeeper (query_at levels) (query_at (suc levels))
unfolding query_at
query_deeper levels =
    behind_deeper k.Select (items_at >>= (λ is. behind_items levels is)) (items_at >>= (λ is. behind_items (suc levels) is))
    (then_deeper items_at (λ is. behind_items levels is) (λ is. behind_items (suc levels) is) items_steady (λ is. behind_items_deeper levels is))

right_deeper : (levels : ℕ) → IsDeeper (right_at levels) (right_at (suc levels))
unfolding right_at
right_deeper levels = optional_deeper k.Except (preceded k.All (query_at levels)) (preceded k.All (query_at (suc levels))) (behind_deeper k.All (query_at levels) (query_at (suc levels)) (query_deeper levels))

abbrev queries : ℕ → Option (List ℕ) → Reader Statement
queries levels w = query_at levels >>= (λ l. right_at levels >>= (λ r. pure (made w l r)))

queries_deeper : (levels : ℕ) (w : Option (List ℕ)) → IsDeeper (queries levels w) (queries (suc levels) w)
queries_deeper levels w =
    bind_deeper (query_at levels) (query_at (suc levels)) (λ l. right_at levels >>= (λ r. pure (made w l r))) (λ l. right_at (suc levels) >>= (λ r. pure (made w l r))) (query_deeper levels)
    (λ l. bind_deeper (right_at levels) (right_at (suc levels)) (λ r. pure (made w l r)) (λ r. pure (made w l r)) (right_deeper levels) (λ r. flat (pure (made w l r)) (pure_steady (made w l r))))

body_deeper : (levels : ℕ) → IsDeeper (body_at levels) (body_at (suc levels))
unfolding body_at
body_deeper levels =
    behind_deeper k.Validtime (window_at >>= (λ w. queries levels w)) (window_at >>= (λ w. queries (suc levels) w))
    (then_deeper window_at (λ w. queries levels w) (λ w. queries (suc levels) w) window_steady (λ w. queries_deeper levels w))

statement_deeper : (levels : ℕ) → IsDeeper (statement_at levels) (statement_at (suc levels))
unfolding statement_at
statement_deeper levels =
    bind_deeper (body_at levels) (body_at (suc levels)) (λ s. end_at >>= (λ _. pure s)) (λ s. end_at >>= (λ _. pure s)) (body_deeper levels)
    (λ s. flat (end_at >>= (λ _. pure s)) (bind_steady end_at (λ _. pure s) end_steady (λ _. pure_steady s)))

-- ---- where reading stops

-- reading stops at an unexpected token or the end, with one more level too; or before a token that opens one level too
-- many
pub why_stopped : (levels : ℕ) (ts rest : List Token) (why : Refusal) → statement_at levels ts ≡ Err (why, rest)
    → ((why ≡ Unexpected) × (statement_at (suc levels) ts ≡ Err (Unexpected, rest))) ⊎ ((why ≡ TooDeep) × (statement_at levels ts ≡ Err (TooDeep, rest)) × (length (tail_of (statement_at (suc levels) ts)) < length rest))
why_stopped levels ts rest why e = elim ((statement_deeper levels).deepens ts) [
  | inl h ↦
      (let P = λ (r : Outcome Statement). Says false r in
      let unexpected : why ≡ Unexpected = subst P e h.1 in
      inl (unexpected, sym h.0 ∙ e ∙ ap (λ z. Err (z, rest)) unexpected))
  | inr h ↦
      (let same = err_pair {A = Statement} why TooDeep rest h.0 (sym e ∙ h.1) in
      inr (same.0, e ∙ ap (λ z. Err (z, rest)) same.0, omega (arith, h.2, ap length same.1)))
]

-- the tokens after it do not matter
cut_short : (t : Token) (rest : List Token) (r q : Outcome Statement) → r ≡ Err (TooDeep, t ∷ rest) → AgreeingTo t rest [] r q → (tail : List Token) × (q ≡ Err (TooDeep, tail)) × (length tail ≡ 1)
cut_short t rest (Ok r) q e h = cc
cut_short t rest (Err r) (Ok q) e (inl h) = absurd h
cut_short t rest (Err r) (Err q) e (inl h) =
    let same = err_pair {A = Statement} r.0 TooDeep r.1 (t ∷ rest) e in
    let back = h.1.back in
    (q.1, ap (λ z. Err (z, q.1)) (sym h.0 ∙ same.0), omega (arith, ap length h.1.left, ap length same.1, ap length h.1.right, length-append back (t ∷ rest), length-append back (t ∷ [])))
cut_short t rest (Err r) q e (inr h) = let same = err_pair {A = Statement} r.0 TooDeep r.1 (t ∷ rest) e in absurd (omega (arith, h, ap length same.1))

none_left : (ts : List Token) → length ts ≤ 0 → ts ≡ []
none_left [] none = refl
none_left (t ∷ ts) none = absurd (omega arith)

-- a statement begins with the tokens if reading takes all of them
all_taken : (levels : ℕ) (ts : List Token) (r : Outcome Statement) → statement_at levels ts ≡ r → length (tail_of r) ≤ 0 → CanContinue levels ts
all_taken levels ts (Ok r) e none = let P : List Token → Type 0 = λ z. IsStatementWithin levels z r.0 in ([], r.0, subst P (sym (append-nil ts)) (statement_sound levels ts r.1 r.0 e))
all_taken levels ts (Err r) e none =
    let o = (statement_open levels).open_at ts r.1 r.0 e in
    let P : List Token → Type 0 = λ z. CanContinue levels z in
    subst P (sym (o.1 ∙ ap (λ z. o.0 ++ z) (none_left r.1 none) ∙ append-nil o.0)) o.2

-- a statement of one more level continues with the token that opens one level too many
pub level_more : (levels : ℕ) (front : List Token) (t : Token) (rest : List Token) → statement_at levels (front ++ t ∷ rest) ≡ Err (TooDeep, t ∷ rest) → CanContinue (suc levels) (front ++ t ∷ [])
level_more levels front t rest e =
    let u = front ++ t ∷ rest in
    let v = front ++ t ∷ [] in
    let cut = cut_short t rest (statement_at levels u) (statement_at levels v) e ((statement_steady levels).agrees t rest [] u v (record { back = front; left = refl; right = refl })) in
    elim (why_stopped levels v cut.0 TooDeep cut.1) [
      | inl h ↦ cc
      | inr h ↦ all_taken (suc levels) v (statement_at (suc levels) v) refl (omega (arith, h.2, cut.2))
    ]
