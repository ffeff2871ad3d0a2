-- The cases of a factor.
use Rattle.std.proofs.Common.{◌≡◌, ℕ, zero, suc, ◌-◌, ◌<◌, true, false, List, arith, refl}
use Rattle.std.specs.Prelude.{Err}
use Rattle.tq_sql.specs.declared.cursor.Refusal.TheVariants.{TooDeep}
use Rattle.tq_sql.specs.declared.token.TokenKind.TheVariants as k
use Rattle.tq_sql.specs.declared.statement.Cond.TheVariants as cond_
use Rattle.tq_sql.specs.Tokens.{Token}
use Rattle.tq_sql.specs.Descent.{and_then, pure, next, sees, not_at, and_at, or_at, comparison_at, closed}

pub not_at_comparison : (n : ℕ) (ts : List Token) → sees k.Not ts ≡ false → sees k.Open ts ≡ false → not_at n ts ≡ comparison_at ts
unfolding not_at
not_at_comparison zero ts a b = rw (a, b) refl
not_at_comparison (suc n) ts a b = rw (a, b) refl

pub not_at_deep : (n : ℕ) (ts : List Token) → n ≡ 0 → sees k.Not ts ≡ true → not_at n ts ≡ Err (TooDeep, ts)
unfolding not_at
not_at_deep zero ts e a = rw a refl
not_at_deep (suc n) ts e a = absurd (omega arith)

pub not_at_deep_open : (n : ℕ) (ts : List Token) → n ≡ 0 → sees k.Not ts ≡ false → sees k.Open ts ≡ true → not_at n ts ≡ Err (TooDeep, ts)
unfolding not_at
not_at_deep_open zero ts e a b = rw (a, b) refl
not_at_deep_open (suc n) ts e a b = absurd (omega arith)

pub not_at_not : (n : ℕ) (ts : List Token) → 0 < n → sees k.Not ts ≡ true → not_at n ts ≡ and_then (not_at (n - 1) (next ts)) (λ c. pure (cond_.Not c))
unfolding not_at
not_at_not zero ts e a = absurd (omega arith)
not_at_not (suc n) ts e a = let same : n ≡ suc n - 1 = omega arith in rw (a, ← same) refl

pub not_at_open : (n : ℕ) (ts : List Token) → 0 < n → sees k.Not ts ≡ false → sees k.Open ts ≡ true → not_at n ts ≡ closed (or_at (n - 1)) (next ts)
unfolding not_at or_at and_at
not_at_open zero ts e a b = absurd (omega arith)
not_at_open (suc n) ts e a b = let same : n ≡ suc n - 1 = omega arith in rw (a, b, ← same) refl

pub ruleset levels = (not_at_comparison, not_at_deep, not_at_deep_open, not_at_not, not_at_open)
