-- What a row adds while it lasts.
use Rattle.std.proofs.Common.{◌≡◌, ℕ, ◌<◌, ℤ, pos, ◌-ℤ◌, Bool, true, false, ◌&&◌, cond, nat_le, nat_lt, refl, arith}
use Rattle.std.proofs.lemmas.Bool.Decides.{nat_tests}
use Rattle.std.proofs.lemmas.Int.{ints}
use Rattle.tq_base.specs.declared.period.Period.{Period}
use Rattle.tq_base.specs.Periods.{holds, Overlap}

-- what counts for 1 while it lasts has begun and not ended
pub one_while_it_lasts : (p : Period) (t : ℕ) → pos (cond (nat_le p.start t) 1 0) -ℤ pos (cond (nat_le p.end t) 1 0) ≡ cond (holds p t) (pos 1) (pos 0)
one_while_it_lasts p t = let ordered : p.start < p.end = p.ordered in cases (nat_le p.start t) (nat_le p.end t) (nat_lt t p.end) refl refl refl
  where
    cases : (a b h : Bool) → nat_le p.start t ≡ a → nat_le p.end t ≡ b → nat_lt t p.end ≡ h → pos (cond a 1 0) -ℤ pos (cond b 1 0) ≡ cond (a && h) (pos 1) (pos 0)
    cases true true true x y z = absurd (let ordered : p.start < p.end = p.ordered in grind (arith, nat_tests))
    cases true true false x y z = omega (arith, ints)
    cases true false true x y z = omega (arith, ints)
    cases true false false x y z = absurd (let ordered : p.start < p.end = p.ordered in grind (arith, nat_tests))
    cases false true h x y z = absurd (let ordered : p.start < p.end = p.ordered in grind (arith, nat_tests))
    cases false false h x y z = omega (arith, ints)

-- a period that does not overlap another adds nothing inside it
pub apart_adds_none : (p q : Period) (t : ℕ) (w : ℤ) → (Overlap p q → ⊥) → cond (holds p t && holds q t) w (pos 0) ≡ pos 0
apart_adds_none p q t w apart = cases (nat_le p.start t) (nat_lt t p.end) (nat_le q.start t) (nat_lt t q.end) refl refl refl refl
  where
    cases : (a b c d : Bool) → nat_le p.start t ≡ a → nat_lt t p.end ≡ b → nat_le q.start t ≡ c → nat_lt t q.end ≡ d → cond ((a && b) && (c && d)) w (pos 0) ≡ pos 0
    cases true true true true is_a is_b is_c is_d =
        let first : p.start < q.end = grind (arith, nat_tests) in
        let second : q.start < p.end = grind (arith, nat_tests) in
        absurd (apart (first, second))
    cases true true true false is_a is_b is_c is_d = refl
    cases true true false d is_a is_b is_c is_d = refl
    cases true false c d is_a is_b is_c is_d = refl
    cases false b c d is_a is_b is_c is_d = refl
