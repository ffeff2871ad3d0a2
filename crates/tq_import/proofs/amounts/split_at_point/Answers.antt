use Rattle.std.proofs.Common.{◌≡◌, ◌<◌, ◌≤◌, ◌+◌, ℕ, Bool, true, false, ◌==◌, cond, List, length, Some, None, nat_lt, sym, refl, arith}
use Rattle.std.specs.Prelude.{position}
use Rattle.std.specs.List.{position_or_len}
use Rattle.std.proofs.lemmas.List.{take_all, drop_all, take_rest}
use Rattle.std.proofs.lemmas.Bool.Decides.{nat_tests}
use Rattle.tq_import.proofs.amounts.split_at_point.Goals as goal

found : (p : ℕ → Bool) (xs : List ℕ) (i : ℕ) → Some i ≡ position p xs → position_or_len p xs ≡ i
found p xs i is = by (nat_lt (position_or_len p xs) (length xs)) is
  where
    by : (b : Bool) → Some i ≡ cond b (Some (position_or_len p xs)) None → position_or_len p xs ≡ i
    by true e = cc
    by false e = cc

absent : (p : ℕ → Bool) (xs : List ℕ) → None ≡ position p xs → length xs ≤ position_or_len p xs
absent p xs is = by (nat_lt (position_or_len p xs) (length xs)) refl is
  where
    by : (b : Bool) → nat_lt (position_or_len p xs) (length xs) ≡ b → None ≡ cond b (Some (position_or_len p xs)) None → length xs ≤ position_or_len p xs
    by true t e = cc
    by false t e = grind (arith, nat_tests)

pub returns-in-Some-clause-whole : goal.returns-in-Some-clause-whole
returns-in-Some-clause-whole c = rw (found (λ b. b == c.args.point) c.args.number.now c.in-Some.place c.in-Some.ensures.value) refl

pub returns-in-Some-clause-fraction : goal.returns-in-Some-clause-fraction
returns-in-Some-clause-fraction c =
    let within : c.in-Some.place < length c.args.number.now = c.in-Some.ensures.within in
    rw (found (λ b. b == c.args.point) c.args.number.now c.in-Some.place c.in-Some.ensures.value) (take_rest c.args.number.now (c.in-Some.place + 1))

pub returns-in-None-clause-whole : goal.returns-in-None-clause-whole
returns-in-None-clause-whole c = sym (take_all (position_or_len (λ b. b == c.args.point) c.args.number.now) c.args.number.now (absent (λ b. b == c.args.point) c.args.number.now c.in-None.ensures.value))

pub returns-in-None-clause-fraction : goal.returns-in-None-clause-fraction
returns-in-None-clause-fraction c = sym (drop_all (position_or_len (λ b. b == c.args.point) c.args.number.now + 1) c.args.number.now (omega (arith, absent (λ b. b == c.args.point) c.args.number.now c.in-None.ensures.value)))
