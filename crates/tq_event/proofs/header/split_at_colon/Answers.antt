use Rattle.std.proofs.Common.{◌≡◌, ◌<◌, ◌≤◌, ◌+◌, ℕ, Bool, true, false, ◌==◌, cond, List, length, Some, None, nat_lt, sym, refl, arith}
use Rattle.std.specs.Prelude.{position}
use Rattle.std.specs.List.{position_or_len}
use Rattle.std.proofs.lemmas.List.{take_all, drop_all, take_rest}
use Rattle.std.proofs.lemmas.Bool.Decides.{nat_tests}
use Rattle.tq_event.proofs.header.split_at_colon.Goals as goal

found : (p : ℕ → Bool) (xs : List ℕ) (i : ℕ) → Some i ≡ position p xs → position_or_len p xs ≡ i
found p xs i is = by (nat_lt (position_or_len p xs) (length xs)) is
  where
    by : (b : Bool) → Some i ≡ cond b (Some (position_or_len p xs)) None → position_or_len p xs ≡ i
    by true e = cc
    by false e = cc

absent : (p : ℕ → Bool) (xs : List ℕ) → None ≡ position p xs → length xs ≤ position_or_len p xs
absent p xs is = by (nat_lt (position_or_len p xs) (length xs)) refl is
  where
    by : (b : Bool) → nat_lt (position_or_len p xs) (length xs) ≡ b → None ≡ cond b (Some (position_or_len p xs)) None → length xs ≤ position_or_len p xs
    by true t e = cc
    by false t e = grind (arith, nat_tests)

pub returns-in-Some-clause-before : goal.returns-in-Some-clause-before
returns-in-Some-clause-before c = rw (found (λ b. b == 58) c.args.field.now c.in-Some.colon c.in-Some.ensures.value) refl

pub returns-in-Some-clause-after : goal.returns-in-Some-clause-after
returns-in-Some-clause-after c =
    let within : c.in-Some.colon < length c.args.field.now = c.in-Some.ensures.within in
    rw (found (λ b. b == 58) c.args.field.now c.in-Some.colon c.in-Some.ensures.value) (take_rest c.args.field.now (c.in-Some.colon + 1))

pub returns-in-None-clause-before : goal.returns-in-None-clause-before
returns-in-None-clause-before c = sym (take_all (position_or_len (λ b. b == 58) c.args.field.now) c.args.field.now (absent (λ b. b == 58) c.args.field.now c.in-None.ensures.value))

pub returns-in-None-clause-after : goal.returns-in-None-clause-after
returns-in-None-clause-after c = sym (drop_all (position_or_len (λ b. b == 58) c.args.field.now + 1) c.args.field.now (omega (arith, absent (λ b. b == 58) c.args.field.now c.in-None.ensures.value)))
