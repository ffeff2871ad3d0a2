use Rattle.std.proofs.Common.{◌≡◌, ◌∙◌, ◌+◌, ◌-◌, ◌==◌, List, ℕ, Some, None, option_map, position, take, drop, length, length-drop, arith, ap, sym}
use Rattle.std.proofs.lemmas.List.{take_all}
use Rattle.tq_plan.proofs.windows.dash_after.Goals as goal

-- the bytes after the first n of them
rest_is : (bytes : List ℕ) (many : ℕ) → take (length bytes - many) (drop many bytes) ≡ drop many bytes
rest_is bytes many = take_all (length bytes - many) (drop many bytes) (omega (arith, length-drop many bytes))

pub returns-in-Some-clause-place : goal.returns-in-Some-clause-place
returns-in-Some-clause-place c =
    let found : position (λ b. b == 45) (drop c.args.many c.args.bytes.now) ≡ Some c.in-Some.place
    = ap (position (λ b. b == 45)) (sym (rest_is c.args.bytes.now c.args.many)) ∙ sym c.dash_in.ensures.place ∙ c.in-Some.is in
    sym (ap (option_map (λ place. c.args.many + place)) found)

pub returns-in-None-clause-place : goal.returns-in-None-clause-place
returns-in-None-clause-place c =
    let found : position (λ b. b == 45) (drop c.args.many c.args.bytes.now) ≡ None
    = ap (position (λ b. b == 45)) (sym (rest_is c.args.bytes.now c.args.many)) ∙ sym c.dash_in.ensures.place ∙ c.in-None.is in
    sym (ap (option_map (λ place. c.args.many + place)) found)
