-- Periods with equal ends are equal.
use Rattle.std.proofs.Common.{◌≡◌, ◌<◌, ℕ, Bool, true, false, Option, Some, None, nat_lt, arith, refl, ap, subst}
use Rattle.std.specs.Coded.{le_prop}
use Rattle.std.specs.Prelude.{◌↔◌, IsSome, IfSome}
use Rattle.std.proofs.lemmas.Bool.Decides.{nat_tests}
use Rattle.tq_base.specs.declared.period.Period.{Period}
use Rattle.tq_plan.specs.Windows.{ordered_if}
use Rattle.tq_plan.proofs.windows.period_between.Goals as goal

abbrev from_to : (start end : ℕ) → start < end → Period
from_to start end o = record { start = start; end = end; ordered = o }

known : (p : Period) (start end : ℕ) → p.start ≡ start → p.end ≡ end → (o : start < end) → p ≡ from_to start end o
known p start end from to =
    subst (λ s. (o : s < end) → p ≡ from_to s end o) from
    (subst (λ e. (o : p.start < e) → p ≡ from_to p.start e o) to (λ o. ap (from_to p.start p.end) (le_prop p.ordered o)))

none : IsSome {T = Period} None → ⊥
none is = cc

decided : (start end : ℕ) (found : Option Period) → (IsSome found ↔ (start < end)) → IfSome found (λ p. p.start ≡ start) → IfSome found (λ p. p.end ≡ end) → (b : Bool) (is : nat_lt start end ≡ b) → found ≡ ordered_if start end b is
decided start end None valid from to true is = absurd (none (valid.1 (grind (arith, nat_tests))))
decided start end None valid from to false is = refl
decided start end (Some p) valid from to true is = ap Some (known p start end from to _)
decided start end (Some p) valid from to false is = absurd (let above = valid.0 refl in grind (arith, nat_tests))

pub returns : goal.returns
returns c = decided c.args.start c.args.end c.new.result c.new.ensures.valid c.new.ensures.start c.new.ensures.end (nat_lt c.args.start c.args.end) refl
