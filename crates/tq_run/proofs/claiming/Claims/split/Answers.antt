use Rattle.std.proofs.Common.{rules, arith, ap, ◌∙◌}
use Rattle.tq_run.specs.ClaimRule.{ClaimantValue}
use Rattle.tq_run.proofs.RuleKept.{splits}
use Rattle.tq_run.proofs.claiming.Claims.split.Goals as goal

pub split_seat-seat-requires : goal.split_seat-seat-requires
split_seat-seat-requires c =
    let first = ap (λ (z : ClaimantValue). z.knows.first) c.first.view_is in
    let made = ap (λ (z : ClaimantValue). z.knows.splits) c.first.view_is in
    let few = c.requires.few in
    (search rules, search rules, splits _ _ _ (first ∙ c.requires.first) c.first.invariant.1 (omega arith))
