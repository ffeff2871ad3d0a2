use Rattle.std.proofs.Common.{rules, ap, ◌∙◌}
use Rattle.tq_run.specs.ClaimRule.{ClaimantValue}
use Rattle.tq_run.proofs.RuleKept.{joins}
use Rattle.tq_run.proofs.claiming.Claims.join.Goals as goal

pub join_seat-requires : goal.join_seat-requires
join_seat-requires c =
    let first = ap (λ (z : ClaimantValue). z.knows.first) c.first.view_is in
    (search rules, search rules, search rules, search rules, joins _ _ _ _ _ (first ∙ c.requires.first) c.first.invariant.1 c.other.invariant.1)
