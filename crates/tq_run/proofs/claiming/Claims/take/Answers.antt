use Rattle.std.proofs.Common.{rules, ap, ◌∙◌}
use Rattle.tq_run.specs.ClaimRule.{ClaimantValue}
use Rattle.tq_run.proofs.RuleKept.{takes}
use Rattle.tq_run.proofs.claiming.Claims.take.Goals as goal

pub fetch_add-n-requires : goal.fetch_add-n-requires
fetch_add-n-requires c = let knows = ap (λ (z : ClaimantValue). z.knows.exhausted) c.by.view_is in (search rules, search rules, takes _ _ _ _ (knows ∙ c.requires.not_exhausted) c.by.invariant.1)
