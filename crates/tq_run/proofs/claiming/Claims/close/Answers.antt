use Rattle.std.proofs.Common.{subst, ap, sym, ◌∙◌}
use Rattle.tq_run.specs.Counting.{EachOnce}
use Rattle.tq_run.specs.ClaimRule.{ClaimsValue, ClaimantValue}
use Rattle.tq_run.proofs.RuleKept.{closes}
use Rattle.tq_run.proofs.claiming.Claims.close.Goals as goal

pub returns : goal.returns
returns c =
    let first = ap (λ (z : ClaimantValue). z.knows.first) c.first.view_is in
    let exhausted = ap (λ (z : ClaimantValue). z.knows.exhausted) c.first.view_is in
    let level = ap (λ (z : ClaimantValue). z.knows.joins) c.first.view_is ∙ c.requires.joined ∙ sym (ap (λ (z : ClaimantValue). z.knows.splits) c.first.view_is) in
    let pieces = c.self.invariant.0 ∙ ap (λ (z : ClaimsValue). z.pieces) c.self.view_is in
    let each = closes _ _ _ _ _ (first ∙ c.requires.first) (exhausted ∙ c.requires.exhausted) c.first.invariant.1 level c.close_with.ensures.values.2 in
    subst (EachOnce c.args.first.knows.taken) pieces (subst (λ (z : ClaimantValue). EachOnce z.knows.taken c.self.inside.table.shared.key) c.first.view_is each)
