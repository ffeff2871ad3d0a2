use Rattle.std.proofs.Common.{◌≡◌, ◌<◌, ◌∙◌, ap, arith, drop, length, sym, take}
use Rattle.std.specs.List.{list_all, list_any}
use Rattle.tq_plan.specs.ValidPlans.{is_aggregate}
use Rattle.tq_split.specs.Splits.{is_column}
use Rattle.tq_split.proofs.AggregateLemmas.{groups_shown}
use Rattle.tq_split.proofs.plans.shown_groups.Goals as goal

pub returns-then-shows_groups : goal.returns-then-shows_groups
returns-then-shows_groups c =
    let query = c.args.query.now in
    let groups = c.in_ok-groups.groups in
    let outputs : c.get-outputs.result.now ≡ c.args.query.now.outputs = c.get-outputs.ensures in
    let same : c.in_ok-groups.groups ≡ c.in_ok-place.place = c.in_ok-groups.ensures in
    let within : c.in_ok-place.place < length c.get-outputs.result.now = c.in_ok-place.ensures in
    let front : take c.in_ok-groups.groups c.args.query.now.outputs ≡ c.split_at.result.0.now = (λ i. take (same i) (sym outputs i)) ∙ sym c.split_at.ensures.front in
    let back : drop c.in_ok-groups.groups c.args.query.now.outputs ≡ c.split_at.result.1.now = (λ i. drop (same i) (sym outputs i)) ∙ sym c.split_at.ensures.back in
    groups_shown query groups (omega (arith, within, same, ap length outputs))
    (ap (list_any is_aggregate) front ∙ c.shows_groups.ensures.columns c.if-shows_groups.true)
    (ap (list_all is_aggregate) back ∙ c.shows_groups.ensures.sums c.if-shows_groups.true)
    ((λ i. list_all (λ place. list_any (is_column place) (front i)) (sym c.get.ensures i)) ∙ c.shows_groups.ensures.shown c.if-shows_groups.true)
