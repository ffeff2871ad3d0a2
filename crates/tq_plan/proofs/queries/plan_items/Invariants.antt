-- The items are those so far, and then the others.
use Rattle.std.proofs.Common.{◌≡◌, [], drop, map}
use Rattle.tq_plan.specs.Plans.{has_aggregate, outputs_after}
use Rattle.tq_plan.specs.Views.{field_view}
use Rattle.tq_plan.proofs.queries.plan_items.Given as goal

abbrev pub invariant-items : goal.invariant-items
invariant-items l =
    outputs_after (map field_view l.fields) (has_aggregate l.items) l.group [] l.items
    ≡ outputs_after (map field_view l.fields) (has_aggregate l.items) l.group l.outputs.items (drop l.item-index l.items)
