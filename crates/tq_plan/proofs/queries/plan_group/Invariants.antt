-- The places are those so far, and then those of the others.
use Rattle.std.proofs.Common.{◌≡◌, [], drop, map}
use Rattle.tq_plan.specs.Plans.{group_after}
use Rattle.tq_plan.specs.Views.{field_view}
use Rattle.tq_plan.proofs.queries.plan_group.Given as goal

abbrev pub invariant-columns : goal.invariant-columns
invariant-columns l = group_after (map field_view l.fields) [] l.columns ≡ group_after (map field_view l.fields) l.places.items (drop l.column-index l.columns)
