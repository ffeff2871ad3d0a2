-- The columns so far are fields after the others.
use Rattle.std.proofs.Common.{◌≡◌, ◌++◌, take, map}
use Rattle.tq_plan.specs.Views.{field_view}
use Rattle.tq_plan.proofs.scope.push_fields.Given as goal

abbrev pub invariant-columns : goal.invariant-columns
invariant-columns l = map field_view l.fields.items ≡ map field_view l.initial.fields.items ++ map (λ column. (l.alias, column)) (take l.column-index l.columns)
