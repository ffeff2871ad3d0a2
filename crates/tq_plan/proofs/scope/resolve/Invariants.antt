-- The columns with the name are the one found so far, and those among the other fields.
use Rattle.std.proofs.Common.{◌≡◌, ◌++◌, drop, map, option_to_list}
use Rattle.tq_plan.specs.Scope.{matching_columns}
use Rattle.tq_plan.specs.Views.{field_view}
use Rattle.tq_plan.proofs.scope.resolve.Given as goal

abbrev pub invariant-fields : goal.invariant-fields
invariant-fields l =
    matching_columns l.column 0 (map field_view l.fields) ≡ option_to_list l.found ++ matching_columns l.column l.place (drop l.place (map field_view l.fields))
