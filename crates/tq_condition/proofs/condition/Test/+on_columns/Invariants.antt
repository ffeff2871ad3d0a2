-- The steps lead back from what a row passes if the columns pass the part, and then from the part's copy, to what it passes if
-- they pass the whole.
use Rattle.std.proofs.Common.{◌≡◌, ◌≤◌, List, vec_len}
use Rattle.tq_base.specs.declared.value.Value.{Value}
use Rattle.tq_condition.specs.declared.condition.Test.{Test}
use Rattle.tq_condition.specs.Conditions.{passes}
use Rattle.tq_condition.specs.Ordinary.{projection}
use Rattle.tq_condition.specs.Steps.{all_rebuilt}
use Rattle.tq_condition.proofs.Conditions.{weight}
use Rattle.tq_condition.proofs.condition.Test.+on_columns.Given as goal

abbrev pub decreases-on_columns : goal.decreases-on_columns
decreases-on_columns l = weight l.self.now

abbrev pub decreases-parts : goal.decreases-parts
decreases-parts l = weight l.part

abbrev pub invariant-parts : goal.invariant-parts
invariant-parts l = record {
  no_deeper : weight l.part ≤ weight l.fn.self;
  leads_back : (test : Test) (row : List Value) → passes test row ≡ passes l.part (projection l.columns row) → passes (all_rebuilt l.steps.items test) row ≡ passes l.fn.self (projection l.columns row);
}

abbrev pub decreases-steps : goal.decreases-steps
decreases-steps l = vec_len l.steps

abbrev pub invariant-steps : goal.invariant-steps
invariant-steps l = (row : List Value) → passes (all_rebuilt l.steps.items l.copy) row ≡ passes l.fn.self (projection l.columns row)
