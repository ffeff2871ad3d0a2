-- The values before the place are equal.
use Rattle.std.proofs.Common.{◌≡◌, drop}
use Rattle.tq_base.specs.SortInputs.{state_of}
use Rattle.tq_base.specs.Keys.{key_values}
use Rattle.tq_base.specs.ValueOrder.{values_cmp}
use Rattle.tq_base.proofs.sort_input.SortInput.compare_rows.Given as goal

abbrev pub invariant-places : goal.invariant-places
invariant-places l =
    values_cmp (drop l.first (key_values (state_of l.self) l.one)) (drop l.first (key_values (state_of l.self) l.other))
    ≡ values_cmp (drop l.place (key_values (state_of l.self) l.one)) (drop l.place (key_values (state_of l.self) l.other))
