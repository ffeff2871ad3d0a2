-- What the rows so far add.
use Rattle.std.proofs.Common.{◌≡◌, take}
use Rattle.tq_base.specs.SortInputs.{state_of}
use Rattle.tq_agg.specs.Totals.{added, end_key, key_weight}
use Rattle.tq_agg.proofs.groups.added_ends.Given as goal

abbrev pub invariant-ends : goal.invariant-ends
invariant-ends l = l.total ≡ added (λ e. key_weight (state_of l.sort_input) l.summand (end_key e)) (take l.end-index l.ends)
