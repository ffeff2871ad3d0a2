-- What the rows so far add.
use Rattle.std.proofs.Common.{◌≡◌, take}
use Rattle.tq_base.specs.SortInputs.{state_of}
use Rattle.tq_agg.specs.Totals.{added, key_weight}
use Rattle.tq_agg.proofs.groups.added_keys.Given as goal

abbrev pub invariant-keys : goal.invariant-keys
invariant-keys l = l.total ≡ added (key_weight (state_of l.sort_input) l.summand) (take l.key-index l.keys)
