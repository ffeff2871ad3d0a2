-- The keys so far have the values of the first.
use Rattle.std.proofs.Common.{◌≡◌, take}
use Rattle.tq_base.specs.declared.sort_input.SortKey.{SortKey}
use Rattle.std.specs.List.{All}
use Rattle.tq_base.specs.SortInputs.{state_of}
use Rattle.tq_base.specs.Keys.{key_values}
use Rattle.tq_base.proofs.sort_input.SortInput.run_len.Given as goal

abbrev pub invariant-keys : goal.invariant-keys
invariant-keys l = All (λ (k : SortKey). key_values (state_of l.self) k ≡ key_values (state_of l.self) l.first) (take l.len l.keys)
