-- The keys so far have the prefix.
use Rattle.std.proofs.Common.{◌≡◌, All, take}
use Rattle.tq_base.specs.declared.sort_input.SortKey.{SortKey}
use Rattle.tq_base.proofs.tie_break.prefix_run_len.Given as goal

abbrev pub invariant-keys : goal.invariant-keys
invariant-keys l = All (λ (k : SortKey). k.prefix ≡ l.prefix) (take l.len l.keys)
