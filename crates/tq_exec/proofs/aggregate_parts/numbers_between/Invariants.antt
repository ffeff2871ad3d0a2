-- The numbers from the first on, so far.
use Rattle.std.proofs.Common.{◌≡◌, ◌-◌}
use Rattle.std.specs.List.{range_with_len}
use Rattle.tq_exec.proofs.aggregate_parts.numbers_between.Given as goal

abbrev pub invariant-numbers : goal.invariant-numbers
invariant-numbers l = l.numbers.items ≡ range_with_len l.first (l.number - l.first)
