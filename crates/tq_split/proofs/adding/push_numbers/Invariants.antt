-- The numbers so far were added.
use Rattle.std.proofs.Common.{◌≡◌, ◌≤◌, ◌-◌, ◌++◌}
use Rattle.std.specs.List.{range_with_len}
use Rattle.tq_split.proofs.adding.push_numbers.Given as goal

abbrev pub invariant-numbers : goal.invariant-numbers
invariant-numbers l = record {
  begun : l.from ≤ l.number;
  within : l.number - l.from ≤ l.to - l.from;
  pushed : l.list.items ≡ l.fn.list.items ++ range_with_len l.from (l.number - l.from);
}
