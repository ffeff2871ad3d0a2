-- The numbers of the rows so far are those of the range.
use Rattle.std.proofs.Common.{◌≡◌}
use Rattle.tq_exec.specs.OutputRanges.{numbers_in}
use Rattle.tq_exec.proofs.output_ranges.numbers_in.Given as goal

abbrev pub invariant-rows : goal.invariant-rows
invariant-rows l = l.numbers.items ≡ numbers_in l.ids l.count l.number l.range
