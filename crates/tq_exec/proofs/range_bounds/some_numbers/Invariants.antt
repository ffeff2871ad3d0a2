-- The numbers so far are those of rows.
use Rattle.std.proofs.Common.{◌<◌}
use Rattle.std.specs.Prelude.{All}
use Rattle.tq_exec.proofs.range_bounds.some_numbers.Given as goal

abbrev pub invariant-numbers : goal.invariant-numbers
invariant-numbers l = All (λ number. number < l.len) l.numbers.items
