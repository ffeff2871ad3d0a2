use Rattle.std.proofs.Common.{◌≡◌, length, map}
use Rattle.tq_diagnostics.specs.Hints as spec
use Rattle.tq_diagnostics.proofs.hints.of_word.Given as goal

abbrev pub invariant-table : goal.invariant-table
invariant-table l = spec.of_word (map (λ row. (row.0.now, row.1.now)) l.table) l.word ≡ spec.of_word (map (λ row. (row.0.now, row.1.now)) l.fn.table) l.word

abbrev pub decreases-table : goal.decreases-table
decreases-table l = length l.table
