-- The remaining zeros, after the number so far, make the number that all zeros make.
use Rattle.std.proofs.Common.{◌≡◌, ◌≤◌, []}
use Rattle.tq_import.specs.Amounts.{with_zeros}
use Rattle.tq_import.specs.Digits.{natural_after}
use Rattle.tq_import.proofs.digits.add_zeros.Given as goal

abbrev pub invariant-zeros : goal.invariant-zeros
invariant-zeros l = record {
  small : l.sum ≤ l.limit;
  rest : natural_after l.limit l.number (with_zeros l.count []) ≡ natural_after l.limit l.sum (with_zeros l.left []);
}

abbrev pub decreases-zeros : goal.decreases-zeros
decreases-zeros l = l.left
