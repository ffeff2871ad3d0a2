-- The remaining digits, after the number so far, make the number that all digits make.
use Rattle.std.proofs.Common.{◌≡◌, ◌≤◌, ◌==◌, drop, filter, not}
use Rattle.tq_import.specs.Digits.{natural_after}
use Rattle.tq_import.proofs.digits.add_unmarked.Given as goal

abbrev pub invariant-digits : goal.invariant-digits
invariant-digits l = record {
  small : l.sum ≤ l.limit;
  rest : natural_after l.limit l.number (filter (λ b. not (b == l.mark)) l.digits) ≡ natural_after l.limit l.sum (filter (λ b. not (b == l.mark)) (drop l.byte-index l.digits));
}
