-- The remaining digits, after the number so far, make the number that all digits make.
use Rattle.std.proofs.Common.{◌≡◌, ◌≤◌, drop}
use Rattle.tq_import.specs.Digits.{natural_after}
use Rattle.tq_import.proofs.digits.add_digits.Given as goal

abbrev pub invariant-digits : goal.invariant-digits
invariant-digits l = record {
  small : l.sum ≤ l.limit;
  rest : natural_after l.limit l.number l.digits ≡ natural_after l.limit l.sum (drop l.byte-index l.digits);
}
