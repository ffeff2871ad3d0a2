-- The remaining digits, after the number so far, make the number that all digits make.
use Rattle.std.proofs.Common.{◌≡◌, ◌≤◌, drop}
use Rattle.tq_base.specs.Numbers.{natural_up_to}
use Rattle.tq_base.proofs.NumberLemmas.{natural_after}
use Rattle.tq_base.proofs.number.read_natural.Given as goal

abbrev pub invariant-digits : goal.invariant-digits
invariant-digits l = record {
  small : l.value ≤ l.limit;
  rest : natural_up_to l.limit l.bytes ≡ natural_after l.limit l.value (drop l.byte-index l.bytes);
}
