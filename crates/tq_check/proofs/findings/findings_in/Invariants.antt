-- What was found so far, and what is still to be found, is all that is to be found.
use Rattle.std.proofs.Common.{◌≡◌, ◌≤◌, ◌+◌, ◌++◌, None, drop, length, take}
use Rattle.tq_check.specs.KeyPasses.{pairs_after}
use Rattle.tq_check.proofs.findings.findings_in.Given as goal

abbrev pub invariant-rows : goal.invariant-rows
invariant-rows l = record {
  count : l.findings.count + length (pairs_after l.finding l.last (drop l.row-index l.order)) ≡ length (pairs_after l.finding None l.fn.order);
  first : take 100 (l.findings.first.items ++ pairs_after l.finding l.last (drop l.row-index l.order)) ≡ take 100 (pairs_after l.finding None l.fn.order);
  few : l.findings.count ≤ l.row-index;
  short : length l.findings.first.items ≤ 100;
}
