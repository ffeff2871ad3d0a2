-- The count so far.
use Rattle.std.proofs.Common.{◌≡◌, ◌*◌, ◌≤◌, ◌^◌, sum_by, take}
use Rattle.tq_exec.specs.declared.answer_parts.Made.{Made}
use Rattle.tq_exec.proofs.answer_parts.row_count.Given as goal

abbrev pub invariant-each : goal.invariant-each
invariant-each l = record {
  count : l.count ≡ sum_by (λ (one : Made). one.len) (take l.one-index l.made);
  small : l.count ≤ l.one-index * 2 ^ 64;
}
