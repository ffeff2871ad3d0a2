-- The rows so far were added.
use Rattle.std.proofs.Common.{◌≡◌, ◌++◌, take}
use Rattle.tq_split.proofs.merging.push_rows.Given as goal

abbrev pub invariant-rows : goal.invariant-rows
invariant-rows l = record {
  width : l.out.width ≡ l.fn.out.width;
  pushed : l.out.items ≡ l.fn.out.items ++ take l.line l.rows;
}
