use Rattle.std.proofs.Common.{◌≡◌, map}
use Rattle.std.specs.List.{range_with_len}
use Rattle.tq_report.specs.Times.{row_key}
use Rattle.tq_report.proofs.times.keys_of.Given as goal

abbrev pub invariant-rows : goal.invariant-rows
invariant-rows l = l.keys.items ≡ map (row_key l.rows) (range_with_len 0 l.row)
