use Rattle.std.proofs.Common.{◌≡◌, ◌++◌}
use Rattle.std.specs.List.{flat_map, range_with_len}
use Rattle.tq_report.specs.TypedTexts.{typed_line}
use Rattle.tq_report.proofs.typed_texts.push_typed_rows.Given as goal

abbrev pub invariant-rows : goal.invariant-rows
invariant-rows l = l.text.items ≡ l.initial.text.items ++ flat_map (typed_line l.form l.rows) (range_with_len 0 l.row)
