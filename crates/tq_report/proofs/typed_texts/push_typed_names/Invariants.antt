use Rattle.std.proofs.Common.{◌≡◌, ◌∷◌, ◌++◌, take}
use Rattle.std.specs.List.{flat_map}
use Rattle.csv.specs.Writing.{field_text}
use Rattle.tq_report.specs.TypedTexts.{typed_name}
use Rattle.tq_table.specs.Text.{answer_format}
use Rattle.tq_report.proofs.typed_texts.push_typed_names.Given as goal

abbrev pub invariant-columns : goal.invariant-columns
invariant-columns l = l.text.items ≡ l.initial.text.items ++ flat_map (λ column. 44 ∷ field_text answer_format (typed_name column)) (take l.column-index l.columns)
