use Rattle.std.proofs.Common.{◌≡◌, ◌∷◌, ◌++◌, take}
use Rattle.std.specs.List.{flat_map}
use Rattle.tq_report.specs.Texts.{value_in}
use Rattle.tq_report.specs.declared.format.Format.TheVariants.{Csv}
use Rattle.tq_report.proofs.typed_texts.push_typed_values.Given as goal

abbrev pub invariant-places : goal.invariant-places
invariant-places l = l.text.items ≡ l.initial.text.items ++ flat_map (λ value. 44 ∷ value_in Csv 0 value) (take l.place l.row)
