use Rattle.std.proofs.Common.{◌≡◌, ◌∙◌, ℕ, ap, map}
use Rattle.std.specs.List.{range_with_len}
use Rattle.std.specs.Option.{option_copied}
use Rattle.tq_base.specs.RowValues.{value_at}
use Rattle.tq_base.specs.Parts.{number_at, number_in, part_values, value_there}
use Rattle.tq_base.specs.Relations.{values_at_number}
use Rattle.tq_base.specs.RowLists.{RowList}
use Rattle.tq_base.proofs.ColumnLemmas.{value_found}
use Rattle.tq_base.proofs.column_view.in_part.Goals as goal

pub returns : goal.returns
returns c =
    let rows = c.rows-rows.result.now in
    let numbers = option_copied c.numbers.result in
    let each : (place : ℕ) → value_there c.len.result c.in-Some.found.values.now c.in-Some.found.step c.in-Some.found.place (number_in numbers place) ≡ value_at (part_values c.args.part.now place) c.args.column =
    λ place.
    ap (value_there c.len.result c.in-Some.found.values.now c.in-Some.found.step c.in-Some.found.place) (c.numbers.ensures place)
    ∙ value_found rows.items c.len.result c.in-Some.found.values.now c.in-Some.found.step c.in-Some.found.place c.args.column (number_at c.args.part.now.numbers place) c.len.ensures.len c.in-Some.ensures.found
    ∙ ap (λ (list : RowList). value_at (values_at_number list.items (number_at c.args.part.now.numbers place)) c.args.column) c.rows-rows.ensures in
    λ i. map (λ place. each place i) (range_with_len 0 c.args.len)
