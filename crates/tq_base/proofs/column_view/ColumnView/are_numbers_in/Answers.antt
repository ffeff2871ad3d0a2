use Rattle.std.proofs.Common.{◌≡◌, ◌<◌, ◌&&◌, ◌∙◌, ap, get_or, length, pos, sym, arith}
use Rattle.std.specs.List.{list_all}
use Rattle.std.specs.Option.{option_copied}
use Rattle.std.proofs.lemmas.List.{take_all}
use Rattle.std.proofs.lemmas.List.Folds.{list_all_more}
use Rattle.std.proofs.lemmas.List.FromFn.{length-map-range_with_len}
use Rattle.tq_base.specs.Contents.{Int}
use Rattle.tq_base.specs.KeyRanges.{is_number_in}
use Rattle.tq_base.specs.RowValues.{value_at}
use Rattle.tq_base.specs.Parts.{number_in, value_there}
use Rattle.tq_base.proofs.ColumnLemmas.{read_there}
use Rattle.tq_base.proofs.column_view.ColumnView.are_numbers_in.Goals as goal

pub rows-preserved : goal.rows-preserved
rows-preserved c =
    let v = c.self.inside in
    let row = c.rows.row in
    let values = c.args.self.now in
    let has = is_number_in c.args.range.now in
    let len : length values ≡ v.len =
    sym (ap length c.self.view_is) ∙ length-map-range_with_len (λ place. value_there v.rows v.values.now v.step v.place (number_in (option_copied v.numbers) place)) 0 v.len in
    let inside : row < length values = omega (arith, len, c.rows-test.true) in
    let here : c.value_there-value.result.now ≡ get_or values row (Int (pos 0)) =
    c.value_there-value.ensures
    ∙ ap (value_there v.rows v.values.now v.step v.place) c.number_in.ensures
    ∙ sym (read_there v.rows v.values.now v.step v.place (option_copied v.numbers) v.len row c.rows-test.true)
    ∙ ap (λ l. value_at l row) c.self.view_is in
    (λ i. c.rows.invariant i && (c.is_number_in-are.ensures ∙ ap has here) i)
    ∙ sym (list_all_more has values row (Int (pos 0)) inside)

pub returns : goal.returns
returns c =
    let v = c.self.inside in
    let values = c.args.self.now in
    let len : length values ≡ v.len =
    sym (ap length c.self.view_is) ∙ length-map-range_with_len (λ place. value_there v.rows v.values.now v.step v.place (number_in (option_copied v.numbers) place)) 0 v.len in
    c.rows.invariant ∙ ap (list_all (is_number_in c.args.range.now)) (take_all c.rows.row values (omega (arith, len, c.rows-test.false)))
