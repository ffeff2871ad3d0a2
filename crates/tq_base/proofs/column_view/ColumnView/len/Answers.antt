use Rattle.std.proofs.Common.{◌∙◌, ap, length, sym}
use Rattle.std.specs.Option.{option_copied}
use Rattle.tq_base.specs.Parts.{number_in, value_there}
use Rattle.std.proofs.lemmas.List.FromFn.{length-map-range_with_len}
use Rattle.tq_base.proofs.column_view.ColumnView.len.Goals as goal

pub returns : goal.returns
returns c =
    let v = c.self.inside in
    sym (length-map-range_with_len (λ place. value_there v.rows v.values.now v.step v.place (number_in (option_copied v.numbers) place)) 0 v.len)
    ∙ ap length c.self.view_is
