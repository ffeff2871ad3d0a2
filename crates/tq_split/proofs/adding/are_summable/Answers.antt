use Rattle.std.proofs.Common.{◌<◌, arith, get_or, length, subst, sym, take}
use Rattle.std.specs.Prelude.{All}
use Rattle.std.proofs.lemmas.List.{take_all, take_more}
use Rattle.std.proofs.lemmas.List.Elements.{All-push}
use Rattle.tq_base.specs.declared.fragment.Fragment.{Fragment}
use Rattle.tq_base.specs.Keys.{no_row}
use Rattle.tq_agg.specs.Grouping.{AreSummable}
use Rattle.tq_split.proofs.adding.are_summable.Goals as goal

pub rows-preserved : goal.rows-preserved
rows-preserved c =
    let items = c.args.rows.now.items in
    let place = c.rows.row in
    let Fits : Fragment → Type 0 = λ (row : Fragment). AreSummable c.args.columns.now row.values in
    let within : place < length items = omega (arith, c.rows-test.true, c.len-row-end.ensures.len) in
    subst (All Fits) (sym (take_more items place no_row within))
    (All-push Fits (take place items) (get_or items place no_row) c.rows.invariant (c.is_summable_in.ensures c.if-not-is_summable_in.false))

pub returns : goal.returns
returns c is =
    subst (All (λ (row : Fragment). AreSummable c.args.columns.now row.values)) (take_all c.rows.row c.args.rows.now.items (omega (arith, c.rows-test.false, c.len-row-end.ensures.len))) c.rows.invariant
