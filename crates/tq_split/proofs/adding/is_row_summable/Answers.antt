use Rattle.std.proofs.Common.{ℕ, arith, get_or, subst, sym, take}
use Rattle.std.specs.Prelude.{All, FitsSigned}
use Rattle.std.specs.Int.{w64}
use Rattle.std.proofs.lemmas.List.{take_all, take_more}
use Rattle.std.proofs.lemmas.List.Elements.{All-push}
use Rattle.tq_base.specs.RowValues.{number_of, value_at}
use Rattle.tq_agg.specs.Grouping.{AreSummable}
use Rattle.tq_split.proofs.adding.is_row_summable.Goals as goal

pub columns-preserved : goal.columns-preserved
columns-preserved c =
    let columns = c.args.columns.now in
    let place = c.columns.column-index in
    let Fits : ℕ → Type 0 = λ (column : ℕ). FitsSigned w64 (number_of (value_at c.args.row.now column)) in
    subst (All Fits) (sym (take_more columns place 0 c.columns-test.true))
    (All-push Fits (take place columns) (get_or columns place 0) c.columns.invariant (c.is_summable_at.ensures c.if-not-is_summable_at.false))

pub returns : goal.returns
returns c is = subst (λ columns. AreSummable columns c.args.row.now) (take_all c.columns.column-index c.args.columns.now (omega (arith, c.columns-test.false))) c.columns.invariant
