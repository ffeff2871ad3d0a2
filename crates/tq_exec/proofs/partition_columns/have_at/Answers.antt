use Rattle.std.proofs.Common.{arith, false, get_or, subst, sym, take}
use Rattle.std.specs.Prelude.{All}
use Rattle.std.proofs.lemmas.List.{take_all, take_more}
use Rattle.std.proofs.lemmas.List.Elements.{All-push}
use Rattle.tq_plan.specs.declared.plans.QuerySource.{QuerySource}
use Rattle.tq_exec.specs.Partitioning.{HasAt}
use Rattle.tq_exec.specs.Partitions.{columns_in}
use Rattle.tq_exec.proofs.partition_columns.have_at.Goals as goal

pub sources-preserved : goal.sources-preserved
sources-preserved c k d less =
    let sources = c.args.sources.now in
    let place = c.sources.source-index in
    let has = λ (source : QuerySource). HasAt c.args.query.now.test c.args.place source (columns_in c.args.columns.now source.table) in
    let none : QuerySource = record { table = 0; first = 0; width = 0; numbered = false } in
    subst (All has) (sym (take_more sources place none (omega (arith, c.sources-test.true)))) (All-push has (take place sources) (get_or sources place none) c.sources.invariant (c.has_at.ensures c.if-not-has_at.false)) k d less

pub returns : goal.returns
returns c is =
    let has = λ (source : QuerySource). HasAt c.args.query.now.test c.args.place source (columns_in c.args.columns.now source.table) in
    subst (All has) (take_all c.sources.source-index c.args.sources.now (omega (arith, c.sources-test.false))) c.sources.invariant
