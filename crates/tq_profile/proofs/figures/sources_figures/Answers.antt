use Rattle.std.proofs.Common.{◌+◌, sym, subst, take}
use Rattle.tq_event.specs.Tables.{lists_of}
use Rattle.tq_profile.specs.Figures.{AreSourceFigures}
use Rattle.tq_profile.proofs.FigureLemmas.{no_source, one_more_source}
use Rattle.tq_profile.proofs.figures.sources_figures.Goals as goal

pub sources-preserved : goal.sources-preserved
sources-preserved c =
    let window = c.args.window.now in
    let query = c.args.query.now in
    let tables = lists_of c.args.tables.now in
    let sources = c.get-sources.result.now in
    subst (AreSourceFigures window query tables (take (c.sources.source-index + 1) sources)) (sym c.in_ok-push.ensures.items)
    (one_more_source window query tables sources c.sources.source-index c.sources.figures.items c.source_figures.result no_source c.sources-test.true c.sources.invariant c.source_figures.ensures)
