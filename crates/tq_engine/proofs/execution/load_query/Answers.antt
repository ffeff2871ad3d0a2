use Rattle.std.proofs.Common.{ap, sym, subst}
use Rattle.std.proofs.lemmas.Result.{err_from_is_err_and}
use Rattle.tq_base.specs.declared.catalogue.Catalogue.{Catalogue}
use Rattle.tq_exec.specs.Fitting.{AreAllFitting}
use Rattle.tq_event.specs.Projection.{wanted_lists}
use Rattle.tq_event.specs.Tables.{lists_of, AreLoaded}
use Rattle.tq_sql.specs.declared.fault.SqlFault.{SqlFault}
use Rattle.tq_engine.proofs.LoadedQueryLemmas.{is_asked, whole_fit}
use Rattle.tq_engine.proofs.FaultLemmas.{sql_fault}
use Rattle.tq_engine.proofs.execution.load_query.Goals as goal

pub returns-in_err-statement-clause-fault : goal.returns-in_err-statement-clause-fault
returns-in_err-statement-clause-fault g c =
    let p = err_from_is_err_and c.from_residual-in_err-statement.result c.from_residual-in_err-statement.ensures.1 in
    let kept = c.in_ok-tables.ensures.tables in
    let of : AreLoaded c.args.form c.args.files.items 16777216 kept.whole = c.tables_are_loaded.ensures c.args.form c.args.files.items 16777216 kept.whole kept.of_files in
    rw p.1 (sql_fault c.args.form c.args.files.items c.args.bytes.now c.in_err-statement.field-0.0 p.0 p.2
    (λ other. record { loaded = of.loaded; is_loaded = of.is_loaded; is_fault = c.in_err-statement.ensures.fault (λ same. other (ap (λ (f : SqlFault). f.kind) same)) }))

pub returns-clause-is_query : goal.returns-clause-is_query
returns-clause-is_query g c =
    is_asked c.args.form c.args.files.items c.args.bytes.now (wanted_lists c.deref-2.result.now) c.in_ok-tables.tables c.in_ok-statement.statement
    (rw (c.deref-2.ensures.value) (rw (c.deref.ensures.value) at c.required_columns-named.ensures)) c.in_ok-tables.ensures.tables c.in_ok-statement.ensures.statement

pub returns-clause-fit : goal.returns-clause-fit
returns-clause-fit g c =
    let files = c.args.files.items in
    let tables = c.in_ok-tables.tables in
    let kept = c.in_ok-tables.ensures.tables in
    let of : AreLoaded c.args.form files 16777216 kept.whole = c.tables_are_loaded.ensures c.args.form files 16777216 kept.whole kept.of_files in
    let fit : AreAllFitting kept.whole.catalogue (lists_of kept.whole.rows) =
    whole_fit c.held_rows_fit.ensures c.loaded_is_history.ensures c.args.form files kept.whole of in
    subst (λ (catalogue : Catalogue). AreAllFitting catalogue (lists_of tables.rows)) (sym kept.kept.catalogue)
    (c.projected_rows_fit.ensures.tables (wanted_lists c.deref-2.result.now) kept.whole.catalogue (lists_of kept.whole.rows) (lists_of tables.rows) kept.kept.rows fit)
