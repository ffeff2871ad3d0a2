use Rattle.std.proofs.Common.{length, subst}
use Rattle.tq_base.specs.declared.catalogue.Catalogue.{Catalogue}
use Rattle.tq_base.specs.declared.form.Form.TheVariants.{Numbers}
use Rattle.tq_event.specs.Tables.{lists_of, AreLoaded}
use Rattle.tq_exec.specs.Fitting.{AreAllFitting}
use Rattle.tq_tests_execution.proofs.loaded.tables_of.Goals as goal

pub returns : goal.returns
returns c =
    let files = c.args.files.items in
    let tables = c.in_ok-tables.tables in
    let of : AreLoaded Numbers files 16777216 tables = c.tables_are_loaded.ensures Numbers files 16777216 tables c.in_ok-tables.ensures.tables in
    subst (λ (catalogue : Catalogue). AreAllFitting catalogue (lists_of tables.rows)) of.catalogue
    (c.held_rows_fit.ensures of.loaded.catalogue (lists_of tables.rows) of.loaded.events (length of.loaded.events) (c.loaded_is_history.ensures Numbers files 16777216 of.loaded of.is_loaded) of.hold)
