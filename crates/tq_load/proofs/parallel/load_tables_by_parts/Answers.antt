use Rattle.std.proofs.Common.{List, ℕ, Ok, Err, Result, []}
use Rattle.std.specs.Prelude.{IfOk}
use Rattle.tq_base.specs.declared.form.Form.{Form}
use Rattle.tq_event.specs.declared.fault.LoadFault.{LoadFault}
use Rattle.tq_event.specs.declared.file.TableFile.{TableFile}
use Rattle.tq_event.specs.declared.file.Tables.{Tables}
use Rattle.tq_event.specs.Projection.{AreProjectedTables}
use Rattle.tq_event.specs.Tables.{AreRead, AreTables}
use Rattle.tq_event.proofs.ProjectionLemmas.{all_wanted}
use Rattle.tq_load.proofs.parallel.load_tables_by_parts.Goals as goal

all_told : (form : Form) (files : List TableFile) (limit : ℕ) (r : Result Tables LoadFault) → IfOk r (AreProjectedTables form files limit []) → IfOk r (λ tables. AreRead tables.catalogue.tables tables.rows) → IfOk r (AreTables form files limit)
all_told form files limit (Ok tables) wanted read = all_wanted form files limit tables read wanted
all_told form files limit (Err fault) wanted read = tt

pub returns-clause-tables : goal.returns-clause-tables
returns-clause-tables g c = all_told c.args.options.form c.args.files.items c.args.options.limit c.load_by_parts.result c.load_by_parts.ensures.tables c.load_by_parts.ensures.read
