use Rattle.std.proofs.Common.{List}
use Rattle.std.proofs.lemmas.Result.{IfErr-weaker, IfOk-weaker}
use Rattle.tq_base.specs.declared.form.Form.{Form}
use Rattle.tq_check.specs.Checks.{IsCheckFault, IsTextFault}
use Rattle.tq_check.specs.declared.checking.CheckFault.{CheckFault}
use Rattle.tq_check.specs.declared.checking.CheckFault.TheVariants.{Load, Reference, OutOfMemory}
use Rattle.tq_check.specs.declared.references.ReferenceNames.{ReferenceNames}
use Rattle.tq_event.specs.Tables.{AreTables}
use Rattle.tq_event.specs.declared.file.TableFile.{TableFile}
use Rattle.tq_event.specs.declared.file.Tables.{Tables}
use Rattle.tq_check.proofs.checking.check.Goals as goal

fault_of : (form : Form) (files : List TableFile) (names : List ReferenceNames) (tables : Tables) → AreTables form files 16777216 tables
    → (fault : CheckFault) → IsTextFault names tables fault → IsCheckFault form files names fault
fault_of form files names tables are (Load load) is = absurd is
fault_of form files names tables are (Reference refused) is = record { tables = tables; are_tables = are; is_fault = is }
fault_of form files names tables are OutOfMemory is = is

pub returns-in-Ok-clause-check : goal.returns-in-Ok-clause-check
returns-in-Ok-clause-check g c =
    IfOk-weaker c.text_of.result _ _ (λ text is. record { tables = c.in-Ok.tables; are_tables = c.in-Ok.ensures.tables; is_text = is }) c.text_of.ensures.text

pub returns-in-Ok-clause-fault : goal.returns-in-Ok-clause-fault
returns-in-Ok-clause-fault g c =
    IfErr-weaker c.text_of.result _ _ (fault_of c.args.options.form c.args.files.items c.args.names.now c.in-Ok.tables c.in-Ok.ensures.tables) c.text_of.ensures.fault
