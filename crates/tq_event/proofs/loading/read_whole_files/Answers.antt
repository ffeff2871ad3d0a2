use Rattle.std.proofs.Common.{◌≡◌, ◌∙◌, ℕ, List, Ok, Err, Result, [], ap, sym}
use Rattle.std.specs.Prelude.{IfOk}
use Rattle.std.specs.Global.{Vec}
use Rattle.tq_base.specs.declared.catalogue.Schema.{Schema}
use Rattle.tq_base.specs.declared.form.Form.{Form}
use Rattle.tq_base.specs.RowLists.{RowList}
use Rattle.tq_event.specs.declared.fault.LoadFault.{LoadFault}
use Rattle.tq_event.specs.declared.file.TableFile.{TableFile}
use Rattle.tq_event.specs.Projection.{AreProjectedFiles}
use Rattle.tq_event.specs.Loading.{Contents, contents_of}
use Rattle.tq_event.specs.Tables.{entries_from}
use Rattle.tq_event.proofs.ProjectionLemmas.{tables_all}
use Rattle.tq_event.proofs.loading.read_whole_files.Goals as goal

all_kept : (form : Form) (files : List TableFile) (limit : ℕ) (r : Result (Vec Schema × Vec RowList) LoadFault) → IfOk r (λ read. AreProjectedFiles form files limit [] read.0.items read.1.items)
    → IfOk r (λ read. contents_of form files limit ≡ Ok (record { tables = read.0.items; entries = entries_from 0 read.1.items }))
all_kept form files limit (Ok read) kept =
    kept.parsed
    ∙ ap (λ (l : List RowList). let r : Result Contents LoadFault = Ok (record { tables = read.0.items; entries = entries_from 0 l }) in r) (sym (kept.kept ∙ tables_all 0 kept.whole))
all_kept form files limit (Err fault) kept = tt

pub returns-clause-ok : goal.returns-clause-ok
returns-clause-ok c = all_kept c.args.form c.args.files.items c.args.limit c.read_files.result c.read_files.ensures.ok
