use Rattle.std.proofs.Common.{◌≡◌, ◌∙◌, List, Ok, Result, subst, sym}
use Rattle.std.specs.Prelude.{IfOk}
use Rattle.csv.specs.Records.{fields_of}
use Rattle.tq_base.specs.declared.catalogue.Column.{Column}
use Rattle.tq_event.specs.declared.fault.LoadFaultKind.{LoadFaultKind}
use Rattle.tq_event.specs.Loading.{csv_records}
use Rattle.tq_event.proofs.LoadLemmas.{columns_first}
use Rattle.tq_load.proofs.headers.columns_in.Goals as goal

pub returns : goal.returns
returns c =
    let bytes = c.args.bytes.now in
    let (more, split, has) = rw c.if-not-branch.false at (c.in_ok-next_record.ensures (csv_records bytes) c.record_reader-reader.ensures) in
    subst (λ (r : Result (List Column) LoadFaultKind). IfOk c.read_header.result (λ columns. r ≡ Ok columns.items))
    (sym (columns_first bytes (fields_of c.next_record.new.record) more (sym c.has_two_boms.ensures ∙ c.if-has_two_boms.false) split)) c.read_header.ensures.ok
