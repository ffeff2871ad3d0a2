use Rattle.std.proofs.Common.{◌≡◌, ◌≢◌, ◌∙◌, List, Ok, Err, Result, IfErr, IfOk, OnOk, ap, drop, subst, sym}
use Rattle.csv.specs.Records.{fields_of}
use Rattle.tq_base.specs.declared.catalogue.Column.{Column}
use Rattle.tq_event.proofs.LoadLemmas.{columns_first, columns_none}
use Rattle.tq_event.specs.Loading.{csv_records}
use Rattle.tq_event.specs.Reading.{HasLeft}
use Rattle.tq_event.specs.declared.fault.LoadFaultKind.{LoadFaultKind}
use Rattle.tq_event.specs.declared.fault.LoadFaultKind.TheVariants.{OutOfMemory}
use Rattle.tq_diagnostics.proofs.faults.read_columns.Goals as goal

-- what holds always holds after a success
always : {A E X : Type 0} (r : Result A E) → X → OnOk r X
always (Ok a) x = x
always (Err e) x = tt

pub returns-then-not-branch-clause-fault : goal.returns-then-not-branch-clause-fault
returns-then-not-branch-clause-fault c known =
    let bytes = c.args.bytes.now in
    let none = rw c.if-not-branch.true at (c.in_ok-next_record.ensures (csv_records bytes) c.requires) in
    columns_none bytes (sym c.has_two_boms.ensures ∙ c.if-has_two_boms.false) none

pub returns-clause-ok : goal.returns-clause-ok
returns-clause-ok c =
    let bytes = c.args.bytes.now in
    let (more, split, has) = rw c.if-not-branch.false at (c.in_ok-next_record.ensures (csv_records bytes) c.requires) in
    let first = columns_first bytes (fields_of c.next_record.new.record) more (sym c.has_two_boms.ensures ∙ c.if-has_two_boms.false) split in
    subst (λ (r : Result (List Column) LoadFaultKind). IfOk c.read_header.result (λ columns. r ≡ Ok columns.items)) (sym first) c.read_header.ensures.ok

pub returns-clause-left : goal.returns-clause-left
returns-clause-left c =
    let bytes = c.args.bytes.now in
    let (more, split, has) = rw c.if-not-branch.false at (c.in_ok-next_record.ensures (csv_records bytes) c.requires) in
    always c.read_header.result (subst (HasLeft c.next_record.new.reader) (sym (ap (drop 1) split)) has)

pub returns-clause-fault : goal.returns-clause-fault
returns-clause-fault c =
    let bytes = c.args.bytes.now in
    let (more, split, has) = rw c.if-not-branch.false at (c.in_ok-next_record.ensures (csv_records bytes) c.requires) in
    let first = columns_first bytes (fields_of c.next_record.new.record) more (sym c.has_two_boms.ensures ∙ c.if-has_two_boms.false) split in
    subst (λ (r : Result (List Column) LoadFaultKind). IfErr c.read_header.result (λ fault. fault ≢ OutOfMemory → r ≡ Err fault)) (sym first) c.read_header.ensures.fault
