use Rattle.std.proofs.Common.{◌∙◌, sym}
use Rattle.csv.specs.Records.{fields_of}
use Rattle.tq_event.specs.Loading.{csv_records}
use Rattle.tq_split.specs.TableParts.{known_bytes}
use Rattle.tq_split.proofs.DivisionLemmas.{file_divided, header_faulty, many_bytes, records_faulty}
use Rattle.tq_split.proofs.dividing.divide.Goals as goal

pub returns-then-not-branch-clause-fault : goal.returns-then-not-branch-clause-fault
returns-then-not-branch-clause-fault g c text is =
    rw c.if-not-branch.true at (c.in_ok-next_record.ensures 44 (csv_records text) (c.record_reader-reader.ensures text is))

pub returns-in-Err-clause-fault : goal.returns-in-Err-clause-fault
returns-in-Err-clause-fault g c text is =
    let (rest, split, left) = rw c.if-not-branch.false at (c.in_ok-next_record.ensures 44 (csv_records text) (c.record_reader-reader.ensures text is)) in
    header_faulty c.args.division (csv_records text) rest (fields_of c.next_record.new.record) c.in-Err.fault split c.in-Err.ensures.fault

pub returns-in-Err-divide_records-clause-fault : goal.returns-in-Err-divide_records-clause-fault
returns-in-Err-divide_records-clause-fault g c text is =
    let (rest, split, left) = rw c.if-not-branch.false at (c.in_ok-next_record.ensures 44 (csv_records text) (c.record_reader-reader.ensures text is)) in
    records_faulty c.args.division (csv_records text) rest (fields_of c.next_record.new.record) c.in-Ok.cut c.in-Err-divide_records.fault split c.in-Ok.ensures.ok (c.in-Err-divide_records.ensures.fault rest left)

pub returns-clause-ok : goal.returns-clause-ok
returns-clause-ok g c text is =
    let contents = g.W.Write.contents in
    let (rest, split, left) = rw c.if-not-branch.false at (c.in_ok-next_record.ensures 44 (csv_records text) (c.record_reader-reader.ensures text is)) in
    file_divided c.args.division text (fields_of c.next_record.new.record) rest c.in-Ok.cut (known_bytes contents c.args.sinks.now) (known_bytes contents c.put_all.new.sinks) (known_bytes contents c.divide_records.new.sinks)
    c.deref.result.now c.in-Ok-divide_records.rows split c.in-Ok.ensures.ok (c.deref.ensures.value ∙ c.in_ok-begin.ensures)
    (many_bytes contents c.put_all.new.sinks ∙ c.put_all.auto.sinks ∙ sym (many_bytes contents c.args.sinks.now))
    c.in_ok-put_all.ensures.whole (c.in-Ok-divide_records.ensures.ok rest left)
