use Rattle.std.proofs.Common.{◌∙◌, ap}
use Rattle.csv.specs.Records.{fields_of}
use Rattle.tq_import.specs.Encodings.{bytes_left, utf8_of}
use Rattle.tq_import.specs.Files.{records_in}
use Rattle.tq_import.proofs.whole.import.Goals as goal

pub returns-in-Ok-import_records-clause-ok : goal.returns-in-Ok-import_records-clause-ok
returns-in-Ok-import_records-clause-ok g c text is =
    let options = c.args.options.now in
    let has = c.record_reader-reader.ensures (utf8_of options.encoding text) (ap (bytes_left g.R.Read.remaining) c.over.ensures ∙ c.over-decoder.ensures text is) in
    let (rest, split, left) = rw c.if-not-has_header.false at (c.in-Ok.ensures options.delimiter (records_in options text) has) in
    record {
      header = fields_of c.next_record.new.record;
      rest = rest;
      split = split;
      plan_is = c.in-Ok-plan_import.ensures;
      whole = c.in-Ok-import_records.ensures.ok options.delimiter rest left;
    }

pub returns-clause-fault : goal.returns-clause-fault
returns-clause-fault g c text is =
    let options = c.args.options.now in
    let has = c.record_reader-reader.ensures (utf8_of options.encoding text) (ap (bytes_left g.R.Read.remaining) c.over.ensures ∙ c.over-decoder.ensures text is) in
    let (rest, split, left) = rw c.if-not-has_header.false at (c.in-Ok.ensures options.delimiter (records_in options text) has) in
    (fields_of c.next_record.new.record, rest, split, c.in-Err-import_records.ensures.fault options.delimiter rest left)

pub returns-then-not-has_header-clause-fault : goal.returns-then-not-has_header-clause-fault
returns-then-not-has_header-clause-fault g c text is =
    let options = c.args.options.now in
    let has = c.record_reader-reader.ensures (utf8_of options.encoding text) (ap (bytes_left g.R.Read.remaining) c.over.ensures ∙ c.over-decoder.ensures text is) in
    rw c.if-not-has_header.true at (c.in-Ok.ensures options.delimiter (records_in options text) has)
