use Rattle.std.proofs.Common.{Bool, ◌≡◌, ◌∙◌, inl, true, false, refl}
use Rattle.csv.specs.Reading.{ReadRecord}
use Rattle.csv.specs.Records.{fields_of}
use Rattle.tq_event.proofs.RecordLemmas.{row-found, row-none}
use Rattle.tq_import.specs.Reading.{TakesFirst, separated_by}
use Rattle.tq_import.proofs.reading.next_record.Goals as goal

pub returns-in-Ok : goal.returns-in-Ok
returns-in-Ok g c delimiter left has = by c.in-Ok.found refl (c.in-Ok.ensures.reads has.untrimmed has.ready)
  where
    by : (b : Bool) → c.in-Ok.found ≡ b → ReadRecord g.R.Read.remaining c.args.reader.now c.read_byte_record.new.self b (fields_of c.read_byte_record.new.row)
        → TakesFirst g.R.Read.remaining delimiter b (fields_of c.read_byte_record.new.row) left c.read_byte_record.new.self
    by true e read =
        let (z, source, more, split, after) = row-found g.R.Read.remaining c.args.reader.now c.read_byte_record.new.self (fields_of c.read_byte_record.new.row) (separated_by delimiter) has.text left has.config has.source has.are read in (
          more,
          split,
          record {
            untrimmed = read.3 ∙ has.untrimmed;
            ready = inl (c.in-Ok.ensures.ready has.untrimmed);
            config = read.2 ∙ has.config;
            flexible = c.in-Ok.ensures.flexible ∙ has.flexible;
            text = z;
            source = source;
            are = after;
          },
        )
    by false e read = row-none g.R.Read.remaining c.args.reader.now c.read_byte_record.new.self (fields_of c.read_byte_record.new.row) (separated_by delimiter) has.text left has.config has.source has.are read
