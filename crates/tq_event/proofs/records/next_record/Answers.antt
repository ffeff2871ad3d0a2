use Rattle.std.proofs.Common.{Bor, Bool, List, ℕ, ◌≡◌, ◌∙◌, inl, true, false, refl, Some}
use Rattle.csv.specs.Reading.{ReadRecord, default_config}
use Rattle.csv.specs.Records.{fields_of}
use Rattle.tq_event.specs.Reading.{TakesFirst}
use Rattle.tq_event.proofs.RecordLemmas.{row-found, row-none}
use Rattle.tq_event.proofs.records.next_record.Goals as goal

pub returns-in-Ok : goal.returns-in-Ok
returns-in-Ok c left (plain, ready, config, loose, text, source, chain) = by c.in-Ok.found refl (c.in-Ok.ensures.reads plain ready)
  where
    by : (b : Bool) → c.in-Ok.found ≡ b → ReadRecord (λ (s : Bor (List ℕ)). Some s.now) c.args.reader.now c.read_byte_record.new.self b (fields_of c.read_byte_record.new.row)
        → TakesFirst b (fields_of c.read_byte_record.new.row) left c.read_byte_record.new.self
    by true e read =
        let (z, source2, more, split, after) = row-found (λ (s : Bor (List ℕ)). Some s.now) c.args.reader.now c.read_byte_record.new.self (fields_of c.read_byte_record.new.row) default_config text left config source chain read in
        (more, split, (read.3 ∙ plain, inl (c.in-Ok.ensures.ready plain), read.2 ∙ config, c.in-Ok.ensures.flexible ∙ loose, z, source2, after))
    by false e read = row-none (λ (s : Bor (List ℕ)). Some s.now) c.args.reader.now c.read_byte_record.new.self (fields_of c.read_byte_record.new.row) default_config text left config source chain read
