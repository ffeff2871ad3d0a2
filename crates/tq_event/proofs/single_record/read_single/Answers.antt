use Rattle.std.proofs.Common.{◌≡◌, ◌∙◌, ◌∷◌, ap, Bool, true, false, List, None, Some, ℕ, if◌then◌else◌, refl, not}
use Rattle.csv.specs.Records.{fields_of}
use Rattle.tq_event.specs.Loading.{csv_records}
use Rattle.tq_event.specs.SingleRecord.{single_record}
use Rattle.tq_event.specs.Reading.{TakesFirst}
use Rattle.tq_event.proofs.single_record.read_single.Goals as goal

pub returns-then-not-branch : goal.returns-then-not-branch
returns-then-not-branch c =
    let none = rw c.if-not-branch.true at (c.in_ok-next_record.ensures (csv_records c.args.bytes.now) c.record_reader-reader.ensures) in
    ap single_record none

pub next_record-requires-2 : goal.next_record-requires-2
next_record-requires-2 c =
    let (more, split, has) = rw c.if-not-branch.false at (c.in_ok-next_record.ensures (csv_records c.args.bytes.now) c.record_reader-reader.ensures) in
    (more, has)

pub returns : goal.returns
returns c =
    let (more, split, has) = rw c.if-not-branch.false at (c.in_ok-next_record.ensures (csv_records c.args.bytes.now) c.record_reader-reader.ensures) in
    ap single_record split ∙ by more c.in_ok-more.more (c.in_ok-more.ensures more has)
  where
    by : (more : List (List (List ℕ))) (found : Bool) → TakesFirst found (fields_of c.next_record-2.new.record) more c.next_record-2.new.reader
        → single_record (fields_of c.next_record.new.record ∷ more) ≡ (if not found then Some (fields_of c.next_record.new.record) else None)
    by more true takes = let (rest, split, has) = takes in rw split refl
    by more false none = rw none refl
