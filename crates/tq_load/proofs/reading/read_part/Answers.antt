use Rattle.std.proofs.Common.{◌≡◌, List, Ok, Err, Result, ℕ, zero, suc, Bool, true, false, subst, sym}
use Rattle.std.specs.Prelude.{IfOk}
use Rattle.std.proofs.lemmas.List.Elements.{All-cons}
use Rattle.tq_base.specs.declared.form.Form.{Form}
use Rattle.tq_base.specs.declared.catalogue.Column.{Column}
use Rattle.tq_base.specs.declared.fragment.Fragment.{Fragment}
use Rattle.tq_base.specs.RowLists.{RowList}
use Rattle.tq_event.specs.declared.fault.LoadFaultKind.{LoadFaultKind}
use Rattle.tq_event.specs.Loading.{csv_records}
use Rattle.tq_load.specs.Feeds.{AreClosed, ends_in_feed, may_be_open}
use Rattle.tq_load.specs.Parts.{EndsRecords, PartParses, PartParsesProjected, ParseProjected, ParseRows}
use Rattle.tq_load.specs.Reading.{PassesHeader}
use Rattle.tq_load.proofs.FeedLemmas.{closed_ends}
use Rattle.tq_load.proofs.reading.read_part.Goals as goal

passed_told : (form : Form) (start : ℕ) (columns : List Column) (records more : List (List (List ℕ))) (rows : List Fragment) → PassesHeader start records more → ParseRows form columns more rows → PartParses form start columns records rows
passed_told form zero columns records more rows (header, shut, split) tell = subst (λ l. PartParses form zero columns l rows) (sym split) tell
passed_told form (suc start) columns records more rows same tell = subst (λ l. ParseRows form columns l rows) (sym same) tell

all_told : (form : Form) (start : ℕ) (columns : List Column) (wanted : List Bool) (records more : List (List (List ℕ))) (r : Result RowList LoadFaultKind) → PassesHeader start records more
    → IfOk r (λ rows. ParseProjected form columns wanted more rows.items) → IfOk r (λ rows. PartParsesProjected form start columns wanted records rows.items)
all_told form start columns wanted records more (Ok rows) passes tell = record { whole = tell.whole; parsed = passed_told form start columns records more tell.whole passes tell.parsed; kept = tell.kept }
all_told form start columns wanted records more (Err fault) passes tell = tt

all_closed : (start : ℕ) (records more : List (List (List ℕ))) → PassesHeader start records more → AreClosed more → AreClosed records
all_closed zero records more (header, shut, split) closed = subst AreClosed (sym split) (All-cons (λ fields. may_be_open fields ≡ false) header more shut closed)
all_closed (suc start) records more same closed = subst AreClosed (sym same) closed

ends_told : (start : ℕ) (bytes : List ℕ) (more : List (List (List ℕ))) (r : Result RowList LoadFaultKind) → PassesHeader start (csv_records bytes) more → IfOk r (λ rows. AreClosed more)
    → IfOk r (λ rows. ends_in_feed bytes ≡ true → EndsRecords bytes)
ends_told start bytes more (Ok rows) passes closed = λ feed. closed_ends bytes feed (all_closed start (csv_records bytes) more passes closed)
ends_told start bytes more (Err fault) passes closed = tt

pub read_rows-requires : goal.read_rows-requires
read_rows-requires c =
    let (more, passes, has) = c.in_ok-pass_header.ensures (csv_records c.args.bytes.now) c.record_reader-reader.ensures in
    (more, has)

pub returns-clause-parsed : goal.returns-clause-parsed
returns-clause-parsed c =
    let (more, passes, has) = c.in_ok-pass_header.ensures (csv_records c.args.bytes.now) c.record_reader-reader.ensures in
    all_told c.args.form c.args.start c.args.columns.now c.args.wanted.now (csv_records c.args.bytes.now) more c.read_rows.result passes (c.read_rows.ensures.parsed more has)

pub returns-clause-ends : goal.returns-clause-ends
returns-clause-ends c =
    let (more, passes, has) = c.in_ok-pass_header.ensures (csv_records c.args.bytes.now) c.record_reader-reader.ensures in
    ends_told c.args.start c.args.bytes.now more c.read_rows.result passes (c.read_rows.ensures.closed more has)
