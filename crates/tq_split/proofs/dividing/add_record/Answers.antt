use Rattle.std.proofs.Common.{◌≡◌, ◌∙◌, ◌<◌, Bool, List, Ok, ap, arith, length, true}
use Rattle.csv.specs.Records.{fields_of}
use Rattle.csv.specs.Writing.{row_text}
use Rattle.tq_base.specs.declared.fragment.Fragment.{Fragment}
use Rattle.tq_event.specs.Entries.{Entry}
use Rattle.tq_event.specs.Loading.{entry_of}
use Rattle.tq_event.specs.Projection.{is_wanted}
use Rattle.tq_event.specs.Tables.{row_entry}
use Rattle.tq_table.specs.Text.{answer_format}
use Rattle.tq_split.specs.PartNumbers.{part_number}
use Rattle.tq_split.specs.TableParts.{record_part}
use Rattle.tq_split.proofs.DivisionLemmas.{line_put, value_part}
use Rattle.tq_split.proofs.PartNumberLemmas.{numbers_below}
use Rattle.tq_split.proofs.dividing.add_record.Goals as goal

pub returns-clause-entry : goal.returns-clause-entry
returns-clause-entry c =
    let read = c.in_ok-read_entry.ensures.ok in
    let row : Fragment = record { values = read.whole; period = c.in_ok-read_entry.field-0 } in
    let entry : Entry = row_entry 0 row in
    (entry, rw c.deref.ensures.value at (read.parsed 0))

pub returns-clause-line : goal.returns-clause-line
returns-clause-line c =
    let cut = c.args.cut.now in
    let fields = fields_of c.args.record.now in
    let texts = c.args.texts.now.items in
    let read = c.in_ok-read_entry.ensures.ok in
    let row : Fragment = record { values = read.whole; period = c.in_ok-read_entry.field-0 } in
    let entry : Entry = row_entry 0 row in
    let value = c.index.result.now in
    let values = c.read_entry.new.values.items in
    let parsed : entry_of cut.form 0 cut.columns.items fields ≡ Ok entry = rw c.deref.ensures.value at (read.parsed 0) in
    let wanted : is_wanted c.deref-2.result.now cut.column ≡ true = ap (λ (l : List Bool). is_wanted l cut.column) c.deref-2.ensures.value ∙ c.requires.wanted in
    let there : cut.column < length values = omega (arith, c.in_ok-read_entry.ensures.width, ap length c.deref.ensures.value, c.requires.within) in
    let many : c.len.result ≡ length texts = omega (arith, c.len.ensures, c.args.texts.now.ok.0) in
    let number : c.part_number-part.result ≡ part_number (length texts) value = c.part_number-part.ensures ∙ ap (λ n. part_number n value) many in
    let below : c.part_number-part.result < length texts = omega (arith, number, numbers_below (length texts) value c.requires.some) in
    line_put texts c.part_number-part.result (record_part (length texts) cut.form cut.columns.items cut.column fields) c.index_mut.result.now c.push_line.new.text (row_text answer_format fields)
    (number ∙ value_part (length texts) cut.form cut.columns.items cut.column fields entry c.deref-2.result.now values value parsed read.kept wanted there c.index.ensures)
    below c.index_mut.ensures.value c.in_ok-push_line.ensures.line
