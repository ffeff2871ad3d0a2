use Rattle.std.proofs.Common.{◌≡◌, ◌∙◌, ◌++◌, ◌∷◌, [], List, Ok, Result, ap, false, subst, sym}
use Rattle.std.specs.Prelude.{IfOk}
use Rattle.csv.specs.Records.{fields_of}
use Rattle.tq_base.specs.declared.catalogue.Column.{Column}
use Rattle.tq_event.specs.declared.fault.LoadFaultKind.{LoadFaultKind}
use Rattle.tq_event.specs.Loading.{csv_records, has_two_boms}
use Rattle.tq_event.proofs.LoadLemmas.{columns_first}
use Rattle.tq_load.specs.Feeds.{may_be_open}
use Rattle.tq_load.proofs.PieceLemmas.{header_apart, marks_apart}
use Rattle.tq_load.proofs.headers.columns_on_line.Goals as goal

pub next_record-requires-2 : goal.next_record-requires-2
next_record-requires-2 c =
    let (rest, split, has) = rw c.if-not-branch.false at (c.in_ok-next_record.ensures (csv_records c.args.line.now) c.record_reader-reader.ensures) in
    (rest, has)

pub returns : goal.returns
returns c more no_bom =
    let line = c.args.line.now in
    let header = fields_of c.next_record.new.record in
    let (rest, split, has) = rw c.if-not-branch.false at (c.in_ok-next_record.ensures (csv_records line) c.record_reader-reader.ensures) in
    let none : rest ≡ [] = rw c.if-branch.false at (c.in_ok-next_record-2.ensures rest has) in
    let one : csv_records line ≡ header ∷ [] = split ∙ ap (λ l. header ∷ l) none in
    let shut : may_be_open header ≡ false = sym c.may_be_open.ensures ∙ c.if-may_be_open.false in
    let marked : has_two_boms (line ++ more) ≡ false = marks_apart line more c.requires.long ∙ sym c.has_two_boms.ensures ∙ c.if-has_two_boms.false in
    subst (λ (r : Result (List Column) LoadFaultKind). IfOk c.read_header.result (λ columns. r ≡ Ok columns.items))
    (sym (columns_first (line ++ more) header (csv_records more) marked (header_apart line more header c.requires.feed one shut no_bom))) c.read_header.ensures.ok
