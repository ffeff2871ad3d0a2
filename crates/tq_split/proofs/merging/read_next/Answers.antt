use Rattle.std.proofs.Common.{◌∷◌, ◌∙◌, ap, sym}
use Rattle.csv.specs.Records.{fields_of}
use Rattle.tq_split.proofs.AnswerLemmas.{first_row, no_rows}
use Rattle.tq_split.proofs.merging.read_next.Goals as goal

pub returns-then-not-branch : goal.returns-then-not-branch
returns-then-not-branch g c rows left =
    no_rows c.args.layout.now left.records rows (rw c.if-not-branch.true at (c.in_ok-next_record.ensures 44 left.records left.has)) left.rows_are

pub returns : goal.returns
returns g c rows left =
    let (more, split, has_more) = rw c.if-not-branch.false at (c.in_ok-next_record.ensures 44 left.records left.has) in
    let first = first_row c.args.layout.now left.records (fields_of c.next_record.new.record) more rows split left.rows_are in
    let same = c.keyed.ensures ∙ c.in_ok-row.ensures first.row first.reads in
    (first.others, first.is ∙ ap (λ (row : _). row ∷ first.others) (sym same), record { records = more; has = has_more; rows_are = first.are })
