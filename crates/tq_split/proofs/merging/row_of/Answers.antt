use Rattle.std.proofs.Common.{◌∙◌, ap}
use Rattle.csv.specs.Records.{fields_of}
use Rattle.tq_base.specs.declared.fragment.Fragment.{Fragment}
use Rattle.tq_split.proofs.AnswerLemmas.{all_wanted, one_row}
use Rattle.tq_split.proofs.merging.row_of.Goals as goal

pub returns : goal.returns
returns c row is =
    let layout = c.args.layout.now in
    let read = rw c.deref.ensures.value at c.in_ok-period.ensures.ok in
    let found : Fragment = record { values = read.whole; period = c.in_ok-period.period } in
    let values = c.of.ensures ∙ read.kept ∙ all_wanted read.whole in
    ap (λ (values : _). let row : Fragment = record { values = values; period = c.in_ok-period.period } in row) values
    ∙ one_row layout.form layout.columns.items (fields_of c.args.record.now) found row (read.parsed 0) is
