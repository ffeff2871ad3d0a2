use Rattle.std.proofs.Common.{◌∙◌, subst, sym}
use Rattle.csv.specs.Records.{fields_of}
use Rattle.tq_load.specs.Reading.{PassesHeader}
use Rattle.tq_load.proofs.reading.pass_header.Goals as goal

pub returns-then-not-may_be_open : goal.returns-then-not-may_be_open
returns-then-not-may_be_open c left has =
    let (more, split, after) = rw c.if-branch.true at (c.in_ok-next_record.ensures left has) in
    let closed = sym c.may_be_open.ensures ∙ c.if-not-may_be_open.true in
    (more, subst (λ n. PassesHeader n left more) (sym c.if-start-ne0.false) (fields_of c.next_record.new.record, closed, split), after)
