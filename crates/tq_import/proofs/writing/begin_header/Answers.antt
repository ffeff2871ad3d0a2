use Rattle.std.proofs.Common.{[]}
use Rattle.tq_import.proofs.writing.begin_header.Goals as goal

pub returns-then-numbered : goal.returns-then-numbered
returns-then-numbered c =
    let h = c.in_ok-push_field.ensures [] (c.new-fields.ensures.fields, c.new-fields.ensures.partial) in
    rw c.if-numbered.true (h.0, h.1)
