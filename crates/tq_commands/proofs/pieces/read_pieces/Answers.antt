use Rattle.tq_commands.proofs.SpanLemmas.{first_found, whole_found}
use Rattle.tq_commands.proofs.pieces.read_pieces.Goals as goal

pub returns-in-Ok-clause-first : goal.returns-in-Ok-clause-first
returns-in-Ok-clause-first g c =
    let are = rw c.deref.ensures.value at c.in-Ok.ensures in
    first_found (g.F.ReadAt.bytes c.args.file.now) c.in_ok-spans.spans.items c.in-Ok.pieces.items c.args.len c.in_ok-spans.ensures are c.in_ok-joined-in-Ok.field-0 c.in_ok-joined-in-Ok.ensures

pub returns-in-Ok-clause-whole : goal.returns-in-Ok-clause-whole
returns-in-Ok-clause-whole g c =
    let known = g.F.ReadAt.bytes c.args.file.now in
    let are = rw c.deref.ensures.value at c.in-Ok.ensures in
    whole_found known c.args.len c.in_ok-joined-in-Ok.field-0
    (first_found known c.in_ok-spans.spans.items c.in-Ok.pieces.items c.args.len c.in_ok-spans.ensures are c.in_ok-joined-in-Ok.field-0 c.in_ok-joined-in-Ok.ensures)
