use Rattle.std.proofs.Common.{rules, arith}
use Rattle.tq_commands.proofs.SpanLemmas.{read_consumes}
use Rattle.tq_commands.proofs.spans.SpanReaderRead.read.Goals as goal

pub returns-clause-bytes : goal.returns-clause-bytes
returns-clause-bytes g c =
    let known = g.F.ReadAt.bytes c.args.self.now.file.now in
    let within = c.in_ok-taken.ensures.bound.0 in
    read_consumes known c.args.self.now.left.start c.args.self.now.left.end _ c.in_ok-taken.taken _ c.read_at.new.buffer c.args.buf.now
    (omega arith) (search rules) within (omega arith) c.in_ok-taken.ensures.bytes
