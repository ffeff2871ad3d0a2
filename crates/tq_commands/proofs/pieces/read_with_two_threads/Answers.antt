use Rattle.tq_commands.proofs.SpanLemmas.{both_spans}
use Rattle.tq_commands.proofs.pieces.read_with_two_threads.Goals as goal

pub returns : goal.returns
returns g c =
    both_spans (g.F.ReadAt.bytes c.args.file.now) c.args.spans.now c.split_at.result.0.now c.split_at.result.1.now c.split_at.ensures.by_index.0
    c.join-more.result.1 c.join-more.result.0 c.both.result c.join-more.ensures.second c.join-more.ensures.first c.both.ensures
