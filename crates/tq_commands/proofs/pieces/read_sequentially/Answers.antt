use Rattle.std.proofs.Common.{◌≡◌, rules, true}
use Rattle.std.specs.Result.{is_ok}
use Rattle.tq_commands.proofs.SpanLemmas.{spans_step}
use Rattle.tq_commands.proofs.pieces.read_sequentially.Goals as goal

pub spans-preserved : goal.spans-preserved
spans-preserved g c =
    let known = g.F.ReadAt.bytes c.args.file.now in
    let spans = c.args.spans.now in
    let good : is_ok c.push.result ≡ true = search rules in
    let items = rw good at c.push.ensures.items in
    rw items (spans_step known spans c.spans.span-index _ c.spans.pieces.items c.in_ok-bytes.bytes c.spans-test.true c.spans.invariant c.in_ok-bytes.ensures)
