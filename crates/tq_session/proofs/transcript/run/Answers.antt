use Rattle.std.proofs.Common.{◌-◌, arith}
use Rattle.tq_session.proofs.SessionLemmas.{reads_few}
use Rattle.tq_session.proofs.transcript.run.Goals as goal

pub returns-clause-reads : goal.returns-clause-reads
returns-clause-reads g c =
    let few = reads_few c.args.source.now.reads (c.in-Ok.input.left - c.reply_to_lines-ended.new.input.left) in
    omega (arith, c.reply_to_lines-ended.ensures.reads, few, c.in-Ok.ensures.1)
