-- The lines taken so far were replied to, and no call failed yet.
use Rattle.std.proofs.Common.{◌≡◌, ◌-◌, ◌≤◌}
use Rattle.tq_session.specs.Input.{max_remaining, reads_after}
use Rattle.tq_session.specs.Sessions.{streams}
use Rattle.tq_session.proofs.SessionLemmas.{SoFar}
use Rattle.tq_session.proofs.transcript.reply_to_lines.Given as goal

abbrev pub invariant-lines : goal.invariant-lines
invariant-lines g l = record {
  so_far : SoFar l.settings.form g.J.StoreId.catalogue l.fn.session_state l.session_state (streams (g.I.Read.remaining l.fn.source.reader) (g.W.Write.contents l.fn.sink.writer)) (streams (g.I.Read.remaining l.source.reader) (g.W.Write.contents l.sink.writer)) l.input.unconsumed;
  source_failed : l.source.failed ≡ l.fn.source.failed;
  sink_failed : l.sink.failed ≡ l.fn.sink.failed;
  reads : l.source.reads ≡ reads_after l.fn.source.reads (l.fn.input.left - l.input.left);
  left : l.input.left ≤ l.fn.input.left;
}

abbrev pub decreases-lines : goal.decreases-lines
decreases-lines g l = max_remaining l.input
