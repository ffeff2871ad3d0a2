-- The bytes of the line so far are collected, each read is counted, and none failed.
use Rattle.std.proofs.Common.{◌≡◌, ◌-◌, ◌≤◌}
use Rattle.tq_session.specs.Input.{reads_after}
use Rattle.tq_session.specs.Lines.{HasNoFeed}
use Rattle.tq_session.proofs.InputLemmas.{IsMidway}
use Rattle.tq_session.proofs.input.Input.next.Given as goal

abbrev pub invariant-reads : goal.invariant-reads
invariant-reads g l = record {
  midway : IsMidway l.fn.self.unconsumed l.self-inside.chunk l.self-inside.line (g.R.Read.remaining l.fn.source.reader) (g.R.Read.remaining l.source.reader) (l.fn.self.left - l.self-inside.left);
  failed : l.source.failed ≡ l.fn.source.failed;
  reads : l.source.reads ≡ reads_after l.fn.source.reads (l.fn.self.left - l.self-inside.left);
  ready : (HasNoFeed l.fn.self.unconsumed → ⊥) → l.self-inside.left ≡ l.fn.self.left;
  left : l.self-inside.left ≤ l.fn.self.left;
}

abbrev pub decreases-reads : goal.decreases-reads
decreases-reads g l = l.self-inside.left
