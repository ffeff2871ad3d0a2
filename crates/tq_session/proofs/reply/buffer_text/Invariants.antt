-- The parts so far are appended after the bytes that were buffered, except for the buffered bytes, and no call failed yet.
use Rattle.std.proofs.Common.{◌≡◌, ◌++◌, take}
use Rattle.tq_table.specs.Sink.{bytes_of}
use Rattle.tq_session.specs.Replies.{AppendsAllExcept}
use Rattle.tq_session.proofs.reply.buffer_text.Given as goal

abbrev pub invariant-each : goal.invariant-each
invariant-each g l = record {
  appended : AppendsAllExcept (g.W.Write.contents l.initial.sink.writer) (g.W.Write.contents l.sink.writer) (l.initial.buffer.items ++ bytes_of (take l.part-index l.parts)) l.buffer.items;
  kept : l.sink.failed ≡ l.initial.sink.failed;
}
