-- The parts so far were appended, and no call has failed.
use Rattle.std.proofs.Common.{◌≡◌, take}
use Rattle.std.specs.Io.KnownBytes.{Appends}
use Rattle.tq_table.specs.Sink.{bytes_of}
use Rattle.tq_table.proofs.sink.Sink.send_all.Given as goal

abbrev pub invariant-parts : goal.invariant-parts
invariant-parts g l = record {
  appended : Appends (g.W.Write.contents l.initial.self.writer) (g.W.Write.contents l.self.writer) (bytes_of (take l.part-index l.parts));
  kept : l.self.failed ≡ l.initial.self.failed;
}
