-- The bytes are those that were consumed, and each read gave at least one.
use Rattle.std.proofs.Common.{◌≡◌, ◌≤◌, ◌+◌, length, vec_len}
use Rattle.std.specs.Io.KnownBytes.{Consumes}
use Rattle.tq_engine.proofs.file.read_file.Given as goal

abbrev pub invariant-reads : goal.invariant-reads
invariant-reads g l = record {
  taken : Consumes (g.R.Read.remaining l.fn.source.reader) (g.R.Read.remaining l.source.reader) l.bytes.items;
  room : length l.chunk ≡ 65_536;
  size : vec_len l.bytes ≤ 1_073_741_824;
  grown : l._turn ≤ vec_len l.bytes;
  failed : l.source.failed ≡ l.fn.source.failed;
  reads : l.source.reads ≤ l.fn.source.reads + l._turn;
}
