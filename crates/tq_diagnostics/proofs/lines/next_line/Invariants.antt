-- The lines from here on are those from the place at which the scan began.
use Rattle.std.proofs.Common.{◌≡◌, ◌≤◌, ◌+◌, drop}
use Rattle.tq_diagnostics.specs.Lines.{lines_from, lines_left, state_of}
use Rattle.tq_diagnostics.proofs.lines.next_line.Given as goal

abbrev pub invariant-bytes : goal.invariant-bytes
invariant-bytes l = record {
  few : l.line ≤ l.place + 1;
  same : lines_from (state_of l.reader_state) l.line (drop l.place l.bytes) ≡ lines_left l.bytes l.fn.scanner;
}
