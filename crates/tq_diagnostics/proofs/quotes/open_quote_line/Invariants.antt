-- The open quote is that of the bytes from here on, after those before.
use Rattle.std.proofs.Common.{◌≡◌, ◌≤◌, ◌+◌, drop}
use Rattle.tq_diagnostics.specs.Lines.{state_of}
use Rattle.tq_diagnostics.specs.Quotes.{open_quote_from, open_quote_line}
use Rattle.tq_diagnostics.proofs.quotes.open_quote_line.Given as goal

abbrev pub invariant-bytes : goal.invariant-bytes
invariant-bytes l = record {
  few : l.line ≤ l.place + 1;
  same : open_quote_from (state_of l.reader_state) l.line l.opened (drop l.place l.bytes) ≡ open_quote_line l.bytes;
}
