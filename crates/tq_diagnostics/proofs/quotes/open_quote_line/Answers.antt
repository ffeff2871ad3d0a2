use Rattle.std.proofs.Common.{◌∙◌, arith, sym}
use Rattle.tq_diagnostics.specs.Lines.{state_of}
use Rattle.tq_diagnostics.proofs.QuoteLemmas.{quote_next}
use Rattle.tq_diagnostics.proofs.quotes.open_quote_line.Goals as goal

pub bytes-preserved : goal.bytes-preserved
bytes-preserved c =
    let next = quote_next (state_of c.bytes.reader_state) (state_of c.after-reader_state.result) c.bytes.line c.line_after_byte-line.result c.bytes.opened c.opened_after-opened.result
    c.args.bytes.now c.bytes.place c.bytes-test.true c.after-reader_state.ensures c.line_after_byte-line.ensures.value c.opened_after-opened.ensures in
    record {
      few = omega (arith, c.bytes.invariant.few, c.line_after_byte-line.ensures.few);
      same = sym next ∙ c.bytes.invariant.same;
    }
