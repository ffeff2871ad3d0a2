use Rattle.std.proofs.Common.{arith}
use Rattle.tq_event.proofs.AsciiLemmas.{ascii_all, ascii_more}
use Rattle.tq_event.proofs.reading.is_ascii.Goals as goal

pub bytes-preserved : goal.bytes-preserved
bytes-preserved c = ascii_more c.bytes.ascii c.args.bytes.now c.bytes.byte-index c.bytes.invariant

pub returns : goal.returns
returns c parsed = ascii_all c.args.bytes.now c.bytes.byte-index (omega (arith, c.bytes-test.false)) (c.bytes.invariant parsed)
