use Rattle.std.proofs.Common.{rules}
use Rattle.tq_report.proofs.TextLemmas.{other_kept, quote_doubled}
use Rattle.tq_report.proofs.texts.push_escaped_byte.Goals as goal

pub returns-then-byte-eq34 : goal.returns-then-byte-eq34
returns-then-byte-eq34 c = rw (quote_doubled c.args.byte c.if-byte-eq34.true) (search rules)

pub returns : goal.returns
returns c = search (rules, other_kept)
