use Rattle.std.proofs.Common.{arith, get_or, subst, sym, take}
use Rattle.std.specs.Prelude.{All}
use Rattle.std.proofs.lemmas.List.{take_all, take_more}
use Rattle.std.proofs.lemmas.List.Elements.{All-push}
use Rattle.tq_report.proofs.TextLemmas.{IsShownByte, one_each, shown}
use Rattle.tq_report.proofs.texts.is_shown.Goals as goal

pub bytes-preserved : goal.bytes-preserved
bytes-preserved c =
    let bytes = c.args.bytes.now in
    let at = c.bytes.byte-index in
    let is = c.is_shown_byte.ensures in
    let yes = c.if-not-is_shown_byte.false in
    subst (All IsShownByte) (sym (take_more bytes at 0 c.bytes-test.true))
    (All-push IsShownByte (take at bytes) (get_or bytes at 0) c.bytes.invariant (record { low = is.low yes; high = is.high yes; other = is.backslash yes }))

pub returns-clause-shown : goal.returns-clause-shown
returns-clause-shown c holds = shown c.args.bytes.now (subst (All IsShownByte) (take_all c.bytes.byte-index c.args.bytes.now (omega (arith, c.bytes-test.false))) c.bytes.invariant)

pub returns-clause-columns : goal.returns-clause-columns
returns-clause-columns c holds = one_each c.args.bytes.now (subst (All IsShownByte) (take_all c.bytes.byte-index c.args.bytes.now (omega (arith, c.bytes-test.false))) c.bytes.invariant)
