use Rattle.std.proofs.Common.{◌≡◌, ◌==◌, eq-eqb, false, ne_eqb, sym, true}
use Rattle.tq_import.proofs.DigitLemmas.{no_digits}
use Rattle.tq_import.proofs.digits.next_unmarked.Goals as goal

pub returns-then-byte-mark-clause-value : goal.returns-then-byte-mark-clause-value
returns-then-byte-mark-clause-value c =
    let same : (c.args.byte == c.args.mark) ≡ true = eq-eqb c.args.byte c.args.mark c.if-byte-mark.true in
    rw same (sym (no_digits c.args.limit c.args.number c.requires))

pub returns-clause-value : goal.returns-clause-value
returns-clause-value c =
    let other : (c.args.byte == c.args.mark) ≡ false = ne_eqb c.args.byte c.args.mark c.if-byte-mark.false in
    rw other c.next_digit.ensures.value
