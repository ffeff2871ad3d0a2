use Rattle.std.proofs.Common.{◌∙◌, ◌+◌, ◌*◌, ◌%◌, ◌^◌, ℕ, ap, arith, drop, sym}
use Rattle.std.proofs.lemmas.List.{at_drop_all, at_drop_more}
use Rattle.tq_split.specs.declared.part_numbers.TheConstants.{BASE}
use Rattle.tq_split.specs.PartNumbers.{text_code}
use Rattle.tq_split.proofs.part_numbers.text_code.Goals as goal

pub bytes-preserved : goal.bytes-preserved
bytes-preserved c =
    let rest = drop (c.bytes.byte-index + 1) c.args.text.now in
    ap (λ (n : ℕ). text_code ((c.bytes.code * BASE % 2 ^ 64 + n) % 2 ^ 64) rest) c.from.ensures
    ∙ sym (at_drop_more (text_code c.bytes.code) c.args.text.now c.bytes.byte-index 0 c.bytes-test.true)
    ∙ c.bytes.invariant

pub returns : goal.returns
returns c =
    sym (at_drop_all (text_code c.bytes.code) c.args.text.now c.bytes.byte-index (omega (arith, c.bytes-test.false))) ∙ c.bytes.invariant
