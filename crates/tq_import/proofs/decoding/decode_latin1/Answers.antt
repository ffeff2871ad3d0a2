use Rattle.std.proofs.Common.{◌∙◌, ◌++◌, ap, arith, encode_utf8, encode_utf8_all, get_or, sym, take}
use Rattle.std.proofs.lemmas.List.{take_all, take_more}
use Rattle.tq_import.proofs.EncodingLemmas.{encodes_push}
use Rattle.tq_import.proofs.decoding.decode_latin1.Goals as goal

pub codes-preserved : goal.codes-preserved
codes-preserved c =
    let i = c.codes.invariant in
    let codes = c.args.codes.now in
    let at = c.codes.code-index in
    let code = get_or codes at 0 in
    record {
      within = omega (arith, i.within, c.put_char-end.ensures.within);
      text = c.put_char-end.ensures.text ∙ (λ j. i.text j ++ encode_utf8 code) ∙ sym (encodes_push (take at codes) code) ∙ ap encode_utf8_all (sym (take_more codes at 0 c.codes-test.true));
    }

pub returns-clause-text : goal.returns-clause-text
returns-clause-text c =
    c.codes.invariant.text ∙ ap encode_utf8_all (take_all c.codes.code-index c.args.codes.now (omega (arith, c.codes-test.false)))
