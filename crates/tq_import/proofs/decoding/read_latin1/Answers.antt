use Rattle.std.proofs.Common.{◌≡◌, ◌∙◌, [], ap, arith, encode_utf8_all, sym, take}
use Rattle.std.proofs.lemmas.List.{length-take-le}
use Rattle.tq_import.proofs.EncodingLemmas.{none_encoded}
use Rattle.tq_import.proofs.decoding.read_latin1.Goals as goal

pub returns-clause-bytes : goal.returns-clause-bytes
returns-clause-bytes g c =
    let bytes = take c.in_ok-count.count c.read.new.buf in
    let p = c.in_ok-count.ensures.bytes in (
      bytes,
      p.0,
      c.decode_latin1.ensures.text,
      λ none.
          let nothing : [] ≡ encode_utf8_all bytes = sym (ap (λ n. take n c.decode_latin1.new.into) none) ∙ c.decode_latin1.ensures.text in
          p.1 (omega (arith, none_encoded bytes nothing, length-take-le c.in_ok-count.count c.read.new.buf c.in_ok-count.ensures.bound.0)) (omega arith),
    )
