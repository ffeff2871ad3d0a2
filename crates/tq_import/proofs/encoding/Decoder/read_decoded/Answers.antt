use Rattle.std.proofs.Common.{◌≡◌, ◌∙◌, ◌++◌, [], arith, encode_utf8_all, sym, take}
use Rattle.std.specs.Prelude.{slice_range}
use Rattle.tq_import.specs.declared.encoding.Encoding.TheVariants.{Latin1}
use Rattle.tq_import.proofs.EncodingLemmas.{decoded_bytes, decoded_end, front, no_bytes}
use Rattle.tq_import.proofs.encoding.Decoder.read_decoded.Goals as goal

pub returns-clause-bytes : goal.returns-clause-bytes
returns-clause-bytes g c =
    let (bytes, took, text, ended) = c.in_ok-len.ensures.bytes in
    let new = c.give.new.self in
    let out = take c.give.result c.give.new.buf in
    let latin1 : new.encoding ≡ Latin1 = c.give.ensures.encoding ∙ c.requires.latin1 in
    let same : encode_utf8_all bytes ≡ out ++ slice_range new.decoded new.start new.end = sym text ∙ sym (front c.read_latin1.new.into c.in_ok-len.len) ∙ c.give.ensures.bytes in
    let took_new = rw (← c.give.ensures.reader) at took in (
      decoded_bytes g.R.Read.remaining c.args.self.now new bytes out c.requires.none c.requires.latin1 latin1 took_new same,
      λ zero some.
          let none = c.give.ensures.none zero some in
          let nothing : [] ≡ out ++ slice_range new.decoded new.start new.end = sym (no_bytes c.read_latin1.new.into 0 c.in_ok-len.len (omega (arith, none))) ∙ c.give.ensures.bytes in
          let at_end = ended (sym none) in
          decoded_end g.R.Read.remaining new out latin1 nothing (rw (← c.give.ensures.reader) at at_end),
    )
