use Rattle.std.proofs.Common.{◌∙◌, ◌<◌, [], List, None, Option, ℕ, arith, get_or, length, subst}
use Rattle.std.specs.Io.KnownBytes.{Appends}
use Rattle.tq_split.specs.TableParts.{known_bytes, texts_of}
use Rattle.tq_split.proofs.DivisionLemmas.{known_read, put_more, text_at}
use Rattle.tq_split.proofs.dividing.put_texts.Goals as goal

pub parts-preserved : goal.parts-preserved
parts-preserved g c =
    let contents = g.W.Write.contents in
    let texts = c.args.texts.now in
    let below : c.parts.part < length c.parts.sinks = omega (arith, c.parts-test.true, c.parts.auto.sinks, c.requires) in
    put_more contents c.args.sinks.now c.parts.sinks c.parts.part (λ part. get_or (texts_of texts) part []) c.put.new.sink c.parts.invariant below
    (subst (λ (t : List ℕ). Appends (get_or (known_bytes contents c.parts.sinks) c.parts.part None) (contents c.put.new.sink.writer) t)
    (c.deref.ensures.value ∙ text_at texts c.parts.part c.index-texts-part.result c.parts-test.true c.index-texts-part.is)
    (subst (λ (o : Option (List ℕ)). Appends o (contents c.put.new.sink.writer) c.deref.result.now) (known_read contents c.parts.sinks c.parts.part c.index-sinks-part.result below) c.in_ok-put.ensures.whole))
