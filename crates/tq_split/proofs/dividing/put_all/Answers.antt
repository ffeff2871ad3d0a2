use Rattle.std.proofs.Common.{◌<◌, List, Option, ℕ, arith, length, subst}
use Rattle.std.specs.Io.KnownBytes.{Appends}
use Rattle.tq_split.proofs.DivisionLemmas.{known_read, put_more, put_whole}
use Rattle.tq_split.proofs.dividing.put_all.Goals as goal

pub parts-preserved : goal.parts-preserved
parts-preserved g c =
    let contents = g.W.Write.contents in
    let below : c.parts.part < length c.parts.sinks = omega (arith, c.parts-test.true, c.parts.auto.sinks) in
    put_more contents c.args.sinks.now c.parts.sinks c.parts.part (λ part. c.args.bytes.now) c.put.new.sink c.parts.invariant below
    (subst (λ (o : Option (List ℕ)). Appends o (contents c.put.new.sink.writer) c.args.bytes.now) (known_read contents c.parts.sinks c.parts.part c.index-sinks-part.result below) c.in_ok-put.ensures.whole)

pub returns-clause-whole : goal.returns-clause-whole
returns-clause-whole g c = put_whole g.W.Write.contents c.args.sinks.now c.parts.sinks c.parts.part (λ part. c.args.bytes.now) c.parts.invariant c.parts-test.false
