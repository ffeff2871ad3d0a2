use Rattle.std.proofs.Common.{◌≡◌, ◌∙◌, [], length, arith, refl, sym}
use Rattle.std.proofs.lemmas.List.Elements.{All-nil}
use Rattle.tq_split.specs.TableParts.{HasEntry, known_bytes}
use Rattle.tq_split.proofs.DivisionLemmas.{appended_none, divided_all, divided_more, fault_later, many_bytes}
use Rattle.tq_split.proofs.dividing.divide_records.Goals as goal

pub batches-init : goal.batches-init
batches-init g c =
    let cut = c.args.cut.now in
    record {
      later = omega arith;
      rest = λ all has. record {
        done = [];
        left = all;
        split = refl;
        has = has;
        entries = All-nil (HasEntry cut.form cut.columns.items);
        written = appended_none (known_bytes g.W.Write.contents c.args.sinks.now);
        counted = refl;
      };
    }

pub returns-in-Err-clause-fault : goal.returns-in-Err-clause-fault
returns-in-Err-clause-fault g c left has =
    let s = c.batches.invariant.rest left has in
    let cut = c.args.cut.now in
    fault_later cut.form cut.columns.items 2 c.batches.number left s.done s.left c.in-Err.fault s.split s.entries s.counted (c.in-Err.ensures.fault s.left s.has)

pub batches-preserved : goal.batches-preserved
batches-preserved g c =
    let i = c.batches.invariant in
    let cut = c.args.cut.now in
    let contents = g.W.Write.contents in
    let old = known_bytes contents c.args.sinks.now in
    let mid = known_bytes contents c.batches.sinks in
    let many : length mid ≡ length old = many_bytes contents c.batches.sinks ∙ c.batches.auto.sinks ∙ sym (many_bytes contents c.args.sinks.now) in
    let parts : length c.batches.sinks ≡ length old = sym (many_bytes contents c.batches.sinks) ∙ many in
    record {
      later = omega (arith, i.later, c.in-Ok.ensures.next);
      rest = λ all has.
          let s = i.rest all has in
          divided_more cut all g.R.Read.remaining c.batches.reader c.read_batch.new.reader old mid (known_bytes contents c.put_texts.new.sinks) c.batches.number (length c.batches.sinks) c.in-Ok.batch c.deref.result.now
          parts many c.deref.ensures.value c.in-Ok.ensures.many s (c.in-Ok.ensures.ok s.left s.has) c.in_ok-put_texts.ensures.whole c.if-not-more.false;
    }

pub returns-then-not-more-clause-ok : goal.returns-then-not-more-clause-ok
returns-then-not-more-clause-ok g c left has =
    let s = c.batches.invariant.rest left has in
    let cut = c.args.cut.now in
    let contents = g.W.Write.contents in
    let old = known_bytes contents c.args.sinks.now in
    let mid = known_bytes contents c.batches.sinks in
    let many : length mid ≡ length old = many_bytes contents c.batches.sinks ∙ c.batches.auto.sinks ∙ sym (many_bytes contents c.args.sinks.now) in
    let parts : length c.batches.sinks ≡ length old = sym (many_bytes contents c.batches.sinks) ∙ many in
    divided_all cut left g.R.Read.remaining c.batches.reader c.read_batch.new.reader old mid (known_bytes contents c.put_texts.new.sinks) c.batches.number (length c.batches.sinks) c.in-Ok.batch c.deref.result.now
    parts many c.deref.ensures.value c.in-Ok.ensures.many s (c.in-Ok.ensures.ok s.left s.has) c.in_ok-put_texts.ensures.whole c.if-not-more.true
