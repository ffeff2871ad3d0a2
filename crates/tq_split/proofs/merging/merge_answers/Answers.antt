use Rattle.std.proofs.KnownBytes.{Appends-trans}
use Rattle.tq_split.proofs.AnswerLemmas.{answers_in_order}
use Rattle.tq_split.proofs.merging.merge_answers.Goals as goal

pub returns : goal.returns
returns g c lists are =
    let merged = rw c.deref_mut.ensures.value at (c.in_ok-merged.ensures lists) in
    let all = merged (c.in_ok-parts.ensures lists are) (answers_in_order g.R.Read.remaining c.args.layout.now c.args.inputs.items lists are) in
    record {
      rows = all.rows;
      layers = all.layers;
      written = Appends-trans _ _ _ _ _ (rw (c.deref-2.ensures.value, c.in_ok-header.ensures, c.deref.ensures.value, c.in_ok-names.ensures) at c.in_ok-put.ensures) all.written;
      counted = all.counted;
    }
