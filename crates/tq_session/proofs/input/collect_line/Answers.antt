use Rattle.std.proofs.Common.{◌∙◌, ◌+◌, ◌++◌, ◌∷◌, ap, drop, sym, take}
use Rattle.tq_session.proofs.InputLemmas.{at_feed, before_feed}
use Rattle.tq_session.proofs.input.collect_line.Goals as goal

pub returns : goal.returns
returns c =
    let unconsumed = c.unconsumed-unconsumed.result.now in
    let feed = c.in-Some.feed in
    record {
      bytes = take feed unconsumed;
      no_feed = before_feed unconsumed feed c.in-Some.ensures;
      split = sym c.unconsumed-unconsumed.ensures ∙ at_feed unconsumed feed c.in-Some.ensures
          ∙ ap (λ rest. take feed unconsumed ++ 10 ∷ rest) (ap (drop (feed + 1)) c.unconsumed-unconsumed.ensures ∙ sym c.consume-2.ensures);
      gathers = c.add-2.ensures;
    }
