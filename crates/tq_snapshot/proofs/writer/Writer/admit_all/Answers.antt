use Rattle.std.proofs.Common.{◌≡◌, ◌+◌, ◌≤◌, length, List, All, ap, sym, subst, ◌∙◌}
use Rattle.std.proofs.lemmas.List.{length_push}
use Rattle.std.proofs.lemmas.List.Elements.{All-push}
use Rattle.tq_event.specs.declared.event.Event.{Event}
use Rattle.tq_snapshot.proofs.writer.Writer.admit_all.Goals as goal

pub loop-preserved : goal.loop-preserved
loop-preserved g c =
    let before = c.loop.readers.items in
    let reader = c.in_ok-admit.field-0 in
    let pushed = c.push_reserved.ensures.items in
    let inv = c.loop.invariant in
    record {
      count = ap length pushed ∙ length_push before reader ∙ ap (λ n. n + 1) inv.count;
      len = c.push_reserved.ensures.len ∙ ap (λ n. n + 1) inv.len;
      room = subst (λ n. c.args.count ≤ n) (sym c.push_reserved.ensures.capacity) inv.room;
      observed = subst (λ (l : List (List Event)). All (λ t. t ≡ c.args.self.now.published) l) (sym pushed) (All-push (λ t. t ≡ c.args.self.now.published) before reader inv.observed c.in_ok-admit.ensures);
    }
