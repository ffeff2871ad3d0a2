use Rattle.std.proofs.Common.{◌∙◌, ◌++◌, ◌∷◌, [], List, ap, arith, sym, take}
use Rattle.std.proofs.lemmas.List.{take_all, take_more}
use Rattle.std.proofs.lemmas.Option.{get_or_from_slice_get, slice_get_within}
use Rattle.tq_event.specs.declared.event.Event.{Event}
use Rattle.tq_store.proofs.log.Events.to_vec.Goals as goal

pub events-preserved : goal.events-preserved
events-preserved c =
    let es = c.args.self.now in
    let at = c.events.number in
    let e = c.in_ok-event.field-0 in
    c.in_ok-push.ensures.items
    ∙ ap (λ (l : List Event). l ++ e ∷ []) c.events.invariant
    ∙ ap (λ (x : Event). take at es ++ x ∷ []) (sym (get_or_from_slice_get es at e e c.in_ok-event.ensures))
    ∙ sym (take_more es at e (slice_get_within es at e c.in_ok-event.ensures))

pub returns : goal.returns
returns c = c.events.invariant ∙ take_all c.events.number c.args.self.now (omega (arith, c.events-test.false, c.len.ensures.len))
