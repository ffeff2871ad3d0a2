use Rattle.std.proofs.Common.{◌≡◌, [], List, sym, ap, ◌∙◌, append-nil}
use Rattle.std.specs.Prelude.{Some}
use Rattle.std.proofs.lemmas.List.Elements.{All-pop}
use Rattle.tq_event.specs.declared.event.Event.{Event}
use Rattle.tq_snapshot.specs.Calls.{WriterState}
use Rattle.tq_session.proofs.session_state.SessionState.open.Goals as goal

pub invariant_of-result : goal.invariant_of-result
invariant_of-result g c =
    let events = c.into_vec-events.result.items in
    let told : c.in-Some.reader ≡ events
    = (All-pop (λ (t : List Event). t ≡ events) c.in_ok-writer.readers.items c.pop.new.self.items (Some c.in-Some.reader) c.in-Some.ensures.items c.in_ok-writer.ensures.readers).1 in
    ([], append-nil c.in_ok-writer.writer.published ∙ ap (λ (w : WriterState). w.published) c.in_ok-writer.ensures.writer ∙ sym told)
