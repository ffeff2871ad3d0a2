use Rattle.std.proofs.Common.{◌≡◌, ◌∷◌, ◌++◌, [], length, subst, refl}
use Rattle.tq_event.specs.History.{IsAdmissible}
use Rattle.tq_event.specs.Recorded.{noted}
use Rattle.tq_event.proofs.RecordedLemmas.{history_push, starts_after, table_within}
use Rattle.tq_event.proofs.history.History.append.Goals as goal

pub note-requires : goal.note-requires
note-requires c =
    let fits = subst (λ l. IsAdmissible c.self.inside.catalogue l c.args.event.now) c.deref.ensures.value (c.is_admissible.ensures.admissible.0 c.if-not-is_admissible.false) in
    table_within c.self.inside.catalogue c.self.inside.events.items c.args.event.now c.self.inside.starts.items c.self.invariant.open_rows fits

pub invariant_of-self-2 : goal.invariant_of-self-2
invariant_of-self-2 c =
    let fits = subst (λ l. IsAdmissible c.self.inside.catalogue l c.args.event.now) c.deref.ensures.value (c.is_admissible.ensures.admissible.0 c.if-not-is_admissible.false) in
    let events : c.push_reserved.new.self.items ≡ c.self.inside.events.items ++ c.args.event.now ∷ [] = rw (c.push_reserved.ensures.items, c.reserve.ensures.items, c.in_ok-copy.ensures) refl in
    let starts : c.note.new.starts.items ≡ noted c.args.event.now c.self.inside.starts.items = c.in_ok-note.ensures.ok in
    rw (events, starts) (record {
      history = history_push c.self.inside.catalogue c.self.inside.events.items c.args.event.now c.self.invariant.history fits;
      open_rows = starts_after (length c.self.inside.catalogue.tables) c.self.inside.events.items c.args.event.now c.self.inside.starts.items c.self.invariant.open_rows c.is_admissible.ensures.finite;
    })

pub returns-clause-admissible : goal.returns-clause-admissible
returns-clause-admissible c =
    let fits = subst (λ l. IsAdmissible c.self.inside.catalogue l c.args.event.now) c.deref.ensures.value (c.is_admissible.ensures.admissible.0 c.if-not-is_admissible.false) in
    rw (← c.self.view_is) ((λ _. fits), (λ _. refl))
