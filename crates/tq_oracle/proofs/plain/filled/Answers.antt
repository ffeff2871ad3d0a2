use Rattle.std.proofs.Common.{◌≡◌, ◌<◌, ◌+◌, ◌∷◌, ◌++◌, [], List, Bool, true, take, drop, length, get_or, sym, ap, subst, ◌∙◌, arith}
use Rattle.std.specs.Prelude.{if◌then◌else◌}
use Rattle.std.proofs.lemmas.List.{drop_more, get_or-take, length-take, take-append-drop, take-take, take_more}
use Rattle.tq_base.specs.declared.catalogue.Catalogue.{Catalogue}
use Rattle.tq_event.specs.declared.event.Event.{Event}
use Rattle.tq_event.specs.History.{IsAdmissible}
use Rattle.tq_event.specs.Recorded.{Recorded}
use Rattle.tq_oracle.proofs.plain.filled.Goals as goal

-- a history with these events
abbrev over : Catalogue → List Event → Recorded
over catalogue events = record { catalogue = catalogue; events = events }

abbrev after : Recorded → Event → Bool → Recorded
after db event taken = record { catalogue = db.catalogue; events = db.events ++ (if taken then event ∷ [] else []) }

pub events-preserved : goal.events-preserved
events-preserved c =
    let events = c.args.events.now in
    let catalogue = c.args.catalogue.now in
    let i = c.events.event-index in
    let event : Event = c.event-item.result in
    let first = take c.args.n events in
    let db : Recorded = c.events.db in
    let long : length first ≡ c.args.n = omega (arith, length-take c.args.n events, c.requires.within) in
    let below : i < c.args.n = omega (arith, long, c.events-test.true) in
    let here : event ≡ get_or events i event = c.event-item.is ∙ get_or-take c.args.n events i event below in
    let parts : events ≡ take i events ++ event ∷ drop (i + 1) events =
    sym (take-append-drop i events) ∙ ap (λ l. take i events ++ l) (drop_more events i event (omega (arith, below, c.requires.within)) ∙ ap (λ e. e ∷ drop (i + 1) events) (sym here)) in
    let front : take i first ≡ take i events = take-take i c.args.n events (omega (arith, below)) in
    let before : db ≡ over catalogue (take i first) = c.events.invariant in
    let admissible : IsAdmissible db.catalogue db.events event =
    subst (λ (d : Recorded). IsAdmissible d.catalogue d.events event) (sym (before ∙ ap (over catalogue) front)) (c.requires.history (take i events) event (drop (i + 1) events) parts) in
    let taken : c.in_ok-apply.field-0 ≡ true = c.in_ok-apply.ensures.admissible.1 admissible in
    let more : take i first ++ event ∷ [] ≡ take (i + 1) first = sym (take_more first i event c.events-test.true ∙ ap (λ e. take i first ++ e ∷ []) (sym c.event-item.is)) in
    c.in_ok-apply.ensures.events
    ∙ ap (after db event) taken
    ∙ ap (λ (d : Recorded). after d event true) before
    ∙ ap (over catalogue) more
