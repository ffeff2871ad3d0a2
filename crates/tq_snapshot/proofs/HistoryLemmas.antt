-- Each event of a history may follow the events before it.
use Rattle.std.proofs.Common.{◌≡◌, ℕ, ◌+◌, ◌<◌, Bool, false, List, [], ◌∷◌, ◌++◌, length, take, drop, get_or, sym, ap, subst, ◌∙◌, arith, append_assoc}
use Rattle.std.proofs.lemmas.List.{take-append-drop, take_more}
use Rattle.tq_base.specs.declared.catalogue.Catalogue.{Catalogue}
use Rattle.tq_event.specs.declared.event.Event.{Event}
use Rattle.std.specs.Prelude.{◌↔◌, IsTrue}
use Rattle.tq_event.specs.History.{IsAdmissible, IsHistory}
use Rattle.tq_event.specs.Recorded.{Recorded}

-- each event is admissible after those before it
pub history_at : (c : Catalogue) (es : List Event) (i : ℕ) (e : Event) → IsHistory c es → i < length es → e ≡ get_or es i e → IsAdmissible c (take i es) e
history_at c es i e history less at =
    history (take i es) e (drop (i + 1) es)
    (sym (take-append-drop (i + 1) es)
    ∙ (ap (λ (z : List Event). z ++ drop (i + 1) es) (take_more es i e less ∙ ap (λ (x : Event). take i es ++ x ∷ []) (sym at)) ∙ append_assoc (take i es) (e ∷ []) (drop (i + 1) es)))

-- a store with the events before it takes the event
pub history_taken : (c : Catalogue) (es : List Event) (i : ℕ) (e : Event) (db : Recorded) (taken : Bool) → IsHistory c es → i < length es → e ≡ get_or es i e → db ≡ record { catalogue = c; events = take i es }
    → (IsTrue taken ↔ IsAdmissible db.catalogue db.events e) → taken ≡ false → ⊥
history_taken c es i e db taken history less at is takes refused =
    let admissible : IsAdmissible db.catalogue db.events e = subst (λ (d : Recorded). IsAdmissible d.catalogue d.events e) (sym is) (history_at c es i e history less at) in
    let yes : IsTrue taken = takes.1 admissible in
    grind (arith, yes, refused)
