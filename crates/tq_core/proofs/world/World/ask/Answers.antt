use Rattle.std.proofs.Common.{◌≡◌, ◌∙◌, ℕ, List, ◌∷◌, ◌++◌, [], false, take, drop, refl, sym, ap, arith}
use Rattle.std.proofs.lemmas.List.{take-append-drop}
use Rattle.std.proofs.lemmas.Option.{slice_get_read}
use Rattle.tq_base.specs.declared.catalogue.Catalogue.{Catalogue}
use Rattle.tq_event.specs.declared.event.Event.{Event}
use Rattle.tq_event.specs.History.{IsHistory}
use Rattle.tq_core.specs.World.{machine_of}
use Rattle.tq_core.proofs.StepLemmas.{ask_answered}
use Rattle.tq_core.proofs.world.World.ask.Goals as goal

history_take : (c : Catalogue) (n : ℕ) (es : List Event) → IsHistory c es → IsHistory c (take n es)
history_take c n es history before event after is =
    history before event (after ++ drop n es) (sym (take-append-drop n es) ∙ ap (λ l. l ++ drop n es) is ∙ appended before event after (drop n es))
  where
    appended : (xs : List Event) (x : Event) (ys zs : List Event) → (xs ++ x ∷ ys) ++ zs ≡ xs ++ x ∷ (ys ++ zs)
    appended [] x ys zs = refl
    appended (w ∷ xs) x ys zs = ap (λ l. w ∷ l) (appended xs x ys zs)

pub answer-requires-clause-history : goal.answer-requires-clause-history
answer-requires-clause-history g c =
    rw (c.events.ensures.events, c.catalogue-catalogue.ensures) (history_take c.self.inside.history.catalogue c.self.inside.published c.self.inside.history.events c.events.ensures.history)

pub returns-clause-step : goal.returns-clause-step
returns-clause-step g c =
    let m = machine_of c.self.inside.history c.self.inside.published c.self.inside.lengths.items c.self.inside.seen.items c.self.inside.runs.items in
    let found = slice_get_read c.self.inside.seen.items c.len.result c.args.reader c.index-seen.result.now (omega (arith, c.len.ensures)) c.if-reader-len.false c.index-seen.ensures in
    let read = g.O.Oracle.value c.args.oracle.now in
    let same : read c.catalogue-catalogue.result.now (take c.args.n (take c.self.inside.published c.events.result.now)) c.args.query.now
    ≡ read c.self.inside.history.catalogue (take c.args.n (take c.self.inside.published c.self.inside.history.events)) c.args.query.now = rw (c.catalogue-catalogue.ensures, c.events.ensures.events) refl in
    let opened : c.push_reserved.new.self.items ≡ c.self.inside.runs.items ++ record { pieces = c.args.pieces; claimants = []; closed = false } ∷ [] =
    c.push_reserved.ensures.items ∙ rw (c.reserve.ensures.items, c.new.ensures) refl in
    rw (← c.self.view_is)
    (ask_answered read m c.args.reader c.args.n c.args.query.now c.args.pieces c.index-seen.result.now c.in_ok-answer.answer c.push_reserved.new.self.items found c.if-n-seen.false
    (c.in_ok-answer.ensures ∙ same) opened)
