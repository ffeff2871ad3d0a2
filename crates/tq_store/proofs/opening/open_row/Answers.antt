use Rattle.std.proofs.Common.{◌≡◌, ◌+◌, ◌-◌, ◌<◌, ◌==◌, ◌&&◌, ◌∷◌, ◌∙◌, List, suc, length, drop, take, arith, ap, sym}
use Rattle.std.proofs.Math.Seq.{drop-cons}
use Rattle.std.proofs.lemmas.List.{drop_all, length-drop, take_all}
use Rattle.tq_base.specs.declared.period.TheConstants.{FOREVER}
use Rattle.tq_event.specs.declared.event.Event.{Event}
use Rattle.tq_event.specs.History.{end_of}
use Rattle.tq_store.specs.Stored.{starts_like}
use Rattle.tq_store.proofs.OpenLemmas.{first_from, taken, walked}
use Rattle.tq_store.proofs.opening.open_row.Goals as goal

pub returns-then-opens : goal.returns-then-opens
returns-then-opens c =
    let es : List Event = c.args.events.now in
    let place = c.events.place in
    let row = c.events.row in
    let e : Event = c.index-events-place.result in
    let within : place < length es = c.events-test.true in
    let next : suc place ≡ place + 1 = omega arith in
    let here : drop place es ≡ e ∷ drop (place + 1) es =
    drop-cons es place e within ∙ ap (λ x. x ∷ drop (suc place) es) (sym c.index-events-place.is) ∙ ap (λ n. e ∷ drop n es) next in
    let later : take (length es - (place + 1)) (drop (place + 1) es) ≡ drop (place + 1) es = take_all (length es - (place + 1)) (drop (place + 1) es) (simp length-drop (omega arith)) in
    let opens = ap (λ l. starts_like c.args.values.now c.args.at e && end_of c.args.table row l == FOREVER) (sym later) ∙ sym c.opens.ensures ∙ c.if-opens.true in
    sym (walked es c.args.table c.args.values.now c.args.at ∙ c.events.invariant.rest ∙ ap (first_from c.args.table row c.args.values.now c.args.at) here
    ∙ taken c.args.table c.args.values.now c.args.at row e (drop (place + 1) es) (sym c.starts.ensures ∙ c.if-starts.true) opens)

pub returns : goal.returns
returns c =
    let es : List Event = c.args.events.now in
    sym (walked es c.args.table c.args.values.now c.args.at ∙ c.events.invariant.rest
    ∙ ap (first_from c.args.table c.events.row c.args.values.now c.args.at) (drop_all c.events.place es c.events-test.false))
