use Rattle.std.proofs.Common.{◌≡◌, None, subst, sym, take, arith}
use Rattle.std.specs.Prelude.{All}
use Rattle.std.proofs.lemmas.List.{take_all, take_more}
use Rattle.std.proofs.lemmas.List.Elements.{All-push}
use Rattle.tq_split.specs.declared.answer_part.AnswerPart.{AnswerPart}
use Rattle.tq_split.proofs.merging.least_row.Goals as goal

pub parts-preserved : goal.parts-preserved
parts-preserved g c none =
    let parts = c.args.parts.now in
    let place = c.parts.part-index in
    let item = c.part-item.result in
    let Ended : AnswerPart g.row.R.Denot → Type 0 = λ (part : AnswerPart g.row.R.Denot). part.next ≡ None in
    subst (All Ended) (sym (take_more parts place item c.parts-test.true))
    (All-push Ended (take place parts) _ (c.parts.invariant (c.less_of-least.ensures.least none))
    (subst Ended c.part-item.is (c.less_of-least.ensures.next none)))

pub returns-in-None : goal.returns-in-None
returns-in-None g c none =
    let Ended : AnswerPart g.row.R.Denot → Type 0 = λ (part : AnswerPart g.row.R.Denot). part.next ≡ None in
    subst (All Ended) (take_all c.parts.part-index c.args.parts.now (omega (arith, c.parts-test.false))) (c.parts.invariant c.in-None.is)
