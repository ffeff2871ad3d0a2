use Rattle.std.proofs.Common.{◌+◌, map, sym, ap, ◌∙◌, subst}
use Rattle.std.proofs.lemmas.List.{get_or_default, map_push}
use Rattle.tq_agg.specs.declared.summands.Summand.TheVariants.{One}
use Rattle.tq_agg.specs.Totals.{AreWeights}
use Rattle.tq_agg.proofs.Weighing.{listed_more, AreListed}
use Rattle.tq_agg.proofs.summands.weights_of.Goals as goal

pub summands-preserved : goal.summands-preserved
summands-preserved c =
    let rows = c.args.rows.now.items in
    let summands = c.args.summands.now in
    let place = c.summands.summand-index in
    let list = c.in_ok-weights_to.field-0 in
    subst (λ lists. AreListed rows summands lists (place + 1)) (sym (ap (map (λ l. l.items)) c.in_ok-push.ensures.items ∙ map_push (λ l. l.items) c.summands.weights.items list))
    (listed_more rows summands (map (λ l. l.items) c.summands.weights.items) list.items place c.summands.invariant
    (λ d. subst (λ s. AreWeights rows s list.items) (get_or_default summands place One d c.summands-test.true) c.in_ok-weights_to.ensures))
