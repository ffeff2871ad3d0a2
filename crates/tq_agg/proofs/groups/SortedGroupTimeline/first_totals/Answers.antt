use Rattle.std.proofs.Common.{◌++◌, pos, [], ◌∷◌, sym, ap, ◌∙◌}
use Rattle.std.proofs.lemmas.List.{map_more}
use Rattle.tq_agg.specs.declared.summands.Summand.{Summand}
use Rattle.tq_agg.specs.declared.summands.Summand.TheVariants.{One}
use Rattle.tq_agg.proofs.groups.SortedGroupTimeline.first_totals.Goals as goal

pub summands-preserved : goal.summands-preserved
summands-preserved c =
    c.in_ok-push.ensures.items ∙ ap (λ l. l ++ pos 0 ∷ []) c.summands.invariant
    ∙ sym (map_more (λ (s : Summand). pos 0) c.args.self.now.group.now.summands.now c.summands._summand-index One c.summands-test.true)
