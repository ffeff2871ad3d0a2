use Rattle.std.proofs.Common.{◌≡◌, false, sym, ◌∙◌, subst}
use Rattle.std.specs.Prelude.{All}
use Rattle.std.proofs.lemmas.List.{take_all}
use Rattle.std.proofs.lemmas.List.Elements.{All-more}
use Rattle.tq_base.specs.declared.sort_input.SortKey.{SortKey}
use Rattle.tq_base.specs.declared.sort_input.RunStart.TheVariants.{Unknown}
use Rattle.tq_base.specs.declared.sort_input.Side.TheVariants.{Left}
use Rattle.tq_base.specs.Keys.{is_same_side}
use Rattle.tq_ops.proofs.difference.first_left.Goals as goal

pub keys-preserved : goal.keys-preserved
keys-preserved c =
    let no_key : SortKey = record { prefix = 0; start = 0; row = 0; side = Left; run_start = Unknown } in
    All-more (λ (k : SortKey). is_same_side Left k.side ≡ false) c.args.group.now c.keys.key-index no_key c.keys-test.true c.keys.invariant (sym c.is_left.ensures ∙ c.if-is_left.false)

pub returns-clause-none : goal.returns-clause-none
returns-clause-none c told =
    subst (All (λ (k : SortKey). is_same_side Left k.side ≡ false)) (take_all c.keys.key-index c.args.group.now c.keys-test.false) c.keys.invariant
