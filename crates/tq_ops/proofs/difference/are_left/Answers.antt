use Rattle.std.proofs.Common.{◌≡◌, true, sym, ◌∙◌, subst}
use Rattle.std.specs.Prelude.{All}
use Rattle.std.proofs.lemmas.List.{take_all}
use Rattle.std.proofs.lemmas.List.Elements.{All-more}
use Rattle.tq_base.specs.declared.sort_input.SortKey.{SortKey}
use Rattle.tq_base.specs.declared.sort_input.RunStart.TheVariants.{Unknown}
use Rattle.tq_base.specs.declared.sort_input.Side.TheVariants.{Left}
use Rattle.tq_base.specs.Keys.{is_same_side}
use Rattle.tq_ops.proofs.difference.are_left.Goals as goal

pub keys-preserved : goal.keys-preserved
keys-preserved c =
    let no_key : SortKey = record { prefix = 0; start = 0; row = 0; side = Left; run_start = Unknown } in
    All-more (λ (k : SortKey). is_same_side Left k.side ≡ true) c.args.group.now c.keys.key-index no_key c.keys-test.true c.keys.invariant (sym c.is_left.ensures ∙ c.if-not-is_left.false)

pub returns : goal.returns
returns c told =
    subst (All (λ (k : SortKey). is_same_side Left k.side ≡ true)) (take_all c.keys.key-index c.args.group.now c.keys-test.false) c.keys.invariant
