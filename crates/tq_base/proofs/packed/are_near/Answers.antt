use Rattle.std.proofs.Common.{subst}
use Rattle.std.specs.Prelude.{All}
use Rattle.std.proofs.lemmas.Bool.{OnTrue_at}
use Rattle.std.proofs.lemmas.List.{take_all}
use Rattle.std.proofs.lemmas.List.Elements.{All-more}
use Rattle.tq_base.specs.Packed.{IsNear}
use Rattle.tq_base.proofs.packed.are_near.Goals as goal

pub keys-preserved : goal.keys-preserved
keys-preserved c = All-more (IsNear c.args.corner) c.args.keys.now c.keys.key-index _ c.keys-test.true c.keys.invariant (OnTrue_at c.if-not-is_near.false c.is_near.ensures)

pub returns : goal.returns
returns c = subst (All (IsNear c.args.corner)) (take_all c.keys.key-index c.args.keys.now c.keys-test.false) c.keys.invariant
