-- All rows so far are of the right.
use Rattle.std.proofs.Common.{◌≡◌, false, take}
use Rattle.std.specs.Prelude.{All}
use Rattle.tq_base.specs.declared.sort_input.Side.TheVariants.{Left}
use Rattle.tq_base.specs.Keys.{is_same_side}
use Rattle.tq_ops.proofs.difference.first_left.Given as goal

abbrev pub invariant-keys : goal.invariant-keys
invariant-keys l = All (λ k. is_same_side Left k.side ≡ false) (take l.key-index l.group)
