-- All rows so far are of the left.
use Rattle.std.proofs.Common.{◌≡◌, true, take}
use Rattle.std.specs.Prelude.{All}
use Rattle.tq_base.specs.declared.sort_input.Side.TheVariants.{Left}
use Rattle.tq_base.specs.Keys.{is_same_side}
use Rattle.tq_ops.proofs.difference.are_left.Given as goal

abbrev pub invariant-keys : goal.invariant-keys
invariant-keys l = All (λ k. is_same_side Left k.side ≡ true) (take l.key-index l.group)
