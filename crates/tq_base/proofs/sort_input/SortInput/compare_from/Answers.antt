use Rattle.std.proofs.Common.{◌≤◌, length, arith}
use Rattle.tq_base.specs.declared.sort_input.Side.{Side}
use Rattle.tq_base.specs.declared.sort_input.Side.TheVariants.{Left, Right}
use Rattle.tq_base.specs.SortInputs.{state_of}
use Rattle.tq_base.specs.Keys.{columns_on}
use Rattle.tq_base.proofs.SortKeyLemmas.{compared_none}
use Rattle.tq_base.proofs.sort_input.SortInput.compare_from.Goals as goal

pub returns-then-first-self : goal.returns-then-first-self
returns-then-first-self c = compared_none (state_of c.args.self.now) c.args.one.now c.args.other.now c.args.first past
  where
    past : (of : Side) → length (columns_on (state_of c.args.self.now) of) ≤ c.args.first
    past Left = c.if-first-self.true
    past Right = omega (arith, c.if-first-self.true, c.args.self.now.same)
