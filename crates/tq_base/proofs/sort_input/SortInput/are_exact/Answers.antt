use Rattle.std.proofs.Common.{◌≡◌, length, sym, ◌∙◌}
use Rattle.tq_base.specs.declared.sort_input.Side.{Side}
use Rattle.tq_base.specs.declared.sort_input.Side.TheVariants.{Left, Right}
use Rattle.tq_base.specs.SortInputs.{state_of}
use Rattle.tq_base.specs.Keys.{columns_on}
use Rattle.tq_base.proofs.SortKeyLemmas.{exact_one}
use Rattle.tq_base.proofs.sort_input.SortInput.are_exact.Goals as goal

pub returns-in-1 : goal.returns-in-1
returns-in-1 c = exact_one (state_of c.args.self.now) c.args.keys.now c.are_prefixes_exact.result one c.are_prefixes_exact.ensures
  where
    one : (of : Side) → length (columns_on (state_of c.args.self.now) of) ≡ 1
    one Left = c.in-1.is
    one Right = sym c.args.self.now.same ∙ c.in-1.is
