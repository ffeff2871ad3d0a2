use Rattle.std.proofs.Common.{map, subst}
use Rattle.std.specs.Prelude.{IsPermutation}
use Rattle.tq_base.specs.SortInputs.{state_of}
use Rattle.tq_base.specs.Keys.{held}
use Rattle.tq_ops.proofs.difference.sorted_keys.Goals as goal

pub returns : goal.returns
returns c = record {
  rows = subst (λ l. IsPermutation l (map (held (state_of c.args.sort_input.now)) c.sort.new.keys.items)) c.in_ok-keys.ensures.rows c.in_ok-sort.ensures.rows;
  each = c.in_ok-sort.ensures.keys;
  run_starts = c.in_ok-sort.ensures.run_starts;
  rising = c.in_ok-sort.ensures.rises;
}
