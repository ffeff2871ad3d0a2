-- The sorted keys of the rows of a parent. This project's own.
use Rattle.std.specs.Prelude.{List, All, IsPermutation, IsSorted, map}
use Rattle.tq_base.specs.Keys.{held, held_on, key_cmp, IsSortKey, SortInputState}
use Rattle.tq_base.specs.declared.sort_input.SortKey.{SortKey}
use Rattle.tq_base.specs.declared.sort_input.Side.TheVariants as side

-- the keys of all rows on the right side, ordered by their values and then by their starts
pub record AreParentKeys (s : SortInputState) (keys : List SortKey) : Type 0 where
  pub each : All (IsSortKey s) keys
  pub sorted : IsSorted (key_cmp s) keys
  pub permuted : IsPermutation (held_on side.Right s.right) (map (held s) keys)
