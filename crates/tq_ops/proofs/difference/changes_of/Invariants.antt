-- Each row so far that overlaps the window has a change at its start and one at its end.
use Rattle.std.proofs.Common.{◌≡◌, ◌+◌, ℕ, map, take}
use Rattle.tq_base.specs.declared.sort_input.Side.TheVariants.{Left, Right}
use Rattle.tq_base.specs.Keys.{held}
use Rattle.tq_base.specs.SortInputs.{state_of}
use Rattle.tq_ops.specs.Differences.{falls_upto, rises_upto, side_held, IsEven}
use Rattle.tq_ops.proofs.difference.changes_of.Given as goal

abbrev pub invariant-rows : goal.invariant-rows
invariant-rows l = record {
  counted : (t : ℕ) → rises_upto l.changes.items t + side_held l.window Right (take l.place (map (held (state_of l.sort_input)) l.group)) t
      ≡ falls_upto l.changes.items t + side_held l.window Left (take l.place (map (held (state_of l.sort_input)) l.group)) t;
  even : IsEven l.changes.items;
}
