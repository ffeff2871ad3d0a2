-- The keys of those rows so far that overlap the window were added, and there is room for the others.
use Rattle.std.proofs.Common.{◌≡◌, ◌≤◌, ◌+◌, ◌++◌, map, take}
use Rattle.std.specs.Option.{option_copied}
use Rattle.std.specs.Prelude.{vec_capacity, vec_len}
use Rattle.std.specs.List.{All}
use Rattle.tq_base.specs.SortInputs.{state_of}
use Rattle.tq_base.specs.Keys.{held, held_on, rows_on, within, IsFresh}
use Rattle.tq_base.proofs.sort_input.SortInput.add_keys.Given as goal

abbrev pub invariant-rows : goal.invariant-rows
invariant-rows l = record {
  rows : map (held (state_of l.self)) l.keys.items
      ≡ map (held (state_of l.self)) l.fn.keys.items ++ held_on l.side (within (option_copied l.window) (take l.row (rows_on (state_of l.self) l.side)));
  are : All (IsFresh (state_of l.self)) l.fn.keys.items → All (IsFresh (state_of l.self)) l.keys.items;
  room : vec_len l.keys + l.len ≤ vec_capacity l.keys + l.row;
}
