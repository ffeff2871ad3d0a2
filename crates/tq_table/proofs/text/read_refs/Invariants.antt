-- The values so far were read, and there is room for the others.
use Rattle.std.proofs.Common.{◌≡◌, ◌≤◌, ◌+◌, length, map, take}
use Rattle.std.specs.Prelude.{vec_capacity, vec_len}
use Rattle.tq_base.specs.Values.{value_ref}
use Rattle.tq_table.specs.Writing.{borrowed}
use Rattle.tq_table.proofs.text.read_refs.Given as goal

abbrev pub invariant-values : goal.invariant-values
invariant-values l = record {
  seen : map value_ref l.seen.items ≡ borrowed (take l.value-index l.borrows);
  room : vec_len l.seen + length l.borrows ≤ vec_capacity l.seen + l.value-index;
}
