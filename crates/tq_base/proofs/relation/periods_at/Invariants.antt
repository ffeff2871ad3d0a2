-- The periods of the numbers so far were chosen, and there is room for the others.
use Rattle.std.proofs.Common.{◌≡◌, ◌≤◌, ◌+◌, get_or, length, map, take}
use Rattle.std.specs.Prelude.{vec_capacity, vec_len}
use Rattle.tq_base.specs.Keys.{no_row}
use Rattle.tq_base.proofs.relation.periods_at.Given as goal

abbrev pub invariant-numbers : goal.invariant-numbers
invariant-numbers l = record {
  chosen : l.chosen.items ≡ map (λ number. get_or l.periods number no_row.period) (take l.number-index l.numbers);
  room : vec_len l.chosen + length l.numbers ≤ vec_capacity l.chosen + l.number-index;
}
