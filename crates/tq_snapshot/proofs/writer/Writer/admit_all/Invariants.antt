use Rattle.std.proofs.Common.{◌≡◌, ◌≤◌, length, All}
use Rattle.std.specs.Prelude.{vec_capacity, vec_len}
use Rattle.tq_snapshot.proofs.writer.Writer.admit_all.Given as goal

abbrev pub invariant-loop : goal.invariant-loop
invariant-loop g l = record {
  count : length l.readers.items ≡ l.counter;
  len : vec_len l.readers ≡ l.counter;
  room : l.count ≤ vec_capacity l.readers;
  observed : All (λ t. t ≡ l.self.published) l.readers.items;
}
