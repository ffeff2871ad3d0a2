-- The places so far and those that are left are those of the number.
use Rattle.std.proofs.Common.{◌≡◌, ◌<◌, ◌++◌, length}
use Rattle.std.specs.Prelude.{All}
use Rattle.memchr.specs.Find.{is_byte, places}
use Rattle.tq_exec.proofs.partition.numbers_in.Given as goal

abbrev pub invariant-found : goal.invariant-found
invariant-found l = record {
  left : All (λ k. k < length l.ids) l.place-iterator;
  numbers : l.numbers.items ++ l.place-iterator ≡ places (is_byte l.number) l.ids;
}
