-- The bytes that are no longer in `rest` were appended, and no call has failed.
use Rattle.std.proofs.Common.{◌≡◌, ℕ, List, ◌++◌, length}
use Rattle.std.specs.Io.KnownBytes.{Appends}
use Rattle.tq_table.proofs.sink.Sink.put.Given as goal

abbrev pub invariant-rest : goal.invariant-rest
invariant-rest g l = (sent : List ℕ) × (l.initial.rest ≡ sent ++ l.rest)
    × Appends (g.W.Write.contents l.initial.self.writer) (g.W.Write.contents l.self.writer) sent
    × (l.self.failed ≡ l.initial.self.failed)

abbrev pub decreases-rest : goal.decreases-rest
decreases-rest g l = length l.rest
