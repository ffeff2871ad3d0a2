-- The text so far was written, and what is shown of the rest is still to be written.
use Rattle.std.proofs.Common.{◌≡◌, ℕ, List, ◌++◌, drop}
use Rattle.std.specs.Io.KnownBytes.{Appends}
use Rattle.tq_shown.specs.Printable.{printable_after, printable_text}
use Rattle.tq_shown.proofs.write_printable.Given as goal

abbrev pub invariant-bytes : goal.invariant-bytes
invariant-bytes g l = (sent : List ℕ) × Appends (g.W.Write.contents l.initial.writer) (g.W.Write.contents l.writer) sent
    × (sent ++ printable_after l.hidden (drop l.place l.fn.bytes) ≡ printable_text l.fn.bytes)
