-- The bytes were appended to the sinks so far, and the other sinks are as they were.
use Rattle.tq_split.proofs.DivisionLemmas.{PutSoFar}
use Rattle.tq_split.proofs.dividing.put_all.Given as goal

abbrev pub invariant-parts : goal.invariant-parts
invariant-parts g l = PutSoFar g.W.Write.contents l.fn.sinks l.sinks l.part (λ part. l.bytes)
