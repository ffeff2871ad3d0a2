-- The texts so far were appended, and the other sinks are as they were.
use Rattle.std.proofs.Common.{[], get_or}
use Rattle.tq_split.specs.TableParts.{texts_of}
use Rattle.tq_split.proofs.DivisionLemmas.{PutSoFar}
use Rattle.tq_split.proofs.dividing.put_texts.Given as goal

abbrev pub invariant-parts : goal.invariant-parts
invariant-parts g l = PutSoFar g.W.Write.contents l.fn.sinks l.sinks l.part (λ part. get_or (texts_of l.texts) part [])
