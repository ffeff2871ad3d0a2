-- What was made so far.
use Rattle.std.proofs.Common.{◌≡◌, ◌++◌, map}
use Rattle.std.specs.Vec.Iter.{into_iter_items}
use Rattle.tq_exec.specs.declared.answer_parts.AnswerPart.{AnswerPart}
use Rattle.tq_exec.proofs.answer_parts.made_of.Given as goal

abbrev pub invariant-each : goal.invariant-each
invariant-each l = record {
  reads : l.yielded ++ into_iter_items l.part-iterator ≡ l.fn.parts.items;
  made : l.made.items ≡ map (λ (part : AnswerPart). part.made) l.yielded;
}
