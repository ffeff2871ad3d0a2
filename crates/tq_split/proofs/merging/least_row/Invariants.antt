-- Without a least row so far, no part so far has a next row.
use Rattle.std.proofs.Common.{◌≡◌, None, take}
use Rattle.std.specs.Prelude.{All}
use Rattle.tq_split.specs.declared.answer_part.AnswerPart.{AnswerPart}
use Rattle.tq_split.proofs.merging.least_row.Given as goal

abbrev pub invariant-parts : goal.invariant-parts
invariant-parts g l = l.least ≡ None → All (λ (part : AnswerPart g.row.R.Denot). part.next ≡ None) (take l.part-index l.parts)
