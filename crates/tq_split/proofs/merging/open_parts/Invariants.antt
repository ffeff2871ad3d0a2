-- The parts so far have the rows of the lists at their places.
use Rattle.std.proofs.Common.{◌≡◌, ◌<◌, ◌++◌, ℕ, List, get_or, length}
use Rattle.std.specs.Vec.Iter.{into_iter_items}
use Rattle.tq_base.specs.declared.fragment.Fragment.{Fragment}
use Rattle.tq_split.specs.declared.answer_part.AnswerPart.{AnswerPart}
use Rattle.tq_split.specs.AnswerTexts.{AreAnswers, HasRows}
use Rattle.tq_split.proofs.merging.open_parts.Given as goal

abbrev pub invariant-inputs : goal.invariant-inputs
invariant-inputs g l = record {
  reads : l.yielded ++ into_iter_items l.input-iterator ≡ l.fn.inputs.items;
  many : length l.parts.items ≡ length l.yielded;
  rest : (lists : List (List Fragment)) → AreAnswers g.R.Read.remaining l.layout l.fn.inputs.items lists
      → (k : ℕ) (d : AnswerPart g.row.R.Denot) (e : List Fragment) → k < length l.parts.items → HasRows g.R.Read.remaining l.layout (get_or l.parts.items k d) (get_or lists k e);
}
