-- The parts so far have the rows after the run, the others all of theirs; the group has the runs so far.
use Rattle.std.proofs.Common.{◌≡◌, ◌<◌, ◌≤◌, ◌++◌, ℕ, List, get_or, length, take}
use Rattle.tq_base.specs.declared.fragment.Fragment.{Fragment}
use Rattle.tq_split.specs.declared.answer_part.AnswerPart.{AnswerPart}
use Rattle.tq_split.specs.Adding.{run_values}
use Rattle.tq_split.specs.AnswerTexts.{HasRows, HaveRows}
use Rattle.tq_split.specs.Merges.{AreAfter, after_run, runs_of}
use Rattle.tq_split.proofs.merging.take_runs.Given as goal

abbrev pub invariant-parts : goal.invariant-parts
invariant-parts g l = record {
  width : l.group.width ≡ l.fn.group.width;
  many : length l.parts ≡ length l.initial.parts;
  rest : (lists : List (List Fragment)) → HaveRows g.R.Read.remaining l.layout l.initial.parts lists
      → ((k : ℕ) (d : AnswerPart g.row.R.Denot) (e : List Fragment) → k < l.part-index → HasRows g.R.Read.remaining l.layout (get_or l.parts k d) (after_run l.layout.combine (run_values l.layout.combine l.run.row.values) (get_or lists k e)))
      × ((k : ℕ) (d : AnswerPart g.row.R.Denot) (e : List Fragment) → l.part-index ≤ k → k < length l.parts → HasRows g.R.Read.remaining l.layout (get_or l.parts k d) (get_or lists k e))
      × (l.group.items ≡ l.fn.group.items ++ runs_of l.layout.combine (run_values l.layout.combine l.run.row.values) (take l.part-index lists))
      × AreAfter l.layout.combine (run_values l.layout.combine l.run.row.values) (take l.part-index lists);
}
