-- The rows that were moved, and what is still to move of the rows that are left, are what is to move of all.
use Rattle.std.proofs.Common.{◌≡◌, ◌++◌, List}
use Rattle.tq_base.specs.declared.fragment.Fragment.{Fragment}
use Rattle.tq_split.specs.Adding.{run_values}
use Rattle.tq_split.specs.AnswerTexts.{HasRows}
use Rattle.tq_split.specs.Merges.{after_run, run_of}
use Rattle.tq_split.proofs.merging.take_run.Given as goal

abbrev pub invariant-rows : goal.invariant-rows
invariant-rows g l = record {
  width : l.group.width ≡ l.fn.group.width;
  rest : (rows : List Fragment) → HasRows g.R.Read.remaining l.layout l.fn.part rows
      → (left : List Fragment) × HasRows g.R.Read.remaining l.layout l.part left
      × (after_run l.layout.combine (run_values l.layout.combine l.run.row.values) rows ≡ after_run l.layout.combine (run_values l.layout.combine l.run.row.values) left)
      × (l.fn.group.items ++ run_of l.layout.combine (run_values l.layout.combine l.run.row.values) rows ≡ l.group.items ++ run_of l.layout.combine (run_values l.layout.combine l.run.row.values) left);
}
