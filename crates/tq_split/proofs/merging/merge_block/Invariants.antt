-- The rows so far are merged, and the others are left.
use Rattle.std.proofs.Common.{◌≡◌, List, length}
use Rattle.std.specs.Prelude.{All}
use Rattle.tq_base.specs.declared.fragment.Fragment.{Fragment}
use Rattle.tq_split.specs.AnswerTexts.{HaveRows}
use Rattle.tq_split.specs.Merges.{AreInOrder, AreMergedSoFar}
use Rattle.tq_split.proofs.merging.merge_block.Given as goal

abbrev pub invariant-runs : goal.invariant-runs
invariant-runs g l = record {
  width : l.out.width ≡ length l.layout.columns.items;
  rest : (lists : List (List Fragment)) → HaveRows g.R.Read.remaining l.layout l.fn.parts lists
      → (left : List (List Fragment)) × HaveRows g.R.Read.remaining l.layout l.parts left
      × (All (AreInOrder (length l.layout.columns.items)) lists → AreMergedSoFar l.layout.combine (length l.layout.columns.items) lists left l.out.items);
}
