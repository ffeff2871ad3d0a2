-- The rows so far were written, and the others are left.
use Rattle.std.proofs.Common.{◌≡◌, List, length}
use Rattle.std.specs.Prelude.{All}
use Rattle.std.specs.Io.KnownBytes.{Appends}
use Rattle.tq_base.specs.declared.fragment.Fragment.{Fragment}
use Rattle.tq_table.specs.Text.{rows_text}
use Rattle.tq_split.specs.AnswerTexts.{HaveRows}
use Rattle.tq_split.specs.Merges.{AreInOrder, AreMergedSoFar}
use Rattle.tq_split.proofs.merging.merge_parts.Given as goal

abbrev pub invariant-merging : goal.invariant-merging
invariant-merging g l = record {
  done : List Fragment;
  written : Appends (g.W.Write.contents l.fn.sink.writer) (g.W.Write.contents l.sink.writer) (rows_text l.layout.form done);
  counted : l.rows ≡ length done;
  rest : (lists : List (List Fragment)) → HaveRows g.R.Read.remaining l.layout l.fn.parts lists → All (AreInOrder (length l.layout.columns.items)) lists
      → (left : List (List Fragment)) × HaveRows g.R.Read.remaining l.layout l.parts left
      × AreMergedSoFar l.layout.combine (length l.layout.columns.items) lists left done;
}
