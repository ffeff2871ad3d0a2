use Rattle.std.proofs.Common.{◌++◌, [], arith, length, length-append, refl, subst, sym}
use Rattle.std.proofs.KnownBytes.{Appends-trans}
use Rattle.std.proofs.lemmas.Grind.{flat_map-append}
use Rattle.std.specs.Io.KnownBytes.{Appends}
use Rattle.csv.proofs.WriteFacts.{appends-none}
use Rattle.csv.specs.Writing.{row_text}
use Rattle.tq_base.specs.declared.fragment.Fragment.{Fragment}
use Rattle.tq_table.specs.Text.{answer_format, row_fields}
use Rattle.tq_split.proofs.MergeLemmas.{all_merged, merged_then, none_merged}
use Rattle.tq_split.proofs.merging.merge_parts.Goals as goal

pub merging-init : goal.merging-init
merging-init g c = record {
  done = [];
  written = appends-none _;
  counted = refl;
  rest = λ lists has sorted. (lists, has, none_merged c.args.layout.now.combine (length c.args.layout.now.columns.items) lists sorted);
}

pub merging-preserved : goal.merging-preserved
merging-preserved g c =
    let i = c.merging.invariant in
    let form = c.args.layout.now.form in
    let block = c.in_ok-block.block.items in
    record {
      done = i.done ++ block;
      written = subst (Appends _ _) (sym (flat_map-append (λ (row : Fragment). row_text answer_format (row_fields form row)) i.done block)) (Appends-trans _ _ _ _ _ i.written c.in_ok-put_rows.ensures);
      counted = omega (arith, c.in-Some.ensures.1, c.len.ensures.len, i.counted, length-append i.done block);
      rest = λ lists has sorted.
          let (left, has_left, so_far) = i.rest lists has sorted in
          let one = c.in_ok-block.ensures left has_left in
          (one.left, one.has c.if-not-more.false, merged_then c.args.layout.now.combine (length c.args.layout.now.columns.items) lists left one.left i.done block so_far (one.merged so_far.ordered));
    }

pub returns-then-not-more : goal.returns-then-not-more
returns-then-not-more g c lists has sorted =
    let i = c.merging.invariant in
    let form = c.args.layout.now.form in
    let block = c.in_ok-block.block.items in
    let (left, has_left, so_far) = i.rest lists has sorted in
    let one = c.in_ok-block.ensures left has_left in
    record {
      rows = i.done ++ block;
      layers = all_merged c.args.layout.now.combine (length c.args.layout.now.columns.items) lists one.left (i.done ++ block) (merged_then c.args.layout.now.combine (length c.args.layout.now.columns.items) lists left one.left i.done block so_far (one.merged so_far.ordered)) (one.ended c.if-not-more.true);
      written = subst (Appends _ _) (sym (flat_map-append (λ (row : Fragment). row_text answer_format (row_fields form row)) i.done block)) (Appends-trans _ _ _ _ _ i.written c.in_ok-put_rows.ensures);
      counted = omega (arith, c.in-Some.ensures.1, c.len.ensures.len, i.counted, length-append i.done block);
    }
