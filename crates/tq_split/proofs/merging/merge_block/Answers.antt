use Rattle.std.proofs.Common.{◌∙◌, arith, length, map, subst, sym}
use Rattle.tq_split.specs.Merges.{AreMergedSoFar, after_run}
use Rattle.tq_split.proofs.MergeLemmas.{merged_then, none_merged, run_merged}
use Rattle.tq_split.proofs.merging.merge_block.Goals as goal

pub runs-init : goal.runs-init
runs-init g c =
    let combine = c.args.layout.now.combine in
    let width = length c.args.layout.now.columns.items in
    record {
      width = omega (arith, c.new-out.ensures.width, c.len.ensures, c.args.layout.now.columns.ok.0);
      rest = λ lists has. (lists, has, λ ordered. subst (AreMergedSoFar combine width lists lists) (sym c.new-out.ensures.rows) (none_merged combine width lists ordered));
    }

pub returns-then-not-branch : goal.returns-then-not-branch
returns-then-not-branch g c lists has =
    let combine = c.args.layout.now.combine in
    let width = length c.args.layout.now.columns.items in
    let (left, has_left, merged) = c.runs.invariant.rest lists has in
    let last = rw c.if-not-branch.true at (c.in_ok-merge_run.ensures.merged left c.runs.invariant.width has_left) in
    record {
      left = left;
      has = λ e. cc e;
      merged = λ ordered. subst (AreMergedSoFar combine width lists left) (sym last.1) (merged ordered);
      ended = λ e. last.0;
    }

pub runs-preserved : goal.runs-preserved
runs-preserved g c =
    let combine = c.args.layout.now.combine in
    let width = length c.args.layout.now.columns.items in
    record {
      width = c.in_ok-merge_run.ensures.width ∙ c.runs.invariant.width;
      rest = λ lists has.
          let (left, has_left, merged) = c.runs.invariant.rest lists has in
          let one = rw c.if-not-branch.false at (c.in_ok-merge_run.ensures.merged left c.runs.invariant.width has_left) in
          let after = map (after_run combine one.values) left in (
            after,
            one.left,
            λ ordered.
                let so_far = merged ordered in
                subst (AreMergedSoFar combine width lists after) (sym one.added)
                (merged_then combine width lists left after c.runs.out.items one.layers so_far (run_merged combine width one.values left one.layers so_far.ordered one.after one.are)),
          );
    }

pub returns : goal.returns
returns g c lists has =
    let (left, has_left, merged) = c.runs.invariant.rest lists has in
    record { left = left; has = λ e. has_left; merged = merged; ended = λ e. cc e }
