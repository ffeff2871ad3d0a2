use Rattle.std.proofs.Common.{◌≡◌, ◌∙◌, ◌+◌, ◌-◌, ◌≤◌, length, arith, ap, subst}
use Rattle.tq_scan.specs.Rows.{IsRowOf}
use Rattle.tq_scan.specs.Follows.{children_of}
use Rattle.tq_scan.proofs.Descent.{some_in_row, row_below, more_children, reads_more}
use Rattle.tq_scan.proofs.leaves.last_leaves.Goals as goal

pub loop-passed-preserved : goal.loop-passed-preserved
loop-passed-preserved c =
    let nodes = c.args.tree.now.nodes in
    let p = c.args.part.now in
    let tree = c.version-version.ensures.tree in
    let level = c.levels-levels.result - (c.loop-passed.passed + 1) in
    let some = c.loop-passed.invariant.some in
    let h = c.loop-passed-test.true in
    let up : c.levels-levels.result - c.loop-passed.passed ≡ level + 1 = omega arith in
    let row : IsRowOf nodes p (level + 1) c.loop-passed.row.items = subst (λ x. IsRowOf nodes p x c.loop-passed.row.items) up c.loop-passed.invariant.row in
    let items = c.in_ok-row.ensures.children ∙ ap (children_of p nodes) c.deref.ensures in
    let more : length c.loop-passed.row.items ≤ length c.in_ok-row.row.items = rw items (more_children _ nodes _ tree p c.requires level c.loop-passed.row.items row.each) in
    record {
      some = omega arith;
      row = rw items (row_below _ nodes _ tree p c.requires level c.loop-passed.row.items row);
      at_least = (let a = c.loop-passed.invariant.at_least in let b = c.in_ok-row.ensures.at_least in let l = ap length c.deref.ensures in let n = some_in_row nodes p (c.levels-levels.result - c.loop-passed.passed) c.loop-passed.row.items c.requires.wide c.loop-passed.invariant.row in omega arith);
      at_most = reads_more c.args.meter.now c.loop-passed.meter c.next_row.new.meter c.loop-passed.passed (length c.loop-passed.row.items) (length c.in_ok-row.row.items) some c.loop-passed.invariant.at_most
          (let b = c.in_ok-row.ensures.at_most in let l = ap length c.deref.ensures in omega arith) more;
    }
