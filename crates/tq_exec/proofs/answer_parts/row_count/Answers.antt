use Rattle.std.proofs.Common.{◌∙◌, ap, arith, sum_by}
use Rattle.std.proofs.lemmas.List.{take_all}
use Rattle.std.proofs.lemmas.List.Sums.{sum_by_more}
use Rattle.tq_exec.specs.declared.answer_parts.Made.{Made}
use Rattle.tq_exec.proofs.answer_parts.row_count.Goals as goal

pub each-preserved : goal.each-preserved
each-preserved c =
    let all = c.args.made.now in
    let index = c.each.one-index in
    let own = c.one-item.result in
    let len = λ (one : Made). one.len in
    let step = sum_by_more len all index own c.each-test.true in
    let same = ap len c.one-item.is in
    record {
      count = omega (arith, step, same, c.each.invariant.count);
      small = omega (arith, c.each.invariant.small);
    }

pub returns : goal.returns
returns c = c.each.invariant.count ∙ ap (sum_by (λ (one : Made). one.len)) (take_all c.each.one-index c.args.made.now (omega (arith, c.each-test.false)))
