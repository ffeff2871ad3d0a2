use Rattle.std.proofs.Common.{◌∙◌, ap₂, arith, sym}
use Rattle.std.specs.Ordering.{nat_cmp}
use Rattle.tq_report.proofs.TimeLemmas.{rest_by_lengths}
use Rattle.tq_report.proofs.times.compare_values.Goals as goal

pub returns : goal.returns
returns c =
    let a = c.args.row.now in
    let b = c.args.other.now in
    c.cmp.ensures
    ∙ ap₂ nat_cmp c.len-3.ensures c.len-4.ensures
    ∙ sym (rest_by_lengths a b c.places.place (omega (arith, c.places.auto.place-end, c.min-place-end.ensures, c.len.ensures, c.len-2.ensures, c.places-test.false)) (omega (arith, c.places.auto.place-end, c.min-place-end.ensures, c.len.ensures, c.len-2.ensures)) (omega (arith, c.min-place-end.ensures, c.len.ensures, c.len-2.ensures, c.places-test.false)))
    ∙ sym c.places.invariant
