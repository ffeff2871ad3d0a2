use Rattle.std.proofs.Common.{◌<◌, ◌^◌, arith}
use Rattle.std.proofs.Math.Nat.{one-le-pow}
use Rattle.tq_table.proofs.amounts.split.Goals as goal

pub nonzero_div-result : goal.nonzero_div-result
nonzero_div-result c =
    let some : 0 < 10 ^ c.args.places = omega (arith, one-le-pow c.args.places 10 (omega arith)) in
    omega (arith, some, c.in-Some.ensures)

pub nonzero_rem-result : goal.nonzero_rem-result
nonzero_rem-result c =
    let some : 0 < 10 ^ c.args.places = omega (arith, one-le-pow c.args.places 10 (omega arith)) in
    omega (arith, some, c.in-Some.ensures)
