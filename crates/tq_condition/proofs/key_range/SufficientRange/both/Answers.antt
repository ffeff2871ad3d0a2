use Rattle.std.proofs.Common.{arith}
use Rattle.std.proofs.lemmas.Int.{ints, clamps}
use Rattle.tq_condition.proofs.key_range.SufficientRange.both.Goals as goal

pub returns-clause-one : goal.returns-clause-one
returns-clause-one c n is =
    let low = c.in_ok-common.ensures.low in
    let high = c.in_ok-common.ensures.high in
    let above = is.0 in
    let below = is.1 in
    (omega (arith, ints, clamps, low, above), omega (arith, ints, clamps, high, below))

pub returns-clause-other : goal.returns-clause-other
returns-clause-other c n is =
    let low = c.in_ok-common.ensures.low in
    let high = c.in_ok-common.ensures.high in
    let above = is.0 in
    let below = is.1 in
    (omega (arith, ints, clamps, low, above), omega (arith, ints, clamps, high, below))
