use Rattle.std.proofs.Common.{arith, pos, w64, ◌∙◌, FitsSigned}
use Rattle.std.proofs.lemmas.Int.{to_z-of_z}
use Rattle.jiff.proofs.SpanFacts.{date_add-days, can_add-days}
use Rattle.jiff_core.proofs.SignedLemmas.{signed_arith}
use Rattle.tq_base.proofs.dates.date_after_first.Goals as goal

pub unreachable-requires : goal.unreachable-requires
unreachable-requires c =
    let fits : FitsSigned w64 (pos c.args.days) = omega (arith, signed_arith) in
    let only = simp (c.from.ensures, to_z-of_z w64 (pos c.args.days) fits) at c.days.ensures in
    let can = can_add-days c.first_date-first.result (pos c.args.days) c.days.result only in
    let low = c.first_date-first.ensures in
    let ok = c.in-Err.ensures.succeeds.1 (can.1 (omega (arith, signed_arith), omega (arith, signed_arith))) in
    cc

pub returns : goal.returns
returns c =
    let fits : FitsSigned w64 (pos c.args.days) = omega (arith, signed_arith) in
    let only = simp (c.from.ensures, to_z-of_z w64 (pos c.args.days) fits) at c.days.ensures in
    let moved = c.in-Ok.ensures.value ∙ date_add-days c.first_date-first.result (pos c.args.days) c.days.result only in
    omega (arith, signed_arith, c.first_date-first.ensures)
