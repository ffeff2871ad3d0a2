use Rattle.std.proofs.Common.{◌*◌, List, arith, map, refl, subst, sym}
use Rattle.tq_base.specs.Fragments.{copies}
use Rattle.tq_base.specs.Ranges.{AreAscending}
use Rattle.tq_exec.specs.AnswerParts.{HaveAnswer}
use Rattle.tq_exec.specs.declared.answer_parts.AnswerPart.{AnswerPart}
use Rattle.tq_exec.proofs.RangeLemmas.{have_layers}
use Rattle.tq_exec.proofs.output_ranges.parts_by_range.Goals as goal

pub returns : goal.returns
returns g c =
    let rows = c.args.rows.now in
    let ranges = c.in_ok-ranges.ranges.items in
    subst (HaveAnswer c.args.wanted rows.width (copies rows.items)) (sym c.in_ok-made_of.ensures)
    (have_layers c.args.wanted rows.width rows.items c.deref.result.now (4 * c.args.workers.now.count) ranges (omega (arith, c.args.workers.now.some)) c.in_ok-ranges.ensures
    (subst (λ (l : List AnswerPart). AreAscending (map (λ (r : AnswerPart). r.rows) l)) c.deref-2.ensures.value (c.if-not-are_ascending.ensures refl)))
