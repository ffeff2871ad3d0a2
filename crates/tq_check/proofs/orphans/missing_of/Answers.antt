use Rattle.std.proofs.Common.{◌∙◌}
use Rattle.tq_base.specs.SortInputs.{state_of}
use Rattle.tq_check.specs.OrphanPasses.{missing_case}
use Rattle.tq_check.proofs.OrphanLemmas.{missing_is}
use Rattle.tq_check.proofs.orphans.missing_of.Goals as goal

pub returns : goal.returns
returns c =
    let s = state_of c.args.sort_input.now in
    let key = c.args.key.now in
    c.missing_case.ensures
    ∙ (λ i. missing_case (c.cover_at-first.ensures i) (c.cover_at-next.ensures i) key.start c.args.end)
    ∙ missing_is s key c.args.covers.now c.requires.covers c.requires.key c.count_passed-place.result c.args.end c.requires.some c.count_passed-place.ensures.point
