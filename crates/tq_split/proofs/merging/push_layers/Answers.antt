use Rattle.std.proofs.Common.{◌++◌, ◌∙◌, List, ap, sym}
use Rattle.tq_base.specs.declared.fragment.Fragment.{Fragment}
use Rattle.tq_base.specs.Keys.{no_row}
use Rattle.tq_split.proofs.MergeLemmas.{single, single_layers}
use Rattle.tq_split.proofs.merging.push_layers.Goals as goal

pub returns-then-len-eq1-clause-pushed : goal.returns-then-len-eq1-clause-pushed
returns-then-len-eq1-clause-pushed c =
    let rows = c.args.group.items in
    let one = sym c.len.ensures.len ∙ c.if-len-eq1.true in (
      rows,
      single_layers rows one,
      c.in_ok-push_row.ensures.pushed no_row ∙ ap (λ (l : List Fragment). c.args.out.now.items ++ l) (sym (single rows no_row one)),
    )
