use Rattle.std.proofs.Common.{◌∙◌, sym}
use Rattle.tq_base.proofs.NameLemmas.{shown-folded}
use Rattle.tq_base.proofs.name.fold_name.Goals as goal

pub invariant_of-result : goal.invariant_of-result
invariant_of-result c = rw (c.in_ok-bytes.ensures.ok) (shown-folded c.args.bytes.now (sym c.is_name.ensures ∙ c.if-not-is_name.false))
