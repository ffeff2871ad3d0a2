use Rattle.std.proofs.Common.{List, subst, sym}
use Rattle.tq_base.specs.SortInputs.{state_of}
use Rattle.tq_base.specs.declared.sort_input.SortKey.{SortKey}
use Rattle.tq_check.specs.Covers.{AreCovers}
use Rattle.tq_check.specs.declared.covers.Cover.{Cover}
use Rattle.tq_check.specs.CoverKeys.{AreParentKeys}
use Rattle.tq_check.proofs.CoverLemmas.{are_covers}
use Rattle.std.proofs.lemmas.Result.{IfOk-weaker}
use Rattle.tq_check.proofs.covers.covers_of.Goals as goal

pub returns : goal.returns
returns c =
    let s = state_of c.args.sort_input.now in
    IfOk-weaker c.joined.result _ _ (λ covers is. subst (λ (l : List Cover). AreCovers s l) (sym is) (are_covers s c.deref.result.now (subst (λ (l : List SortKey). AreParentKeys s l) (sym c.deref.ensures.value) c.in_ok-keys.ensures))) c.joined.ensures
