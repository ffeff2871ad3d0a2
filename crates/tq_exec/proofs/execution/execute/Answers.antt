use Rattle.std.proofs.Common.{◌-◌, ◌∙◌, refl}
use Rattle.std.proofs.lemmas.Result.{IfOk-weaker}
use Rattle.tq_base.specs.Fragments.{copies}
use Rattle.tq_condition.specs.Ordinary.{HasInside, IsEmptyOutside}
use Rattle.tq_exec.proofs.PlaceLemmas.{if_ok_both, left_alone, left_less_right}
use Rattle.tq_exec.proofs.execution.execute.Goals as goal

pub query_rows-requires : goal.query_rows-requires
query_rows-requires g c κs = ((refl, tt), (c.fit.ensures, c.requires.0))

pub query_rows-requires-in-Some : goal.query_rows-requires-in-Some
query_rows-requires-in-Some g c κs = ((refl, tt), (c.fit.ensures, c.requires.1 c.in-Some.right c.in-Some.is))

pub returns-in-None : goal.returns-in-None
returns-in-None g c = record { width = c.in_ok-left.ensures.width; rows = left_alone (g.S.Snapshot.valid c.args.snapshot.now) c.args.plan.now c.args.period.now c.in_ok-left.left.items c.in-None.is c.in_ok-left.ensures.inside c.in_ok-left.ensures.outside }

pub returns-in_ok-right-in-Some : goal.returns-in_ok-right-in-Some
returns-in_ok-right-in-Some g c = record {
  width = IfOk-weaker c.except_all-rows.result _ _ (λ out same. same ∙ c.in_ok-left.ensures.width) c.except_all-rows.ensures.width;
  rows = λ v t.
      IfOk-weaker c.except_all-rows.result
      (λ out. HasInside c.args.period.now out.items (λ t v. copies c.in_ok-left.left.items v t - copies c.in_ok-right-in-Some.right.items v t) × IsEmptyOutside c.args.period.now out.items)
      _
      (λ out both. left_less_right (g.S.Snapshot.valid c.args.snapshot.now) c.args.plan.now c.args.period.now c.in-Some.right c.in_ok-left.left.items c.in_ok-right-in-Some.right.items out.items c.in-Some.is
      c.in_ok-left.ensures.inside c.in_ok-right-in-Some.ensures.inside
      both.0
      both.1 v t)
      (if_ok_both c.except_all-rows.result _ _ c.except_all-rows.ensures.inside c.except_all-rows.ensures.outside);
}
