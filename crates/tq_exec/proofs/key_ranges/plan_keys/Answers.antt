use Rattle.std.proofs.Common.{◌≡◌, ◌≤◌, ℕ, List, Option, Some, get_or, subst, sym}
use Rattle.std.specs.Prelude.{ℤ, Err, IfOk, IfSome, Ok, Result}
use Rattle.std.specs.Global.{Vec}
use Rattle.tq_base.specs.declared.key_range.KeyRange.{KeyRange}
use Rattle.tq_plan.specs.declared.plans.Plan.{Plan}
use Rattle.tq_plan.specs.declared.plans.QueryPlan.{QueryPlan}
use Rattle.tq_plan.specs.KeyRanges.{key_at}
use Rattle.tq_exec.specs.Reads.{HasPlanKeys, HasQueryKeys, ranges_with}
use Rattle.tq_exec.proofs.key_ranges.plan_keys.Goals as goal

same_some : {X : Type 0} (P : X → Type 0) (o : Option X) (a b : X) → o ≡ Some a → o ≡ Some b → P a → P b
same_some P o a b is_a is_b p = subst (λ z. IfSome z P) is_b (subst (λ z. IfSome z P) (sym is_a) p)

-- ranges with the keys of the left query, and then with those of the right one
both_needed : {E : Type 0} (table : ℕ) (plan : Plan) (right : QueryPlan) (left : List KeyRange) (r : Result (Vec KeyRange) E) → plan.right ≡ Some right → HasQueryKeys table left plan.left
    → ((key : ℤ) → 1 ≤ ranges_with left key → IfOk r (λ more. 1 ≤ ranges_with more.items key)) → IfOk r (λ more. HasQueryKeys table more.items right) → IfOk r (λ more. HasPlanKeys table more.items plan)
both_needed table plan right left (Ok more) is mine kept added = (
  λ k d less here row has passes. kept (key_at (get_or plan.left.sources k d) row) (mine k d less here row has passes),
  λ query other. same_some (HasQueryKeys table more.items) plan.right right query is other added,
)
both_needed table plan right left (Err e) is mine kept added = tt

pub returns-in-Some-clause-needed : goal.returns-in-Some-clause-needed
returns-in-Some-clause-needed c =
    both_needed c.args.table c.args.plan.now c.in-Some.right c.in_ok-left.left.items c.add_query-in-Some.result c.in-Some.is c.in_ok-left.ensures.added c.add_query-in-Some.ensures.kept c.add_query-in-Some.ensures.added
