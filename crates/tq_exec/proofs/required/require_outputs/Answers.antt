use Rattle.tq_event.specs.Projection.{is_wanted}
use Rattle.std.proofs.Common.{arith, subst, take}
use Rattle.std.specs.Prelude.{All}
use Rattle.std.proofs.lemmas.List.{take_all}
use Rattle.std.proofs.lemmas.List.Elements.{All-more, All-weaker}
use Rattle.tq_plan.specs.declared.plans.Output.{Output}
use Rattle.tq_plan.specs.declared.plans.Output.TheVariants.{Column}
use Rattle.tq_exec.specs.Required.{IsMadeOf}
use Rattle.tq_exec.proofs.ColumnUseLemmas.{output_more}
use Rattle.tq_exec.proofs.required.require_outputs.Goals as goal

pub outputs-preserved : goal.outputs-preserved
outputs-preserved c =
    let outputs = c.args.outputs.now in
    let place = c.outputs.output-index in
    let before = c.outputs.places.items in
    let after = c.require_output.new.places.items in
    record {
      required =
          All-more (IsMadeOf (is_wanted after)) outputs place (Column 0) (omega (arith, c.outputs-test.true))
          (All-weaker (IsMadeOf (is_wanted before)) (IsMadeOf (is_wanted after)) (λ (output : Output). output_more output before after c.require_output.ensures.more) (take place outputs) c.outputs.invariant.required)
          c.require_output.ensures.required;
      more = λ k is. c.require_output.ensures.more k (c.outputs.invariant.more k is);
    }

pub returns-clause-required : goal.returns-clause-required
returns-clause-required c =
    subst (All (IsMadeOf (is_wanted c.outputs.places.items))) (take_all c.outputs.output-index c.args.outputs.now (omega (arith, c.outputs-test.false))) c.outputs.invariant.required
