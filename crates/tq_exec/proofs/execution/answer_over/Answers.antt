use Rattle.std.proofs.Common.{◌∙◌, refl}
use Rattle.tq_base.specs.Layers.{IsLayers}
use Rattle.tq_exec.specs.Answers.{times_at}
use Rattle.tq_exec.proofs.execution.answer_over.Goals as goal

pub execute-requires : goal.execute-requires
execute-requires g c κs = ((refl, tt), c.queries_are_valid.ensures (g.S.Snapshot.catalogue c.args.snapshot.now) c.args.plan.now c.requires)

pub returns : goal.returns
returns g c =
    let rows = c.in_ok-rows-2.rows in
    let layers : IsLayers (times_at (g.S.Snapshot.valid c.args.snapshot.now) c.args.plan.now) rows = record {
      ordered = c.in_ok-rows-2.ensures.layers.ordered;
      coalesced = c.in_ok-rows-2.ensures.layers.coalesced;
      counted = λ v t. c.in_ok-rows-2.ensures.layers.counted v t ∙ c.in_ok-rows.ensures.rows v t;
    } in
    record {
      columns = c.of.ensures ∙ c.in_ok-copy_names.ensures ∙ c.columns.ensures;
      layers = layers;
    }
