use Rattle.std.proofs.Common.{◌++◌, ◌∙◌, ap, refl}
use Rattle.std.proofs.lemmas.Result.{IfOk-weaker}
use Rattle.tq_table.specs.Text.{header_text}
use Rattle.tq_exec.proofs.answer_text.render.Goals as goal

pub execute_parallel-requires-clause-over : goal.execute_parallel-requires-clause-over
execute_parallel-requires-clause-over g c κs within = c.queries_are_valid.ensures c.args.all.catalogue.now c.args.plan.now c.requires.plan

pub returns : goal.returns
returns g c =
    let have = c.in_ok-made.ensures in
    IfOk-weaker c.with_header.result _ _
    (λ rendered made. record {
      table = record { columns = c.args.plan.now.columns; rows = have.rows };
      is = record { columns = refl; layers = have.layers };
      rows = made.1 ∙ have.are.1;
      text = made.0 ∙ (λ i. (c.in_ok-header.ensures ∙ ap header_text c.columns.ensures) i ++ have.are.0 i);
    })
    c.with_header.ensures
