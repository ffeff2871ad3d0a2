use Rattle.std.proofs.Common.{◌∙◌, ap, length, subst, sym}
use Rattle.std.specs.Prelude.{All}
use Rattle.tq_base.specs.Layers.{IsLayers}
use Rattle.tq_base.specs.RowLists.{RowList}
use Rattle.tq_event.specs.Tables.{lists_of}
use Rattle.tq_exec.specs.Answers.{in_tables, times_at}
use Rattle.tq_table.specs.Merging.{all_rows, AreOfWidth}
use Rattle.tq_exec.proofs.over_tables.owned_answer.Goals as goal

pub chained-requires : goal.chained-requires
chained-requires g c =
    subst (λ outputs. All (AreOfWidth (length outputs)) c.in_ok-lists.lists.items) (sym c.get.ensures)
    (subst (All (AreOfWidth (length c.args.plan.now.left.outputs))) (sym c.in_ok-lists.ensures) c.in_ok-made.ensures.are.1)

pub returns : goal.returns
returns g c =
    let plan = c.args.plan.now in
    let have = c.in_ok-made.ensures in
    let times = times_at (in_tables (lists_of c.args.all.tables.now)) plan in
    let rows = c.of-2.ensures ∙ ap (λ (r : RowList). r.items) c.in_ok-owned.ensures ∙ c.in_ok-rows.ensures.rows ∙ ap all_rows c.in_ok-lists.ensures ∙ have.are.0 in
    record {
      columns = c.of.ensures ∙ c.in_ok-copy_names.ensures ∙ c.columns.ensures;
      layers = subst (IsLayers times) (sym rows) have.layers;
    }
