use Rattle.std.proofs.Common.{◌∙◌, ap, length, subst, sym}
use Rattle.std.specs.Prelude.{All}
use Rattle.std.proofs.lemmas.Result.{IfOk-weaker}
use Rattle.tq_base.specs.Fragments.{copies}
use Rattle.tq_base.specs.RowLists.{RowList}
use Rattle.tq_table.specs.Merging.{all_rows, AreOfWidth}
use Rattle.tq_exec.proofs.PlaceLemmas.{left_alone}
use Rattle.tq_exec.proofs.GroupPartitionLemmas.{groups_counted, groups_outside, groups_wide}
use Rattle.tq_exec.proofs.group_partitions.group_in_partitions.Goals as goal

pub chained-requires : goal.chained-requires
chained-requires g c =
    let plan = c.args.plan.now in
    let made = c.in_ok-made.made.items in
    subst (λ outputs. All (AreOfWidth (length outputs)) made) (sym c.get.ensures) (groups_wide plan.left plan.window c.args.cuts.now (all_rows c.args.lists.now) made c.in_ok-made.ensures)

pub returns-clause-rows : goal.returns-clause-rows
returns-clause-rows g c valid found v t =
    let plan = c.args.plan.now in
    let made = c.in_ok-made.made.items in
    let rows = all_rows c.args.lists.now in
    IfOk-weaker c.owned.result _ _
    (λ relation is.
    ap (λ (r : RowList). copies r.items v t) is
    ∙ ap (λ l. copies l v t) c.in_ok-chained.ensures.rows
    ∙ left_alone valid plan plan.window (all_rows made) c.requires.alone
    (groups_counted plan.left plan.window c.args.cuts.now rows made c.in_ok-made.ensures c.partitions_have_groups.ensures valid c.requires.grouped c.requires.stand found)
    (groups_outside plan.left plan.window c.args.cuts.now rows made c.in_ok-made.ensures)
    v t)
    c.owned.ensures
