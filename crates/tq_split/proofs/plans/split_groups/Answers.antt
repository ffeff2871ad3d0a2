use Rattle.std.proofs.Common.{◌∙◌, sym}
use Rattle.tq_exec.specs.Partitions.{columns_in}
use Rattle.tq_split.proofs.AggregateLemmas.{aggregates_add, no_right}
use Rattle.tq_split.proofs.plans.split_groups.Goals as goal

pub returns-in-Some-2 : goal.returns-in-Some-2
returns-in-Some-2 c =
    aggregates_add c.partitions_have_rows.ensures c.args.plan.now (columns_in c.in-Some-2.columns.items) c.in-Some.groups
    (no_right c.args.plan.now.right (sym c.is_some.ensures ∙ c.if-is_some.false)) (rw c.in-Some-2.is at c.in_ok-columns.ensures) (rw c.in-Some.is at c.shown_groups.ensures)
