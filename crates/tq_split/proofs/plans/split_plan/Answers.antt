use Rattle.tq_exec.specs.Partitions.{columns_in}
use Rattle.tq_split.proofs.plans.split_plan.Goals as goal

pub returns-in-Some : goal.returns-in-Some
returns-in-Some c part_of count catalogue valid below fit over =
    c.partitionings_make_parts.ensures.linked part_of count (columns_in c.in-Some.columns.items) catalogue valid c.args.plan.now below fit over
    (c.only_joins.ensures c.if-only_joins.true) (rw c.in-Some.is at c.in_ok-columns.ensures)

pub returns-in-Some-2 : goal.returns-in-Some-2
returns-in-Some-2 c part_of count catalogue valid below fit over =
    c.partitionings_make_parts.ensures.values part_of count (columns_in c.in-Some-2.columns.items) catalogue valid c.args.plan.now below fit over
    (rw c.in-Some-2.is at c.in_ok-columns-2.ensures)
