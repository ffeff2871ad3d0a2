use Rattle.std.proofs.Common.{◌∙◌, ap, subst, sym}
use Rattle.std.specs.List.{list_any}
use Rattle.std.specs.Prelude.{All}
use Rattle.tq_plan.specs.declared.plans.QuerySource.{QuerySource}
use Rattle.tq_exec.specs.Partitioning.{HasAt, is_partitioned}
use Rattle.tq_exec.specs.Partitions.{columns_in}
use Rattle.tq_exec.proofs.partition_columns.are_linked.Goals as goal

pub returns-then-some_are_partitioned : goal.returns-then-some_are_partitioned
returns-then-some_are_partitioned c is =
    let columns = columns_in c.args.columns.now in
    record {
      place = c.args.place;
      each = subst (All (λ (source : QuerySource). HasAt c.args.query.now.test c.args.place source (columns source.table))) c.get-sources.ensures (c.have_at.ensures is);
      some = ap (list_any (λ (source : QuerySource). is_partitioned (columns source.table))) (sym c.get-sources.ensures) ∙ sym c.some_are_partitioned.ensures ∙ c.if-some_are_partitioned.true;
    }
