-- So far each source's column has what the row has at the place.
use Rattle.std.proofs.Common.{take}
use Rattle.std.specs.Prelude.{All}
use Rattle.tq_plan.specs.declared.plans.QuerySource.{QuerySource}
use Rattle.tq_exec.specs.Partitioning.{HasAt}
use Rattle.tq_exec.specs.Partitions.{columns_in}
use Rattle.tq_exec.proofs.partition_columns.have_at.Given as goal

abbrev pub invariant-sources : goal.invariant-sources
invariant-sources l = All (λ (source : QuerySource). HasAt l.query.test l.place source (columns_in l.columns source.table)) (take l.source-index l.sources)
