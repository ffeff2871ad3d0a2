use Rattle.std.proofs.Common.{◌<◌, ◌∷◌, [], ℕ, ap, arith, length, length-append, slice_index_or, subst, sym}
use Rattle.std.specs.Global.{Vec}
use Rattle.tq_event.specs.Tables.{lists_of, rows_in}
use Rattle.tq_exec.specs.Partitions.{IsPartitionIds, columns_in}
use Rattle.tq_exec.proofs.ChunkLemmas.{pushed}
use Rattle.tq_exec.proofs.partition_ids.ids_of_tables.Goals as goal

pub tables-preserved : goal.tables-preserved
tables-preserved g c =
    let ids = c.tables.ids.items in
    let next = c.in_ok-ids_of_table.field-0 in
    let P : ℕ → Vec ℕ → Type 0 = λ k t. IsPartitionIds c.args.cuts.now (columns_in c.args.columns.now k) (rows_in (lists_of c.args.tables.now) k) t.items in
    let grown = c.in_ok-push.ensures.items in
    let last = subst (λ n. P n next) (sym c.tables.invariant.many) c.in_ok-ids_of_table.ensures in
    record {
      many = omega (arith, ap length grown, length-append ids (next ∷ []), c.tables.invariant.many);
      each = λ k d less. subst (λ l. P k (slice_index_or l k d)) (sym grown) (pushed P ids next c.tables.invariant.each last k d (subst (λ l. k < length l) grown less));
    }
