use Rattle.std.proofs.Common.{◌<◌, ◌≤◌, ◌∙◌, ℕ, List, Option, ap, drop, length, map, refl, subst, sym}
use Rattle.std.specs.Global.{Vec}
use Rattle.std.specs.Prelude.{IfSome}
use Rattle.tq_base.specs.Ranges.{AreAscending}
use Rattle.tq_base.specs.RowLists.{RowList}
use Rattle.tq_event.specs.Tables.{lists_of}
use Rattle.tq_agg.specs.declared.buckets.Tally.{Tally}
use Rattle.tq_agg.specs.Buckets.{AreRanksOf, AreTallies}
use Rattle.tq_exec.specs.Answers.{in_tables, times_at}
use Rattle.tq_exec.specs.Partitioning.{ArePartitionedBy}
use Rattle.tq_run.specs.Results.{IsResultList}
use Rattle.tq_exec.specs.AnswerParts.{HaveAnswer}
use Rattle.tq_exec.specs.declared.answer_parts.AnswerPart.{AnswerPart}
use Rattle.tq_exec.specs.Partitions.{IsPartitionPart, columns_in}
use Rattle.tq_exec.proofs.PartitionRows.{lent}
use Rattle.tq_exec.proofs.BucketLemmas.{as_many_cuts}
use Rattle.tq_exec.proofs.PartitionPartLemmas.{have_answer, table_rows}
use Rattle.tq_exec.proofs.bucket_counts.parts_by_bucket.Goals as goal

pub invariant_of-work : goal.invariant_of-work
invariant_of-work g c =
    let plan = c.args.plan.now in
    let rows = c.in_ok-rows.rows.items in
    let l = c.in-Some-get.ensures.lookup in
    let tallied = subst (λ (o : Option (Vec Tally)). IfSome o (λ tallies. AreTallies rows plan.window c.in-Some.column tallies.items)) c.in-Some-2.is c.in_ok-tallies.ensures in
    let ranked = subst (λ (o : Option (Vec ℕ)). IfSome o (λ ranks. AreRanksOf ranks.items c.deref-2.result.now)) c.in-Some-3.is c.in_ok-ranks.ensures.ranks in
    let few = subst (λ (o : Option (Vec ℕ)). IfSome o (λ ranks. length ranks.items ≤ 64)) c.in-Some-3.is c.in_ok-ranks.ensures.few in
    record {
      counts = c.in-Some.ensures.found;
      alone = sym c.is_some.ensures ∙ c.if-is_some.false;
      stand = c.requires.over.0.items;
      partitioned = ap (λ l. columns_in l c.in-Some.table) (c.deref-3.ensures.value ∙ sym c.deref.ensures.value) ∙ c.if-not-is_partitioned_by.ensures refl;
      of = ap (λ (r : RowList). r.items) c.in_ok-rows.ensures ∙ sym (table_rows c.args.all.tables.now c.in-Some.table c.in-Some-get.table_rows.now l.3.0 l.3.1);
      tallied = subst (AreTallies rows plan.window c.in-Some.column) (sym c.deref-4.ensures.value) tallied;
      ranked = subst (λ r. AreRanksOf r c.deref-4.result.now) (sym c.deref-5.ensures.value) (subst (AreRanksOf c.in-Some-3.ranks.items) (c.deref-2.ensures.value ∙ sym c.deref-4.ensures.value) ranked);
      few = subst (λ r. length r ≤ 64) (sym c.deref-5.ensures.value) few;
    }

pub returns : goal.returns
returns g c =
    let all = c.args.all in
    let plan = c.args.plan.now in
    let valid = in_tables (lists_of all.tables.now) in
    let columns = c.deref-3.result.now in
    let ranks = c.deref-5.result.now in
    let values = c.in_ok-values.values.items in
    let ranked = subst (λ (o : Option (Vec ℕ)). IfSome o (λ ranks. AreRanksOf ranks.items c.deref-2.result.now)) c.in-Some-3.is c.in_ok-ranks.ensures.ranks in
    let some : 0 < length ranks = subst (λ l. 0 < length l) (sym c.deref-5.ensures.value) ranked.some in
    let partitioned = subst (λ l. ArePartitionedBy (columns_in l) plan) (sym c.deref-3.ensures.value) c.requires.by.partitioned in
    let are = subst (λ n. IsResultList (IsPartitionPart c.args.wanted valid plan (drop 1 ranks) columns) n values) (as_many_cuts ranks some) c.in_ok-values.ensures in
    subst (HaveAnswer c.args.wanted (length plan.left.outputs) (times_at valid plan)) (sym c.in_ok-made_of.ensures)
    (have_answer c.partitions_have_answers.ensures c.args.wanted all.catalogue.now valid plan (drop 1 ranks) columns values c.fit.ensures c.requires.over partitioned are
    (subst (λ (l : List AnswerPart). AreAscending (map (λ (r : AnswerPart). r.rows) l)) c.deref-6.ensures.value (c.if-not-are_ascending.ensures refl)))

-- the work may be lent to several threads
pub run_with-requires-sync-W : goal.run_with-requires-sync-W
run_with-requires-sync-W g c κs within = search lent depth 30 fits 20000
