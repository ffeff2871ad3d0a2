use Rattle.std.proofs.Common.{List, length, map, refl, subst, sym}
use Rattle.tq_base.specs.Ranges.{AreAscending}
use Rattle.tq_event.specs.Tables.{lists_of}
use Rattle.tq_exec.specs.Answers.{in_tables, times_at}
use Rattle.tq_exec.specs.Partitioning.{ArePartitionedBy}
use Rattle.tq_exec.specs.AnswerParts.{HaveAnswer}
use Rattle.tq_exec.specs.declared.answer_parts.AnswerPart.{AnswerPart}
use Rattle.tq_exec.specs.Partitions.{columns_in}
use Rattle.tq_exec.proofs.PartitionPartLemmas.{have_answer}
use Rattle.tq_exec.proofs.PartitionRows.{lent}
use Rattle.tq_exec.proofs.partitions.parts_by_value.Goals as goal

pub returns : goal.returns
returns g c =
    let all = c.args.all in
    let plan = c.args.plan.now in
    let valid = in_tables (lists_of all.tables.now) in
    let columns = c.deref-5.result.now in
    let partitioned = subst (λ l. ArePartitionedBy (columns_in l) plan) (sym c.deref-5.ensures.value) c.requires.by.partitioned in
    subst (HaveAnswer c.args.wanted (length plan.left.outputs) (times_at valid plan)) (sym c.in_ok-made_of.ensures)
    (have_answer c.partitions_have_answers.ensures c.args.wanted all.catalogue.now valid plan c.deref-4.result.now columns c.in_ok-partitions.partitions.items c.fit.ensures c.requires.over partitioned c.in_ok-partitions.ensures
    (subst (λ (l : List AnswerPart). AreAscending (map (λ (r : AnswerPart). r.rows) l)) c.deref-7.ensures.value (c.if-not-are_ascending.ensures refl)))

pub run_with-requires-sync-W : goal.run_with-requires-sync-W
run_with-requires-sync-W g c κs within = search lent depth 30 fits 20000
