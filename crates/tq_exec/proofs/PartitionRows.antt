-- Work on rows may be borrowed by several threads: plans, and what else it is made of. A search finds this of smaller types
-- by itself, and gives up on plans, which are made of many.
use denote.Param.Send.{IsSync, sendable}
use denote.Struct.Field.{u32-field}
use Rattle.std.proofs.Crossing.{crosses}
use Rattle.std.specs.contracts.option.Option.{the_field as option_field}
use Rattle.std.proofs.option.Option.TheSendSync.{the_sync as option_sync, the_field_sync as option_field_sync}
use Rattle.sqlite_items.proofs.boxed.Boxed.TheSendSync.{the_sync as boxed_sync}
use Rattle.tq_base.specs.contracts.list.List.{the_row as items_row}
use Rattle.tq_base.specs.contracts.name.Name.{the_row as name_row}
use Rattle.tq_base.proofs.form.Form.TheSendSync.{the_sync as form_sync, the_field_sync as form_field_sync}
use Rattle.tq_base.proofs.list.List.TheSendSync.{the_sync as items_sync}
use Rattle.tq_base.proofs.name.Name.TheSendSync.{the_sync as name_sync}
use Rattle.tq_base.proofs.period.Period.TheSendSync.{the_sync as period_sync, the_field_sync as period_field_sync}
use Rattle.tq_base.proofs.relation.Relation.TheSendSync.{the_sync as relation_sync}
use Rattle.tq_condition.specs.contracts.condition.Test.{the_field as test_field, the_row as test_row}
use Rattle.tq_condition.proofs.condition.Compare.TheSendSync.{the_field_sync as compare_field_sync}
use Rattle.tq_condition.proofs.condition.Operand.TheSendSync.{the_field_sync as operand_field_sync}
use Rattle.tq_condition.proofs.condition.Test.TheLaws.TheKnot.{sync-Test}
use Rattle.tq_agg.proofs.buckets.Tally.TheSendSync.{the_sync as tally_sync, the_field_sync as tally_field_sync}
use Rattle.tq_plan.specs.contracts.plans.Output.{the_row as output_row}
use Rattle.tq_plan.specs.contracts.plans.Plan.{the_row as plan_row, the_field as plan_field}
use Rattle.tq_plan.specs.contracts.plans.QueryPlan.{the_field as query_field}
use Rattle.tq_plan.specs.contracts.plans.QuerySource.{the_row as source_row}
use Rattle.tq_plan.proofs.plans.Output.TheSendSync.{the_sync as output_sync}
use Rattle.tq_plan.proofs.plans.QuerySource.TheSendSync.{the_sync as source_sync}
use Rattle.tq_exec.proofs.answer_parts.Wanted.TheSendSync.{the_sync as wanted_sync, the_field_sync as wanted_field_sync}
use Rattle.tq_exec.proofs.snapshot.TablesOfRows.TheSendSync.{the_sync as tables_sync, the_field_sync as tables_field_sync}

-- ---- plans

test_lent : IsSync test_field.row
test_lent = sync-Test operand_field_sync compare_field_sync boxed_sync

test_row_lent : IsSync test_row
test_row_lent = search (sendable, test_lent) depth 8

some_test_lent : IsSync (option_field test_row).row
some_test_lent = search (sendable, crosses, option_field_sync, test_row_lent) depth 12

numbers_lent : IsSync (items_row u32-field.row)
numbers_lent = search (sendable, crosses, items_sync) depth 20

sources_lent : IsSync (items_row source_row)
sources_lent = search (sendable, crosses, items_sync, source_sync) depth 20

outputs_lent : IsSync (items_row output_row)
outputs_lent = search (sendable, crosses, items_sync, output_sync) depth 20

query_lent : IsSync query_field.row
query_lent = search (sendable, some_test_lent, sources_lent, outputs_lent, numbers_lent) depth 30 fits 20000

names_lent : IsSync (items_row name_row)
names_lent = search (sendable, crosses, items_sync, name_sync) depth 20

pub plan_lent : IsSync plan_row
plan_lent = search (sendable, names_lent, query_lent, period_field_sync) depth 30 fits 20000

pub plan_field_lent : IsSync plan_field.row
plan_field_lent = search (sendable, names_lent, query_lent, period_field_sync) depth 30 fits 20000

-- ---- all of these, and what else such work is made of

pub ruleset lent = (
  sendable,
  crosses,
  plan_lent,
  plan_field_lent,
  period_sync,
  period_field_sync,
  tables_sync,
  tables_field_sync,
  option_sync,
  option_field_sync,
  relation_sync,
  tally_sync,
  tally_field_sync,
  form_sync,
  form_field_sync,
  wanted_sync,
  wanted_field_sync,
)
