use Rattle.tq_totals.specs.Totals.{IsFault}
use Rattle.tq_totals.proofs.FaultLemmas.{passed_on}
use Rattle.tq_totals.proofs.GroupLemmas.{listed_totals}
use Rattle.tq_totals.proofs.group_totals.totals.Goals as goal

pub returns-in_err-check_ends-clause-fault : goal.returns-in_err-check_ends-clause-fault
returns-in_err-check_ends-clause-fault c =
    passed_on (IsFault c.args.by.now c.args.summed.now c.args.table.now.rows) c.from_residual.result _ c.from_residual.ensures.1
    (c.in_err-check_ends.ensures.fault c.args.by.now c.args.summed.now)

pub returns-in_err-check_numbers-clause-fault : goal.returns-in_err-check_numbers-clause-fault
returns-in_err-check_numbers-clause-fault c =
    passed_on (IsFault c.args.by.now c.args.summed.now c.args.table.now.rows) c.from_residual-in_err-check_numbers.result _ c.from_residual-in_err-check_numbers.ensures.1
    (c.in_err-check_numbers.ensures.fault c.args.by.now c.in_ok-check_ends.ensures.ok)

pub returns-in_err-groups-clause-fault : goal.returns-in_err-groups-clause-fault
returns-in_err-groups-clause-fault c =
    passed_on (IsFault c.args.by.now c.args.summed.now c.args.table.now.rows) c.from_residual-in_err-groups.result _ c.from_residual-in_err-groups.ensures.1
    (c.in_err-groups.ensures.fault c.in_ok-check_ends.ensures.ok c.in_ok-check_numbers.ensures.ok)

pub returns-clause-totals : goal.returns-clause-totals
returns-clause-totals c =
    listed_totals c.args.by.now c.args.summed.now c.args.table.now.rows c.in_ok-listed.field-0.items c.in_ok-groups.groups c.in_ok-check_ends.ensures.ended
    c.in_ok-listed.ensures.ordered c.in_ok-listed.ensures.totals c.in_ok-groups.ensures.sums
