use Rattle.std.proofs.Common.{◌≡◌, ◌<◌, ◌+◌, ◌++◌, ◌∷◌, [], arith, get_or, length, take}
use Rattle.tq_base.specs.Keys.{no_row}
use Rattle.tq_base.specs.declared.fragment.Fragment.{Fragment}
use Rattle.tq_totals.specs.Totals.{group, IsFault}
use Rattle.tq_totals.proofs.FaultLemmas.{passed_on}
use Rattle.tq_totals.proofs.GroupLemmas.{fault_is, groups_more, own_group}
use Rattle.tq_totals.proofs.groups.sums_by_group.Goals as goal

pub add_row-requires : goal.add_row-requires
add_row-requires c = (group c.args.by.now c.in_ok-key.key (take c.rows.place c.args.rows.now), c.rows.invariant c.in_ok-key.key)

pub returns-in_err-add_row-clause-fault : goal.returns-in_err-add_row-clause-fault
returns-in_err-add_row-clause-fault c ended numbers =
    let by = c.args.by.now in
    let rows = c.args.rows.now in
    let at = c.rows.place in
    let key = c.in_ok-key.key in
    let row : Fragment = record { values = c.row-row.result; period = c.period.result } in
    let within : at < length rows = omega (arith, c.rows-test.true, c.len-place-end.ensures) in
    let values : c.row-row.result ≡ (get_or rows at no_row).values = c.row-row.ensures in
    let is : row ≡ get_or rows at no_row = λ i. record { values = values i; period = c.period.ensures no_row i } in
    passed_on (IsFault by c.args.summed.now rows) c.from_residual-in_err-add_row.result _ c.from_residual-in_err-add_row.ensures.1
    (fault_is by c.args.summed.now rows ended numbers key (at + 1) (group by key (take at rows) ++ row ∷ []) c.in_err-add_row.field-0.0
    (own_group by rows at within row is key c.in_ok-key.ensures)
    (c.in_err-add_row.ensures.fault (group by key (take at rows)) (c.rows.invariant key)))

pub rows-preserved : goal.rows-preserved
rows-preserved c =
    let by = c.args.by.now in
    let rows = c.args.rows.now in
    let at = c.rows.place in
    let key = c.in_ok-key.key in
    let row : Fragment = record { values = c.row-row.result; period = c.period.result } in
    let within : at < length rows = omega (arith, c.rows-test.true, c.len-place-end.ensures) in
    let values : c.row-row.result ≡ (get_or rows at no_row).values = c.row-row.ensures in
    let is : row ≡ get_or rows at no_row = λ i. record { values = values i; period = c.period.ensures no_row i } in
    groups_more by rows at within row is c.args.summed.now c.rows.groups c.add_row.new.groups key c.in_ok-key.ensures c.rows.invariant
    (c.in_ok-add_row.ensures.sums (group by key (take at rows)) (c.rows.invariant key)) c.in_ok-add_row.ensures.others
