use Rattle.std.proofs.Common.{◌∙◌, ◌+◌, ◌<◌, ap₂, arith, is_lt, length, rules}
use Rattle.std.proofs.lemmas.Fn.{always_returns_same}
use Rattle.std.proofs.lemmas.List.{get_or-map, length-map}
use Rattle.std.proofs.lemmas.List.Sorted.{ranks_by}
use Rattle.tq_base.specs.declared.fragment.Fragment.{Fragment}
use Rattle.tq_base.specs.Relations.{row_period_of}
use Rattle.tq_base.specs.declared.relation.RowPeriod.{RowPeriod}
use Rattle.tq_report.specs.Times.{time_cmp, time_total}
use Rattle.tq_report.proofs.times.sort_keys.Goals as goal

pub returns-clause-order : goal.returns-clause-order
returns-clause-order c k d zero within =
    let rows = c.args.rows.now in
    let keys = c.sort_unstable_by.new.self.items in
    let row = row_period_of rows in
    let longer : k + 1 < length keys = omega (arith, within, length-map keys row) in
    let sorted = c.sort_unstable_by.ensures.sorted (λ (x y : RowPeriod). is_lt (time_cmp (row x) (row y))) (ranks_by time_total row) (always_returns_same _ _ _ (λ a r f k. search rules)) in
    let e : RowPeriod = record { row = 0; period = d.period } in
    ap₂ (λ (x y : Fragment). is_lt (time_cmp x y)) (get_or-map row keys (k + 1) e d longer) (get_or-map row keys k e d (omega (arith, longer))) ∙ sorted k e zero longer
