use Rattle.std.proofs.Common.{◌≡◌, ◌∙◌, ◌+◌, ◌++◌, List, ℕ, ap₂}
use Rattle.std.proofs.lemmas.List.{get_or_default}
use Rattle.std.specs.Prelude.{slice_index}
use Rattle.tq_totals.specs.Calendar.{line, period_end}
use Rattle.tq_totals.proofs.PeriodLemmas.{flat_map_step}
use Rattle.tq_totals.proofs.periods.push_lines.Goals as goal

pub periods-preserved : goal.periods-preserved
periods-preserved c =
    let unit = c.args.unit in
    let days = c.args.days.now in
    let at = c.periods.period in
    let one : ℕ → List ℕ = λ period. line unit (period + 1) (slice_index days period) (period_end days c.args.end period) in
    let first : c.index-days-period.result ≡ slice_index days at = c.index-days-period.is ∙ get_or_default days at c.index-days-period.result 0 c.periods-test.true in
    c.in_ok-push_line.ensures
    ∙ ap₂ (λ (l : List ℕ) (m : List ℕ). l ++ m) c.periods.invariant (ap₂ (line unit (at + 1)) first c.period_end-until.ensures)
    ∙ flat_map_step one c.args.text.now.items at
