-- The lines of the periods so far were appended.
use Rattle.std.proofs.Common.{◌≡◌, ◌+◌, ◌++◌}
use Rattle.std.specs.List.{flat_map, range_with_len}
use Rattle.std.specs.Prelude.{slice_index}
use Rattle.tq_totals.specs.Calendar.{line, period_end}
use Rattle.tq_totals.proofs.periods.push_lines.Given as goal

abbrev pub invariant-periods : goal.invariant-periods
invariant-periods l = l.text.items ≡ l.initial.text.items
    ++ flat_map (λ period. line l.unit (period + 1) (slice_index l.days period) (period_end l.days l.end period)) (range_with_len 0 l.period)
