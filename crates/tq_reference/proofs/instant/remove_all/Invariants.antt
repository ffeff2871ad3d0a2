-- The copies left, without those of the rest of the right rows, are those of the result.
use Rattle.std.proofs.Common.{◌≡◌, ◌-◌, drop}
use Rattle.tq_base.specs.Fragments.{occurrences}
use Rattle.tq_agg.specs.Grouping.{Row}
use Rattle.tq_reference.proofs.instant.remove_all.Given as goal

abbrev pub invariant-right : goal.invariant-right
invariant-right l = (v : Row) → occurrences l.rows.items v - occurrences (drop l.row-index l.right) v ≡ occurrences l.initial.rows.items v - occurrences l.right v
