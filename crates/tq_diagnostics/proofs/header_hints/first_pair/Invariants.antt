use Rattle.std.proofs.Common.{◌≡◌, length, map}
use Rattle.tq_diagnostics.specs.HeaderHints.{first_pair}
use Rattle.tq_diagnostics.specs.Views.{name_views}
use Rattle.tq_diagnostics.proofs.header_hints.first_pair.Given as goal

abbrev pub invariant-table : goal.invariant-table
invariant-table l = first_pair (map (λ names. (names.0.now, names.1.now)) l.table) (name_views l.fields)
    ≡ first_pair (map (λ names. (names.0.now, names.1.now)) l.fn.table) (name_views l.fields)

abbrev pub decreases-table : goal.decreases-table
decreases-table l = length l.table
