use Rattle.std.proofs.Common.{◌≡◌, length}
use Rattle.tq_diagnostics.specs.HeaderHints.{first_reserved}
use Rattle.tq_diagnostics.specs.Views.{name_views}
use Rattle.tq_diagnostics.proofs.header_hints.first_reserved.Given as goal

abbrev pub invariant-fields : goal.invariant-fields
invariant-fields l = first_reserved (name_views l.fields) ≡ first_reserved (name_views l.fn.fields)

abbrev pub decreases-fields : goal.decreases-fields
decreases-fields l = length l.fields
