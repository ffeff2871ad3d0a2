use Rattle.std.proofs.Common.{◌≡◌, length}
use Rattle.tq_diagnostics.specs.HeaderHints.{field_named}
use Rattle.tq_diagnostics.specs.Views.{name_views}
use Rattle.tq_diagnostics.proofs.header_hints.field_named.Given as goal

abbrev pub invariant-fields : goal.invariant-fields
invariant-fields l = field_named l.name (name_views l.fields) ≡ field_named l.name (name_views l.fn.fields)

abbrev pub decreases-fields : goal.decreases-fields
decreases-fields l = length l.fields
