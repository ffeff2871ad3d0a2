use Rattle.std.proofs.Common.{◌≡◌, drop}
use Rattle.tq_diagnostics.specs.Parts.{after_items}
use Rattle.tq_diagnostics.proofs.parts.after_items.Given as goal

abbrev pub invariant-items : goal.invariant-items
invariant-items l = after_items l.next (drop l.item-index l.items) ≡ after_items l.fn.at l.items
