use Rattle.std.proofs.Common.{◌≡◌, ◌++◌, drop}
use Rattle.tq_diagnostics.specs.Parts.{item_parts}
use Rattle.tq_diagnostics.specs.Views.{part_views}
use Rattle.tq_diagnostics.proofs.parts.push_items.Given as goal

abbrev pub invariant-items : goal.invariant-items
invariant-items l =
    part_views l.parts.items ++ item_parts l.sources l.group l.next (drop l.item-index l.items) ≡ part_views l.initial.parts.items ++ item_parts l.sources l.group l.fn.at l.items
