use Rattle.std.proofs.Common.{◌≡◌, ◌++◌, drop}
use Rattle.tq_diagnostics.specs.Parts.{after_group, group_parts}
use Rattle.tq_diagnostics.specs.Views.{part_views}
use Rattle.tq_diagnostics.proofs.parts.push_group.Given as goal

abbrev pub invariant-columns : goal.invariant-columns
invariant-columns l = record {
  parts : part_views l.parts.items ++ group_parts l.sources l.next (drop l.column-index l.columns) ≡ part_views l.initial.parts.items ++ group_parts l.sources l.fn.at l.columns;
  after : after_group l.next (drop l.column-index l.columns) ≡ after_group l.fn.at l.columns;
}
