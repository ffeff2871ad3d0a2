use Rattle.std.proofs.Common.{◌≡◌, ◌++◌, drop}
use Rattle.tq_diagnostics.specs.Parts.{after_sources, source_parts}
use Rattle.tq_diagnostics.specs.Views.{part_views}
use Rattle.tq_diagnostics.proofs.parts.push_sources.Given as goal

abbrev pub invariant-sources : goal.invariant-sources
invariant-sources l = record {
  parts : part_views l.parts.items ++ source_parts l.sources l.place l.next (drop l.place l.sources) ≡ part_views l.initial.parts.items ++ source_parts l.sources 0 l.fn.at l.sources;
  after : after_sources l.next (drop l.place l.sources) ≡ after_sources l.fn.at l.sources;
}
