use Rattle.std.proofs.Common.{◌≡◌, [], map}
use Rattle.std.specs.List.{flat_map, range_with_len}
use Rattle.tq_draw.specs.Labels.{column_at}
use Rattle.tq_draw.specs.Svg.{left_of}
use Rattle.tq_draw.proofs.svg.lefts_of.Given as goal

abbrev pub invariant-columns : goal.invariant-columns
invariant-columns l = record {
  blanks : l.blanks.items ≡ flat_map (column_at l.widths (λ _. [])) (range_with_len 0 l.column);
  lefts : l.lefts.items ≡ map (left_of l.widths) (range_with_len 0 l.column);
}
