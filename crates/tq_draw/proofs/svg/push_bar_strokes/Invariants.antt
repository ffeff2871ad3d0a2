use Rattle.std.proofs.Common.{◌≡◌, ◌++◌, take}
use Rattle.std.specs.List.{flat_map}
use Rattle.tq_draw.specs.Svg.{stroke}
use Rattle.tq_draw.proofs.svg.push_bar_strokes.Given as goal

abbrev pub invariant-bytes : goal.invariant-bytes
invariant-bytes l = l.text.items ≡ l.initial.text.items ++ flat_map stroke (take l.byte-index l.bar)
