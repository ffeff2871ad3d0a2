use Rattle.std.proofs.Common.{◌≡◌}
use Rattle.tq_draw.specs.Labels.{narrow_front}
use Rattle.tq_draw.proofs.labels.narrow_front.Given as goal

abbrev pub invariant-chars : goal.invariant-chars
invariant-chars l = narrow_front l.chars l.bytes ≡ narrow_front 23 l.bytes

abbrev pub decreases-chars : goal.decreases-chars
decreases-chars l = l.chars
