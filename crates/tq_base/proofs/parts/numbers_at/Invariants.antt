-- The numbers at the places so far were chosen.
use Rattle.std.proofs.Common.{◌≡◌, get_or, map, take}
use Rattle.tq_base.proofs.parts.numbers_at.Given as goal

abbrev pub invariant-places : goal.invariant-places
invariant-places l = l.chosen.items ≡ map (λ place. get_or l.numbers place 0) (take l.place-index l.places)
