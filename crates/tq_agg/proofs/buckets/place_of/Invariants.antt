-- Those so far are counted.
use Rattle.std.proofs.Common.{◌≡◌, nat_lt, take}
use Rattle.std.specs.List.{count_by}
use Rattle.tq_agg.proofs.buckets.place_of.Given as goal

abbrev pub invariant-ranks : goal.invariant-ranks
invariant-ranks l = l.place ≡ count_by (λ r. nat_lt r l.prefix) (take l.other-index l.ranks)
