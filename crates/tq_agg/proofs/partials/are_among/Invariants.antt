-- Those so far are among all.
use Rattle.std.proofs.Common.{All, take}
use Rattle.tq_agg.specs.Buckets.{IsAmong}
use Rattle.tq_agg.proofs.partials.are_among.Given as goal

abbrev pub invariant-ranks : goal.invariant-ranks
invariant-ranks l = All (IsAmong l.all) (take l.prefix-index l.ranks)
