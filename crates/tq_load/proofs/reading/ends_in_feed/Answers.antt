use Rattle.std.proofs.Common.{◌==◌, ap}
use Rattle.tq_load.proofs.FeedLemmas.{last_told, none_told}
use Rattle.tq_load.proofs.reading.ends_in_feed.Goals as goal

pub returns-in-Some : goal.returns-in-Some
returns-in-Some c = ap (λ b. b == 10) (last_told c.args.bytes.now c.in-Some.last.now c.in-Some.ensures.value)

pub returns-in-None : goal.returns-in-None
returns-in-None c = none_told c.args.bytes.now c.in-None.ensures.value
