use Rattle.std.proofs.Common.{All, get_or, subst}
use Rattle.std.proofs.lemmas.List.{take_all}
use Rattle.std.proofs.lemmas.List.Elements.{All-more}
use Rattle.tq_agg.specs.Buckets.{IsAmong}
use Rattle.tq_agg.proofs.Tallies.{one_at}
use Rattle.tq_agg.proofs.partials.are_among.Goals as goal

pub ranks-preserved : goal.ranks-preserved
ranks-preserved c =
    All-more (IsAmong c.args.all.now) c.args.ranks.now c.ranks.prefix-index 0 c.ranks-test.true c.ranks.invariant
    (one_at c.args.all.now (get_or c.args.ranks.now c.ranks.prefix-index 0) c.place_of-place.result c.if-place-all.false c.if-all-place.false)

pub returns : goal.returns
returns c _ = subst (All (IsAmong c.args.all.now)) (take_all c.ranks.prefix-index c.args.ranks.now c.ranks-test.false) c.ranks.invariant
