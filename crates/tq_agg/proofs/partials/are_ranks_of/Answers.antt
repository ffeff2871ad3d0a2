use Rattle.std.proofs.Common.{All, refl, rules, subst}
use Rattle.std.proofs.lemmas.List.{take_all}
use Rattle.std.proofs.lemmas.List.Elements.{All-more}
use Rattle.tq_agg.specs.declared.buckets.Tally.{Tally}
use Rattle.tq_agg.specs.Buckets.{IsAmong}
use Rattle.tq_agg.proofs.partials.are_ranks_of.Goals as goal

pub tallies-preserved : goal.tallies-preserved
tallies-preserved c =
    let ranks = c.args.ranks.now in
    let item : Tally = c.buckets-item.result in
    let among : All (IsAmong ranks) item.ranks.items = subst (All (IsAmong ranks)) c.deref.ensures.value (c.if-not-are_among.ensures refl) in
    All-more (λ (b : Tally). All (IsAmong ranks) b.ranks.items) c.args.tallies.now c.tallies.buckets-index item c.tallies-test.true c.tallies.invariant
    (subst (λ (b : Tally). All (IsAmong ranks) b.ranks.items) c.buckets-item.is among)

pub returns : goal.returns
returns c _ = record {
  some = search rules;
  rise = c.if-not-rise.ensures refl;
  among = subst (All (λ (b : Tally). All (IsAmong c.args.ranks.now) b.ranks.items)) (take_all c.tallies.buckets-index c.args.tallies.now c.tallies-test.false) c.tallies.invariant;
}
