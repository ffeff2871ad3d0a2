use Rattle.std.proofs.Common.{◌<◌, ◌≤◌, ◌∙◌, ap, get_or, length, subst, sym, arith}
use Rattle.std.specs.Prelude.{All}
use Rattle.std.proofs.lemmas.List.{take_all}
use Rattle.tq_base.specs.declared.sort_input.RunStart.TheVariants.{Unknown}
use Rattle.tq_base.specs.declared.sort_input.Side.TheVariants.{Left}
use Rattle.tq_base.specs.SortInputs.{state_of}
use Rattle.tq_base.specs.Keys.{first_prefix, BeginsWithBytes}
use Rattle.tq_base.specs.TieBreak.{with_next_prefix, HasNextPrefix}
use Rattle.tq_base.proofs.TieBreakLemmas.{from_view, map_over_all, prefix_now}
use Rattle.tq_base.proofs.sort_input.SortInput.next_prefixes.Goals as goal

pub keys-preserved : goal.keys-preserved
keys-preserved c =
    let s = state_of c.args.self.now in
    let less : c.keys.number < length c.keys.keys = omega (arith, c.keys-test.true, c.keys.auto.keys) in
    let left = from_view s c.place_view-view.result (get_or c.keys.keys c.keys.number (record { prefix = 0; start = 0; row = 0; side = Left; run_start = Unknown })) c.args.place c.args.offset c.at.result.now c.args.self.now.same c.requires c.place_view-view.ensures c.at.ensures in
    prefix_now s c.args.place c.args.offset c.args.keys.now c.keys.keys c.keys.number _ c.prefix_after.result c.keys-test.true less
    c.keys.invariant.keys c.keys.invariant.prefixes (c.prefix_after.ensures.prefix ∙ ap first_prefix (sym left)) (subst BeginsWithBytes (sym left) c.prefix_after.ensures.bytes)

pub returns-clause-keys : goal.returns-clause-keys
returns-clause-keys c =
    map_over_all (with_next_prefix (state_of c.args.self.now) c.args.place c.args.offset) c.args.keys.now c.keys.keys c.keys.number c.keys-test.false c.keys.invariant.keys

pub returns-clause-prefixes : goal.returns-clause-prefixes
returns-clause-prefixes c =
    subst (All (HasNextPrefix (state_of c.args.self.now) c.args.place c.args.offset))
    (take_all c.keys.number c.keys.keys (let past : length c.keys.keys ≤ c.keys.number = omega (arith, c.keys-test.false, c.keys.auto.keys) in past))
    c.keys.invariant.prefixes
