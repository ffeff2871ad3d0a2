use Rattle.std.proofs.Common.{◌<◌, length, arith}
use Rattle.std.proofs.lemmas.List.{get_or_default}
use Rattle.std.proofs.lemmas.List.Edits.{map_over_more}
use Rattle.tq_base.specs.TieBreak.{with_prefix}
use Rattle.tq_base.proofs.TieBreakLemmas.{map_over_all}
use Rattle.tq_base.proofs.tie_break.set_prefixes.Goals as goal

pub keys-preserved : goal.keys-preserved
keys-preserved c =
    let less : c.keys.key-index < length c.keys.keys = omega (arith, c.keys-test.true, c.keys.auto.keys) in
    map_over_more (with_prefix c.args.prefix) c.args.keys.now c.keys.keys c.keys.key-index _ c.keys-test.true c.keys.invariant
    (get_or_default c.keys.keys c.keys.key-index _ _ less)

pub returns : goal.returns
returns c = map_over_all (with_prefix c.args.prefix) c.args.keys.now c.keys.keys c.keys.key-index c.keys-test.false c.keys.invariant
