use Rattle.std.proofs.Common.{◌<◌, length, arith}
use Rattle.tq_base.proofs.RelationLemmas.{renumbered_rest, renumbered_rows}
use Rattle.tq_base.proofs.relation.renumber.Goals as goal

pub parts-preserved : goal.parts-preserved
parts-preserved c =
    let parts = c.parts.part-items in
    let old = c.deref_mut-part-items.result.now in
    let i = c.parts.part-index in
    let there : i < length old = c.parts-test.true in
    let less : i < length parts = omega (arith, there, c.parts.auto.part-items) in
    record {
      rows = renumbered_rows parts old i c.part-item.result c.renumber.new.self c.args.places.now less there c.parts.invariant.others c.parts.invariant.rows c.in_ok-renumber.ensures;
      others = renumbered_rest parts old i c.renumber.new.self c.parts.invariant.others;
    }
