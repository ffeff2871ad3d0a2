use Rattle.std.proofs.Common.{length, rules}
use Rattle.std.proofs.lemmas.Iterator.{items_from_collect, YieldsList-from_map, YieldsList-from_slice}
use Rattle.tq_base.specs.RowLists.{RowList}
use Rattle.tq_table.proofs.merging.lens_of.Goals as goal

pub returns : goal.returns
returns c =
    items_from_collect c.collect.result c.collect.ensures.ran
    (YieldsList-from_map {s = c.map.result} _ (λ (rows : RowList). length rows.items) (YieldsList-from_slice c.args.lists.now cc) c.map.ensures.closure (λ x r q k. search rules))
