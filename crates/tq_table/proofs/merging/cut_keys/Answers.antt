use Rattle.std.proofs.Common.{◌∷◌, [], List, map, arith}
use Rattle.std.specs.Global.{Vec}
use Rattle.std.proofs.lemmas.List.{map-append}
use Rattle.tq_base.specs.declared.sort_input.SortKey.{SortKey}
use Rattle.tq_table.specs.Merging.{cut_by}
use Rattle.tq_table.proofs.MergeLemmas.{cut_next}
use Rattle.tq_table.proofs.merging.cut_keys.Goals as goal

abbrev of : Vec SortKey → List SortKey
of list = list.items

pub lens-preserved : goal.lens-preserved
lens-preserved c = record {
  within = omega (arith, c.lens.invariant.within, c.min.ensures);
  cut = rw (c.in_ok-push.ensures.items, map-append of c.lens.lists.items (c.in_ok-from_slice.field-0 ∷ []))
      (cut_next (map of c.lens.lists.items) (cut_by c.args.lens.now c.args.keys.now) c.args.lens.now c.args.keys.now c.in_ok-from_slice.field-0.items c.lens.len-index c.lens.start c.min.result c.lens-test.true c.min.ensures c.in_ok-from_slice.ensures.items c.lens.invariant.cut);
}
