-- The lists so far, followed by the cut lists of the remaining keys, are those of all keys.
use Rattle.std.proofs.Common.{◌≡◌, ◌≤◌, ◌++◌, drop, length, map}
use Rattle.std.specs.Global.{Vec}
use Rattle.tq_base.specs.declared.sort_input.SortKey.{SortKey}
use Rattle.tq_table.specs.Merging.{cut_by}
use Rattle.tq_table.proofs.merging.cut_keys.Given as goal

abbrev pub invariant-lens : goal.invariant-lens
invariant-lens l = record {
  within : l.start ≤ length l.fn.keys;
  cut : map (λ (list : Vec SortKey). list.items) l.lists.items ++ cut_by (drop l.len-index l.fn.lens) (drop l.start l.fn.keys) ≡ cut_by l.fn.lens l.fn.keys;
}
