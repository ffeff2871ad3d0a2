use Rattle.std.proofs.Common.{◌≡◌, ◌++◌, ℕ}
use Rattle.std.specs.Global.{Vec}
use Rattle.std.specs.List.{flat_map}
use Rattle.std.specs.Vec.Iter.{into_iter_items}
use Rattle.tq_draw.proofs.pieces.push_texts.Given as goal

abbrev pub invariant-texts : goal.invariant-texts
invariant-texts l = record {
  reads : l.yielded ++ into_iter_items l.one-iterator ≡ l.fn.texts.items;
  text : l.text.items ≡ l.initial.text.items ++ flat_map (λ (one : Vec ℕ). one.items) l.yielded;
}
