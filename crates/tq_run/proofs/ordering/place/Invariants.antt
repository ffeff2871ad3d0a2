use Rattle.std.proofs.Common.{◌≡◌, ◌++◌}
use Rattle.std.specs.Vec.Iter.{into_iter_items}
use Rattle.tq_run.specs.Sharing.{numbers}
use Rattle.tq_run.proofs.Places.{IsFilled}
use Rattle.tq_run.proofs.ordering.place.Given as goal

abbrev pub invariant-loop-i : goal.invariant-loop-i
invariant-loop-i g l =
    IsFilled (g.W.Work.relates l.work) (g.W.Work.count l.work) (numbers l.yielded) l.places.items × (l.yielded ++ into_iter_items l.i-iterator ≡ l.fn.done.items)
