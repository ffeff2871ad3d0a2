use Rattle.std.proofs.Common.{◌≡◌, ◌++◌, length}
use Rattle.std.specs.Vec.Iter.{into_iter_items}
use Rattle.tq_run.specs.Results.{IsResultList}
use Rattle.tq_run.proofs.ordering.take_out.Given as goal

abbrev pub invariant-loop-place : goal.invariant-loop-place
invariant-loop-place g l =
    IsResultList (g.W.Work.relates l.work) (length l.yielded) l.results.items × (l.yielded ++ into_iter_items l.place-iterator ≡ l.fn.places.items)
