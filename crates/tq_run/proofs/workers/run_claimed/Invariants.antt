use Rattle.std.proofs.Common.{◌≡◌, ◌-◌, length, false}
use Rattle.tq_run.specs.ClaimRule.{IsClaimantOf}
use Rattle.tq_run.specs.Sharing.{numbers, ResultsRelate}
use Rattle.tq_run.proofs.workers.run_claimed.Given as goal

abbrev pub invariant-loop-i : goal.invariant-loop-i
invariant-loop-i g l =
    IsClaimantOf l.claims l.by
    × (l.by.knows.exhausted ≡ false)
    × (numbers l.done.items ≡ l.by.knows.taken)
    × ResultsRelate (g.W.Work.relates l.work) l.done.items
    × (l.by.knows.first ≡ l.initial.by.knows.first)
    × (l.by.knows.splits ≡ l.initial.by.knows.splits)
    × (l.by.knows.joins ≡ l.initial.by.knows.joins)

abbrev pub decreases-loop-i : goal.decreases-loop-i
decreases-loop-i g l = l.claims.pieces - length l.by.knows.taken
