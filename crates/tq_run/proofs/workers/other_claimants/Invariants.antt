use Rattle.std.proofs.Common.{◌≡◌, ◌+◌, All, vec_len}
use Rattle.tq_run.specs.Sharing.{IsFresh, Leads}
use Rattle.tq_run.proofs.workers.other_claimants.Given as goal

abbrev pub invariant-loop : goal.invariant-loop
invariant-loop l =
    IsFresh l.claims l.first × Leads (vec_len l.others) 0 l.first × (vec_len l.others + 1 ≡ l.counter) × All (IsFresh l.claims) l.others.items
