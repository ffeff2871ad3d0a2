use Rattle.std.proofs.Common.{◌≡◌, ◌≤◌, ◌++◌, reverse}
use Rattle.tq_diagnostics.specs.Parts.{pairs_of}
use Rattle.tq_diagnostics.specs.Views.{pair_views}
use Rattle.tq_diagnostics.proofs.Compared.{weight}
use Rattle.tq_diagnostics.proofs.parts.+push_backwards.Given as goal

abbrev pub decreases-push_backwards : goal.decreases-push_backwards
decreases-push_backwards l = weight l.cond.now

abbrev pub decreases-parts : goal.decreases-parts
decreases-parts l = weight l.part

abbrev pub invariant-parts : goal.invariant-parts
invariant-parts l = record {
  no_deeper : weight l.part ≤ weight l.fn.cond;
  leads_back : pair_views l.pairs.items ++ reverse (pairs_of l.part) ≡ pair_views l.initial.pairs.items ++ reverse (pairs_of l.fn.cond);
}
