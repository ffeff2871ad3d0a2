use Rattle.tq_diagnostics.specs.Expected.{named}
use Rattle.tq_diagnostics.proofs.ContinuationLemmas.{Goes}
use Rattle.tq_diagnostics.proofs.expected.push_continuations.Given as goal

abbrev pub invariant-samples : goal.invariant-samples
invariant-samples l = Goes named l.front l.samples l.initial.text.items l.text.items l.sample-index
