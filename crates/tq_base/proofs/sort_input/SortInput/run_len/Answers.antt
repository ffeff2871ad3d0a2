use Rattle.std.proofs.Common.{sym, ◌∙◌}
use Rattle.tq_base.specs.SortInputs.{state_of}
use Rattle.tq_base.proofs.SortKeyLemmas.{begins_there, goes_on_there}
use Rattle.tq_base.proofs.sort_input.SortInput.run_len.Goals as goal

pub returns-then-begins_run-clause-some : goal.returns-then-begins_run-clause-some
returns-then-begins_run-clause-some c = λ some.
    let item = c.in-Some.ensures.item in
    (begins_there (state_of c.args.self.now) c.args.keys.now c.requires.keys c.in-Some.first.now item.3.0 item.3.1 c.requires.run_starts c.keys.len _ c.keys-test.true (sym c.begins_run.ensures ∙ c.if-begins_run.true) c.keys.invariant).0

pub returns-then-begins_run-clause-ends : goal.returns-then-begins_run-clause-ends
returns-then-begins_run-clause-ends c = λ d less.
    let item = c.in-Some.ensures.item in
    (begins_there (state_of c.args.self.now) c.args.keys.now c.requires.keys c.in-Some.first.now item.3.0 item.3.1 c.requires.run_starts c.keys.len _ c.keys-test.true (sym c.begins_run.ensures ∙ c.if-begins_run.true) c.keys.invariant).1 d

pub keys-preserved : goal.keys-preserved
keys-preserved c =
    let item = c.in-Some.ensures.item in
    goes_on_there (state_of c.args.self.now) c.args.keys.now c.requires.keys c.in-Some.first.now item.3.0 item.3.1 c.requires.run_starts c.keys.len _ c.keys-test.true (sym c.begins_run.ensures ∙ c.if-begins_run.false) c.keys.invariant
