use Rattle.std.proofs.Common.{◌≡◌, ◌∙◌, List, subst}
use Rattle.std.specs.Prelude.{All, IfSome}
use Rattle.tq_base.specs.Sweep.{all_last}
use Rattle.tq_event.specs.declared.event.Event.{Event}
use Rattle.tq_exec.specs.Answers.{IsPlanAnswer}
use Rattle.tq_snapshot.proofs.laws.ask_before_and_after_in.Goals as goal

pub returns-in_ok-reader-in-Ok-clause-answer : goal.returns-in_ok-reader-in-Ok-clause-answer
returns-in_ok-reader-in-Ok-clause-answer g c =
    let events = c.into_vec-events.result.items in
    let reader = c.in_ok-reader-in-Ok.reader in
    let found : reader ≡ events = all_last (λ (t : List Event). t ≡ events) c.pop.new.self.items reader (subst (All (λ (t : List Event). t ≡ events)) c.in_ok-reader-in-Ok.ensures.items c.in-Ok.ensures.readers) in
    let observed : reader ≡ c.args.loaded.events = found ∙ c.into_vec-events.ensures in
    subst (λ (l : List Event). IfSome c.ask_before_and_after.result (λ answers. IsPlanAnswer l c.args.n c.args.plan.now answers.0)) observed c.ask_before_and_after.ensures.answer
