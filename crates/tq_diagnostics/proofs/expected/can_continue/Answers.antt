use Rattle.std.proofs.Common.{◌≡◌, ◌∙◌, ℕ, List, [], ◌∷◌, ◌++◌, None, Some, ap, subst}
use Rattle.tq_diagnostics.specs.Expected.{StopsAt, trial}
use Rattle.tq_diagnostics.proofs.ContinuationLemmas.{tells_nowhere, tells_where}
use Rattle.tq_diagnostics.proofs.expected.can_continue.Goals as goal

pub returns : goal.returns
returns c =
    let text : c.deref.result.now ≡ trial c.args.front.now c.args.sample.now = c.deref.ensures.value ∙ c.in_ok-extend_from_slice.ensures.items
    ∙ ap (λ (l : List ℕ). l ++ c.args.sample.now) (c.in_ok-push.ensures.items ∙ ap (λ (l : List ℕ). l ++ 32 ∷ []) c.in_ok-trial.ensures.items) in
    tells_nowhere c.args.front.now c.args.sample.now
    (subst (λ b. StopsAt b None) text (subst (λ o. StopsAt c.deref.result.now o) c.in-None.is c.in_ok-at.ensures))

pub returns-in-Some : goal.returns-in-Some
returns-in-Some c =
    let text : c.deref.result.now ≡ trial c.args.front.now c.args.sample.now = c.deref.ensures.value ∙ c.in_ok-extend_from_slice.ensures.items
    ∙ ap (λ (l : List ℕ). l ++ c.args.sample.now) (c.in_ok-push.ensures.items ∙ ap (λ (l : List ℕ). l ++ 32 ∷ []) c.in_ok-trial.ensures.items) in
    tells_where c.args.front.now c.args.sample.now c.in-Some.at c.faults_are_unique.ensures
    (subst (λ b. StopsAt b (Some c.in-Some.at)) text (subst (λ o. StopsAt c.deref.result.now o) c.in-Some.is c.in_ok-at.ensures))
