use Rattle.std.proofs.Common.{◌≡◌, ◌∙◌, ◌∷◌, ◌+◌, ◌++◌, ◌<◌, ℕ, zero, suc, [], false, true, length, take, refl, sym, ap, subst, arith}
use Rattle.std.proofs.lemmas.List.{take_all, take_more}
use Rattle.std.proofs.lemmas.Result.{err_from_is_err_and}
use Rattle.tq_core.specs.Machine.{IsRun}
use Rattle.tq_core.proofs.ClaimLemmas.{claims_in_order, finishes_whole}
use Rattle.tq_core.proofs.RunLemmas.{IsSound, answers_agree, answers_over_last, asks_up_to_shown, publishes, run_catalogue, run_push, world_sound}
use Rattle.tq_core.proofs.world.World.run.Goals as goal

positive : (n : ℕ) → (n ≡ 0 → ⊥) → 0 < n
positive zero never = absurd (never refl)
positive (suc n) never = omega arith

pub returns-in_err-replies-clause-err : goal.returns-in_err-replies-clause-err
returns-in_err-replies-clause-err g c =
    let p = err_from_is_err_and c.from_residual.result c.from_residual.ensures.1 in
    rw p.1 (0, [], positive (length c.args.steps.now) (λ none. let wrong : false ≡ true = c.in_err-replies.ensures.succeeds none in cc), refl)

pub step-requires : goal.step-requires
step-requires g c =
    let same = run_catalogue g.row.O-Query.Denot g.row.O-Answer.Denot (g.O.Oracle.value c.args.oracle.now) (take c.steps.step-index c.args.steps.now) c.args.self.now c.steps.replies.items c.steps.self c.steps.invariant.taken in
    rw (same, c.step-item.is) (c.requires c.steps.step-index c.step-item.result c.steps-test.true)

pub steps-preserved : goal.steps-preserved
steps-preserved g c =
    let pushed = run_push g.row.O-Query.Denot g.row.O-Answer.Denot (g.O.Oracle.value c.args.oracle.now) (take c.steps.step-index c.args.steps.now) c.args.self.now c.steps.replies.items c.steps.self c.step-item.result c.in_ok-step.field-0 c.step.new.self
    c.steps.invariant.taken c.in_ok-step.ensures.step in
    let more : take (c.steps.step-index + 1) c.args.steps.now ≡ take c.steps.step-index c.args.steps.now ++ c.step-item.result ∷ [] =
    take_more c.args.steps.now c.steps.step-index c.step-item.result c.steps-test.true ∙ ap (λ s. take c.steps.step-index c.args.steps.now ++ s ∷ []) (sym c.step-item.is) in
    record {
      taken = rw (more, c.push_reserved.ensures.items) pushed;
      replied = c.push_reserved.ensures.len ∙ ap (λ n. n + 1) c.steps.invariant.replied;
      room = rw c.push_reserved.ensures.capacity c.steps.invariant.room;
    }

pub returns-clause-published : goal.returns-clause-published
returns-clause-published g c =
    let run = subst (λ l. IsRun (g.O.Oracle.value c.args.oracle.now) l c.args.self.now c.steps.replies.items c.steps.self) (take_all c.steps.step-index c.args.steps.now c.steps-test.false) c.steps.invariant.taken in
    publishes g.row.O-Query.Denot g.row.O-Answer.Denot (g.O.Oracle.value c.args.oracle.now) c.args.steps.now c.args.self.now c.steps.replies.items c.steps.self run

pub returns-clause-answers : goal.returns-clause-answers
returns-clause-answers g c =
    let run = subst (λ l. IsRun (g.O.Oracle.value c.args.oracle.now) l c.args.self.now c.steps.replies.items c.steps.self) (take_all c.steps.step-index c.args.steps.now c.steps-test.false) c.steps.invariant.taken in
    let sound = subst IsSound c.self.view_is (world_sound c.self.inside.history c.self.inside.published c.self.inside.lengths.items c.self.inside.seen.items c.self.inside.runs.items c.self.invariant) in
    answers_over_last g.row.O-Query.Denot g.row.O-Answer.Denot (g.O.Oracle.value c.args.oracle.now) c.args.steps.now c.args.self.now c.steps.replies.items c.steps.self run sound

pub returns-clause-agree : goal.returns-clause-agree
returns-clause-agree g c =
    answers_agree g.row.O-Query.Denot g.row.O-Answer.Denot (g.O.Oracle.value c.args.oracle.now) c.args.steps.now c.steps.replies.items c.steps.self (returns-clause-answers g c)

pub returns-clause-asks : goal.returns-clause-asks
returns-clause-asks g c =
    let run = subst (λ l. IsRun (g.O.Oracle.value c.args.oracle.now) l c.args.self.now c.steps.replies.items c.steps.self) (take_all c.steps.step-index c.args.steps.now c.steps-test.false) c.steps.invariant.taken in
    asks_up_to_shown g.row.O-Query.Denot g.row.O-Answer.Denot (g.O.Oracle.value c.args.oracle.now) c.args.steps.now c.args.self.now c.steps.replies.items c.steps.self run

pub returns-clause-claims : goal.returns-clause-claims
returns-clause-claims g c =
    let run = subst (λ l. IsRun (g.O.Oracle.value c.args.oracle.now) l c.args.self.now c.steps.replies.items c.steps.self) (take_all c.steps.step-index c.args.steps.now c.steps-test.false) c.steps.invariant.taken in
    claims_in_order g.row.O-Query.Denot g.row.O-Answer.Denot (g.O.Oracle.value c.args.oracle.now) c.args.steps.now c.args.self.now c.steps.replies.items c.steps.self run

pub returns-clause-finishes : goal.returns-clause-finishes
returns-clause-finishes g c =
    let run = subst (λ l. IsRun (g.O.Oracle.value c.args.oracle.now) l c.args.self.now c.steps.replies.items c.steps.self) (take_all c.steps.step-index c.args.steps.now c.steps-test.false) c.steps.invariant.taken in
    finishes_whole g.row.O-Query.Denot g.row.O-Answer.Denot (g.O.Oracle.value c.args.oracle.now) c.args.steps.now c.args.self.now c.steps.replies.items c.steps.self run
