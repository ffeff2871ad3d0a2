-- A state determines the replies of the steps and the states after them.
use Rattle.std.proofs.Common.{◌≡◌, ℕ, List, [], ◌∷◌, Option, Some, None, slice_get, refl, sym, ap, subst, ◌∙◌, inl, inr, arith}
use Rattle.tq_base.specs.declared.catalogue.Catalogue.{Catalogue}
use Rattle.tq_event.specs.declared.event.Event.{Event}
use Rattle.tq_core.specs.declared.step.Step.{Step}
use Rattle.tq_core.specs.declared.step.Step.TheVariants.{Append, Publish, Enter, Learn, Ask, Claim, Finish}
use Rattle.tq_core.specs.declared.step.Reply.{Reply}
use Rattle.tq_core.specs.Machine.{AsksFrom, ClaimsFrom, EntersFrom, FinishesFrom, IsRefused, IsRun, IsStep, IsTakenIf, LearnsFrom, Machine, PieceRun, RunsAreUnique}

module _ (Q A : Type 0) (value : Catalogue → List Event → Q → A) where
  refused_unique : (m : Machine) (r r' : Reply A) (n n' : Machine) → IsRefused m r n → IsRefused m r' n' → (r ≡ r') × (n ≡ n')
  refused_unique m r r' n n' w v = (w.0 ∙ sym v.0, w.1 ∙ sym v.1)

  taken_unique : (may : Type 0) (answer : Reply A) (next m : Machine) (r r' : Reply A) (n n' : Machine) → IsTakenIf may answer next m r n → IsTakenIf may answer next m r' n' → (r ≡ r') × (n ≡ n')
  taken_unique may answer next m r r' n n' (inl w) (inl v) = (w.1 ∙ sym v.1, w.2 ∙ sym v.2)
  taken_unique may answer next m r r' n n' (inl w) (inr v) = absurd (v.0 w.0)
  taken_unique may answer next m r r' n n' (inr w) (inl v) = absurd (w.0 v.0)
  taken_unique may answer next m r r' n n' (inr w) (inr v) = refused_unique m r r' n n' w.1 v.1

  asked_unique : (o : Option ℕ) (k : ℕ) (query : Q) (pieces : ℕ) (m : Machine) (r r' : Reply A) (n n' : Machine) → AsksFrom value o k query pieces m r n → AsksFrom value o k query pieces m r' n' → (r ≡ r') × (n ≡ n')
  asked_unique None k query pieces m r r' n n' w v = refused_unique m r r' n n' w v
  asked_unique (Some seen) k query pieces m r r' n n' (inl w) (inl v) = (w.1 ∙ sym v.1, w.2 ∙ sym v.2)
  asked_unique (Some seen) k query pieces m r r' n n' (inl w) (inr v) = absurd (omega (arith, w.0, v.0))
  asked_unique (Some seen) k query pieces m r r' n n' (inr w) (inl v) = absurd (omega (arith, w.0, v.0))
  asked_unique (Some seen) k query pieces m r r' n n' (inr w) (inr v) = (w.1 ∙ sym v.1, w.2 ∙ sym v.2)

  entered_unique : (o : Option ℕ) (reader at : ℕ) (m : Machine) (r r' : Reply A) (n n' : Machine) → EntersFrom o reader at m r n → EntersFrom o reader at m r' n' → (r ≡ r') × (n ≡ n')
  entered_unique None reader at m r r' n n' w v = refused_unique m r r' n n' w v
  entered_unique (Some seen) reader at m r r' n n' w v = taken_unique _ _ _ m r r' n n' w v

  learnt_unique : (o : Option ℕ) (reader at : ℕ) (m : Machine) (r r' : Reply A) (n n' : Machine) → LearnsFrom o reader at m r n → LearnsFrom o reader at m r' n' → (r ≡ r') × (n ≡ n')
  learnt_unique None reader at m r r' n n' w v = refused_unique m r r' n n' w v
  learnt_unique (Some seen) reader at m r r' n n' w v = taken_unique _ _ _ m r r' n n' w v

  claimed_unique : (o : Option PieceRun) (work worker : ℕ) (m : Machine) (r r' : Reply A) (n n' : Machine) → ClaimsFrom o work worker m r n → ClaimsFrom o work worker m r' n' → (r ≡ r') × (n ≡ n')
  claimed_unique None work worker m r r' n n' w v = refused_unique m r r' n n' w v
  claimed_unique (Some run) work worker m r r' n n' w v = taken_unique _ _ _ m r r' n n' w v

  finished_unique : (o : Option PieceRun) (work : ℕ) (m : Machine) (r r' : Reply A) (n n' : Machine) → FinishesFrom o work m r n → FinishesFrom o work m r' n' → (r ≡ r') × (n ≡ n')
  finished_unique None work m r r' n n' w v = refused_unique m r r' n n' w v
  finished_unique (Some run) work m r r' n n' w v = taken_unique _ _ _ m r r' n n' w v

  step_unique : (s : Step Q) (m : Machine) (r r' : Reply A) (n n' : Machine) → IsStep value s m r n → IsStep value s m r' n' → (r ≡ r') × (n ≡ n')
  step_unique (Append e) m r r' n n' w v = taken_unique _ _ _ m r r' n n' w v
  step_unique Publish m r r' n n' w v = (w.0 ∙ sym v.0, w.1 ∙ sym v.1)
  step_unique (Enter reader at) m r r' n n' w v = entered_unique (slice_get m.seen reader) reader at m r r' n n' w v
  step_unique (Learn reader at) m r r' n n' w v = learnt_unique (slice_get m.seen reader) reader at m r r' n n' w v
  step_unique (Ask reader k query pieces) m r r' n n' w v = asked_unique (slice_get m.seen reader) k query pieces m r r' n n' w v
  step_unique (Claim work worker) m r r' n n' w v = claimed_unique (slice_get m.runs work) work worker m r r' n n' w v
  step_unique (Finish work) m r r' n n' w v = finished_unique (slice_get m.runs work) work m r r' n n' w v

  pub run_unique : RunsAreUnique value
  run_unique [] before after after' [] [] w v = (refl, w ∙ sym v)
  run_unique [] before after after' [] (y ∷ replies') w v = absurd v
  run_unique [] before after after' (x ∷ replies) replies' w v = absurd w
  run_unique (s ∷ steps) before after after' [] replies' w v = absurd w
  run_unique (s ∷ steps) before after after' (x ∷ replies) [] w v = absurd v
  run_unique (s ∷ steps) before after after' (x ∷ replies) (y ∷ replies') w v =
      let first = step_unique s before x y w.0 v.0 w.1 v.1 in
      let rest = run_unique steps v.0 after after' replies replies' (subst (λ m. IsRun value steps m replies after) first.1 w.2) v.2 in
      (ap (λ l. l ∷ replies) first.0 ∙ ap (λ l. y ∷ l) rest.0, rest.1)
