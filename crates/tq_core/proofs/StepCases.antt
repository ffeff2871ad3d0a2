-- The cases of a step, split once for all properties of steps.
use Rattle.std.proofs.Common.{◌≡◌, ℕ, ◌<◌, ◌≤◌, true, false, List, [], ◌∷◌, ◌++◌, Option, Some, None, length, take, max, slice_get, slice_set, refl, sym, subst, inl, inr}
use Rattle.std.specs.Prelude.{Contains}
use Rattle.std.specs.List.{enumerate_from}
use Rattle.tq_base.specs.declared.catalogue.Catalogue.{Catalogue}
use Rattle.tq_event.specs.declared.event.Event.{Event}
use Rattle.tq_core.specs.declared.step.Step.{Step}
use Rattle.tq_core.specs.declared.step.Step.TheVariants.{Append, Publish, Enter, Learn, Ask, Claim, Finish}
use Rattle.tq_core.specs.declared.step.Reply.{Reply}
use Rattle.tq_core.specs.declared.step.Reply.TheVariants.{Done, Length, Answer, TooNew, Piece, Order, Refused}
use Rattle.tq_core.specs.Machine.{AsksFrom, ClaimsFrom, EntersFrom, FinishesFrom, IsStep, LearnsFrom, Machine, PieceRun, claimed, next_piece, with_published, with_run, with_seen_length}

module _ (Q A : Type 0) (value : Catalogue → List Event → Q → A) where
  -- the property holds in each case of a step
  pub record Cases (P : Step Q → Machine → Reply A → Machine → Type 0) : Type 0 where
    pub append : (e : Event) (m : Machine) → P (Append e) m Done (record m { pending = m.pending ++ e ∷ [] })
    pub no_append : (e : Event) (m : Machine) → P (Append e) m Refused m
    pub publish : (m : Machine) → P Publish m (Length (length (m.published ++ m.pending))) (with_published m)
    pub enter : (reader at seen : ℕ) (m : Machine) → slice_get m.seen reader ≡ Some seen → seen ≤ at → Contains m.lengths at → P (Enter reader at) m (Length at) (with_seen_length reader at m)
    pub no_enter : (reader at : ℕ) (m : Machine) → P (Enter reader at) m Refused m
    pub learn : (reader at seen : ℕ) (m : Machine) → slice_get m.seen reader ≡ Some seen → Contains m.lengths at → P (Learn reader at) m (Length (max seen at)) (with_seen_length reader (max seen at) m)
    pub no_learn : (reader at : ℕ) (m : Machine) → P (Learn reader at) m Refused m
    pub answer : (reader n : ℕ) (query : Q) (pieces seen : ℕ) (m : Machine) → slice_get m.seen reader ≡ Some seen → n ≤ seen → P (Ask reader n query pieces) m (Answer (value m.catalogue (take n m.published) query)) (with_run pieces m)
    pub too_new : (reader n : ℕ) (query : Q) (pieces seen : ℕ) (m : Machine) → slice_get m.seen reader ≡ Some seen → seen < n → P (Ask reader n query pieces) m (TooNew seen) m
    pub no_reader : (reader n : ℕ) (query : Q) (pieces : ℕ) (m : Machine) → slice_get m.seen reader ≡ None → P (Ask reader n query pieces) m Refused m
    pub claim : (work worker : ℕ) (run : PieceRun) (m : Machine) → slice_get m.runs work ≡ Some run → run.closed ≡ false → P (Claim work worker) m (Piece (next_piece run)) (record m { runs = slice_set m.runs work (claimed worker run) })
    pub no_claim : (work worker : ℕ) (m : Machine) → P (Claim work worker) m Refused m
    pub finish : (work : ℕ) (run : PieceRun) (m : Machine) → slice_get m.runs work ≡ Some run → run.closed ≡ false → length run.claimants ≡ run.pieces
        → P (Finish work) m (Order (enumerate_from 0 run.claimants)) (record m { runs = slice_set m.runs work (record run { closed = true }) })
    pub no_finish : (work : ℕ) (m : Machine) → P (Finish work) m Refused m

  module _ (P : Step Q → Machine → Reply A → Machine → Type 0) (cases : Cases P) where
    to : (s : Step Q) (m : Machine) (r r' : Reply A) (n n' : Machine) → r ≡ r' → n ≡ n' → P s m r' n' → P s m r n
    to s m r r' n n' er en p = subst (λ x. P s m x n) (sym er) (subst (λ y. P s m r' y) (sym en) p)

    pub by_cases : (s : Step Q) (m : Machine) (r : Reply A) (n : Machine) → IsStep value s m r n → P s m r n
    by_cases (Append e) m r n (inl w) = to (Append e) m r Done n _ w.1 w.2 (cases.append e m)
    by_cases (Append e) m r n (inr w) = to (Append e) m r Refused n m w.1.0 w.1.1 (cases.no_append e m)
    by_cases Publish m r n w = to Publish m r _ n _ w.0 w.1 (cases.publish m)
    by_cases (Enter reader at) m r n step = by (slice_get m.seen reader) refl step
      where
        by : (o : Option ℕ) → slice_get m.seen reader ≡ o → EntersFrom o reader at m r n → P (Enter reader at) m r n
        by None is w = to (Enter reader at) m r Refused n m w.0 w.1 (cases.no_enter reader at m)
        by (Some seen) is (inl w) = to (Enter reader at) m r (Length at) n _ w.1 w.2 (cases.enter reader at seen m is w.0.0 w.0.1)
        by (Some seen) is (inr w) = to (Enter reader at) m r Refused n m w.1.0 w.1.1 (cases.no_enter reader at m)
    by_cases (Learn reader at) m r n step = by (slice_get m.seen reader) refl step
      where
        by : (o : Option ℕ) → slice_get m.seen reader ≡ o → LearnsFrom o reader at m r n → P (Learn reader at) m r n
        by None is w = to (Learn reader at) m r Refused n m w.0 w.1 (cases.no_learn reader at m)
        by (Some seen) is (inl w) = to (Learn reader at) m r (Length (max seen at)) n _ w.1 w.2 (cases.learn reader at seen m is w.0)
        by (Some seen) is (inr w) = to (Learn reader at) m r Refused n m w.1.0 w.1.1 (cases.no_learn reader at m)
    by_cases (Ask reader k query pieces) m r n step = by (slice_get m.seen reader) refl step
      where
        by : (o : Option ℕ) → slice_get m.seen reader ≡ o → AsksFrom value o k query pieces m r n → P (Ask reader k query pieces) m r n
        by None is w = to (Ask reader k query pieces) m r Refused n m w.0 w.1 (cases.no_reader reader k query pieces m is)
        by (Some seen) is (inl w) = to (Ask reader k query pieces) m r _ n _ w.1 w.2 (cases.answer reader k query pieces seen m is w.0)
        by (Some seen) is (inr w) = to (Ask reader k query pieces) m r (TooNew seen) n m w.1 w.2 (cases.too_new reader k query pieces seen m is w.0)
    by_cases (Claim work worker) m r n step = by (slice_get m.runs work) refl step
      where
        by : (o : Option PieceRun) → slice_get m.runs work ≡ o → ClaimsFrom o work worker m r n → P (Claim work worker) m r n
        by None is w = to (Claim work worker) m r Refused n m w.0 w.1 (cases.no_claim work worker m)
        by (Some run) is (inl w) = to (Claim work worker) m r (Piece (next_piece run)) n _ w.1 w.2 (cases.claim work worker run m is w.0.0)
        by (Some run) is (inr w) = to (Claim work worker) m r Refused n m w.1.0 w.1.1 (cases.no_claim work worker m)
    by_cases (Finish work) m r n step = by (slice_get m.runs work) refl step
      where
        by : (o : Option PieceRun) → slice_get m.runs work ≡ o → FinishesFrom o work m r n → P (Finish work) m r n
        by None is w = to (Finish work) m r Refused n m w.0 w.1 (cases.no_finish work m)
        by (Some run) is (inl w) = to (Finish work) m r _ n _ w.1 w.2 (cases.finish work run m is w.0.0 w.0.1)
        by (Some run) is (inr w) = to (Finish work) m r Refused n m w.1.0 w.1.1 (cases.no_finish work m)
