-- Single steps of the machine.
use Rattle.std.proofs.Common.{◌≡◌, ℕ, zero, suc, ◌<◌, ◌≤◌, true, false, List, [], ◌∷◌, ◌++◌, Option, Some, length, take, slice_get, slice_set, refl, sym, ap, subst, ◌∙◌, inl, inr}
use Rattle.std.specs.List.{enumerate_from}
use Rattle.tq_base.specs.declared.catalogue.Catalogue.{Catalogue}
use Rattle.tq_event.specs.declared.event.Event.{Event}
use Rattle.tq_core.specs.declared.step.Reply.TheVariants.{Answer, Order, Piece, Refused}
use Rattle.tq_core.specs.Machine.{Asks, AsksFrom, Claims, ClaimsFrom, Finishes, FinishesFrom, Machine, PieceRun, claimed, next_piece}

-- replacing an element by itself changes nothing
set_found : {X : Type 0} → (xs : List X) (i : ℕ) (x : X) → slice_get xs i ≡ Some x → slice_set xs i x ≡ xs
set_found [] i x is = refl
set_found (y ∷ xs) zero x is = ap (λ z. z ∷ xs) (let same : x ≡ y = cc in same)
set_found (y ∷ xs) (suc i) x is = ap (λ l. y ∷ l) (set_found xs i x is)

-- a run replaced by itself
abbrev put_back : Machine → ℕ → PieceRun → Machine
put_back m work run = record m { runs = slice_set m.runs work run }

unchanged : (m : Machine) (work : ℕ) (run : PieceRun) → slice_get m.runs work ≡ Some run → put_back m work run ≡ m
unchanged m work run found = ap (λ l. record m { runs = l }) (set_found m.runs work run found)

module _ (A : Type 0) (m : Machine) (work : ℕ) (run : PieceRun) (found : slice_get m.runs work ≡ Some run) where
  pub claim_refused : (worker : ℕ) → run.closed ≡ true → Claims {A = A} work worker m Refused (put_back m work run)
  claim_refused worker closed =
      subst (λ o. ClaimsFrom {A = A} o work worker m Refused (put_back m work run)) (sym found)
      (inr ((λ may. let wrong : true ≡ false = sym closed ∙ may.0 in cc), (refl, unchanged m work run found)))

  pub claim_taken : (worker : ℕ) (piece : Option ℕ) (after : PieceRun) → run.closed ≡ false → worker < 16 → piece ≡ next_piece run → after ≡ claimed worker run
      → Claims {A = A} work worker m (Piece piece) (put_back m work after)
  claim_taken worker piece after still small is next =
      subst (λ o. ClaimsFrom {A = A} o work worker m (Piece piece) (put_back m work after)) (sym found)
      (inl ((still, small), ap (λ p. Piece p) is, ap (put_back m work) next))

  pub finish_refused : ((run.closed ≡ false) × (length run.claimants ≡ run.pieces) → ⊥) → Finishes {A = A} work m Refused (put_back m work run)
  finish_refused may_not =
      subst (λ o. FinishesFrom {A = A} o work m Refused (put_back m work run)) (sym found)
      (inr (may_not, (refl, unchanged m work run found)))

  pub finish_taken : (order : List (ℕ × ℕ)) (after : PieceRun) → run.closed ≡ false → length run.claimants ≡ run.pieces → order ≡ enumerate_from 0 run.claimants → after ≡ record run { closed = true }
      → Finishes {A = A} work m (Order order) (put_back m work after)
  finish_taken order after still full is next =
      subst (λ o. FinishesFrom {A = A} o work m (Order order) (put_back m work after)) (sym found)
      (inl ((still, full), ap (λ l. Order l) is, ap (put_back m work) next))

pub ask_answered : {Q A : Type 0} (value : Catalogue → List Event → Q → A) (m : Machine) (reader n : ℕ) (query : Q) (pieces seen : ℕ) (answer : A) (runs : List PieceRun)
    → slice_get m.seen reader ≡ Some seen → n ≤ seen → answer ≡ value m.catalogue (take n m.published) query → runs ≡ m.runs ++ record { pieces = pieces; claimants = []; closed = false } ∷ []
    → Asks value reader n query pieces m (Answer answer) (record m { runs = runs })
ask_answered value m reader n query pieces seen answer runs found enough is next =
    subst (λ o. AsksFrom value o n query pieces m (Answer answer) (record m { runs = runs })) (sym found)
    (inl (enough, ap (λ a. Answer a) is, ap (λ l. record m { runs = l }) next))
