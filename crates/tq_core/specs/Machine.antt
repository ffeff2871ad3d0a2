-- The core machine: the steps of one writer, its readers and the workers of an answer, over lists. This project's own.
use Rattle.std.specs.Prelude.{◌≡◌, ℕ, ◌<◌, ◌≤◌, Bool, false, true, List, [], ◌∷◌, ◌++◌, length, take, max, replicate, slice_get, slice_set, Contains, Option, Some, None, if◌then◌else◌, nat_lt, ◌⊎◌}
use Rattle.std.specs.List.{enumerate_from}
use Rattle.tq_base.specs.declared.catalogue.Catalogue.{Catalogue}
use Rattle.tq_event.specs.declared.event.Event.{Event}
use Rattle.tq_event.specs.History.{IsAdmissible}
use Rattle.tq_core.specs.declared.step.Step.{Step}
use Rattle.tq_core.specs.declared.step.Step.TheVariants.{Append, Publish, Enter, Learn, Ask, Claim, Finish}
use Rattle.tq_core.specs.declared.step.Reply.{Reply}
use Rattle.tq_core.specs.declared.step.Reply.TheVariants.{Done, Length, Answer, TooNew, Piece, Order, Refused}

-- the pieces of an answer: their number, the workers that claimed them (the i-th worker claimed piece i), and whether
-- they are closed
pub record PieceRun : Type 0 where
  pub pieces : ℕ
  pub claimants : List ℕ
  pub closed : Bool

-- the state: the published events; 0 and the published length after each Publish; the pending events; the length that
-- each reader has seen; the runs of pieces by their numbers
pub record Machine : Type 0 where
  pub catalogue : Catalogue
  pub published : List Event
  pub lengths : List ℕ
  pub pending : List Event
  pub seen : List ℕ
  pub runs : List PieceRun

-- the state before any step
abbrev pub first_machine : Catalogue → ℕ → Machine
first_machine catalogue readers =
    record { catalogue = catalogue; published = []; lengths = 0 ∷ []; pending = []; seen = replicate readers 0; runs = [] }

-- ---- one step: the state before it, its reply, and the state after it

-- a refused step changes nothing
abbrev pub IsRefused : {A : Type 0} → Machine → Reply A → Machine → Type 0
IsRefused before reply after = (reply ≡ Refused) × (after ≡ before)

-- if the step is allowed, it has this reply and this next state; else it is refused
abbrev pub IsTakenIf : {A : Type 0} → Type 0 → Reply A → Machine → Machine → Reply A → Machine → Type 0
IsTakenIf may answer next before reply after = (may × (reply ≡ answer) × (after ≡ next)) ⊎ ((¬ may) × IsRefused before reply after)

-- an event may become pending if it is admissible after the published and the pending ones, and there is room
abbrev pub CanAppend : Machine → Event → Type 0
CanAppend m event = IsAdmissible m.catalogue (m.published ++ m.pending) event × (length (m.published ++ m.pending) < 16777216)

abbrev pub Appends : {A : Type 0} → Event → Machine → Reply A → Machine → Type 0
Appends event before = IsTakenIf (CanAppend before event) Done (record before { pending = before.pending ++ event ∷ [] }) before

-- all pending events are published together
abbrev pub with_published : Machine → Machine
with_published m =
    record m { published = m.published ++ m.pending; lengths = m.lengths ++ length (m.published ++ m.pending) ∷ []; pending = [] }

abbrev pub Publishes : {A : Type 0} → Machine → Reply A → Machine → Type 0
Publishes before reply after = (reply ≡ Length (length (before.published ++ before.pending))) × (after ≡ with_published before)

-- a reader has seen this length
abbrev pub with_seen_length : ℕ → ℕ → Machine → Machine
with_seen_length reader length m = record m { seen = slice_set m.seen reader length }

-- a reader finds the list with a length that it had at the start or after a Publish, and not shorter than it has seen
abbrev pub EntersFrom : {A : Type 0} → Option ℕ → ℕ → ℕ → Machine → Reply A → Machine → Type 0
EntersFrom None reader at before reply after = IsRefused before reply after
EntersFrom (Some seen) reader at before reply after =
    IsTakenIf ((seen ≤ at) × Contains before.lengths at) (Length at) (with_seen_length reader at before) before reply after

abbrev pub Enters : {A : Type 0} → ℕ → ℕ → Machine → Reply A → Machine → Type 0
Enters reader at before = EntersFrom (slice_get before.seen reader) reader at before

-- a reader learns of such a length; one that is less than it has seen changes nothing
abbrev pub LearnsFrom : {A : Type 0} → Option ℕ → ℕ → ℕ → Machine → Reply A → Machine → Type 0
LearnsFrom None reader at before reply after = IsRefused before reply after
LearnsFrom (Some seen) reader at before reply after =
    IsTakenIf (Contains before.lengths at) (Length (max seen at)) (with_seen_length reader (max seen at) before) before reply after

abbrev pub Learns : {A : Type 0} → ℕ → ℕ → Machine → Reply A → Machine → Type 0
Learns reader at before = LearnsFrom (slice_get before.seen reader) reader at before

-- a reader queries the first n published events. If it has seen that many, the query is answered and a run of `pieces`
-- pieces opens; else the reply is the number that it has seen
abbrev pub with_run : ℕ → Machine → Machine
with_run pieces m = record m { runs = m.runs ++ record { pieces = pieces; claimants = []; closed = false } ∷ [] }

abbrev pub AsksFrom : {Q A : Type 0} → (Catalogue → List Event → Q → A) → Option ℕ → ℕ → Q → ℕ → Machine → Reply A → Machine → Type 0
AsksFrom value None n query pieces before reply after = IsRefused before reply after
AsksFrom value (Some seen) n query pieces before reply after =
    ((n ≤ seen) × (reply ≡ Answer (value before.catalogue (take n before.published) query)) × (after ≡ with_run pieces before))
    ⊎ ((seen < n) × (reply ≡ TooNew seen) × (after ≡ before))

abbrev pub Asks : {Q A : Type 0} → (Catalogue → List Event → Q → A) → ℕ → ℕ → Q → ℕ → Machine → Reply A → Machine → Type 0
Asks value reader n query pieces before = AsksFrom value (slice_get before.seen reader) n query pieces before

-- the piece that the next claim of a run gives, if one is left, and the run after that claim
abbrev pub next_piece : PieceRun → Option ℕ
next_piece run = if nat_lt (length run.claimants) run.pieces then Some (length run.claimants) else None

abbrev pub claimed : ℕ → PieceRun → PieceRun
claimed worker run = if nat_lt (length run.claimants) run.pieces then record run { claimants = run.claimants ++ worker ∷ [] } else run

-- one of 16 workers claims the next piece of a run that is not closed
abbrev pub ClaimsFrom : {A : Type 0} → Option PieceRun → ℕ → ℕ → Machine → Reply A → Machine → Type 0
ClaimsFrom None work worker before reply after = IsRefused before reply after
ClaimsFrom (Some run) work worker before reply after =
    IsTakenIf ((run.closed ≡ false) × (worker < 16)) (Piece (next_piece run)) (record before { runs = slice_set before.runs work (claimed worker run) }) before reply after

abbrev pub Claims : {A : Type 0} → ℕ → ℕ → Machine → Reply A → Machine → Type 0
Claims work worker before = ClaimsFrom (slice_get before.runs work) work worker before

-- a run with every piece claimed is closed, and the reply lists each piece with its worker, in order
abbrev pub FinishesFrom : {A : Type 0} → Option PieceRun → ℕ → Machine → Reply A → Machine → Type 0
FinishesFrom None work before reply after = IsRefused before reply after
FinishesFrom (Some run) work before reply after =
    IsTakenIf ((run.closed ≡ false) × (length run.claimants ≡ run.pieces)) (Order (enumerate_from 0 run.claimants))
    (record before { runs = slice_set before.runs work (record run { closed = true }) }) before reply after

abbrev pub Finishes : {A : Type 0} → ℕ → Machine → Reply A → Machine → Type 0
Finishes work before = FinishesFrom (slice_get before.runs work) work before

-- the effect of the step, if `value` gives the answer from the catalogue, the events and the query
abbrev pub IsStep : {Q A : Type 0} → (Catalogue → List Event → Q → A) → Step Q → Machine → Reply A → Machine → Type 0
IsStep value (Append event) = Appends event
IsStep value Publish = Publishes
IsStep value (Enter reader at) = Enters reader at
IsStep value (Learn reader at) = Learns reader at
IsStep value (Ask reader n query pieces) = Asks value reader n query pieces
IsStep value (Claim work worker) = Claims work worker
IsStep value (Finish work) = Finishes work

-- steps in order, with their replies
abbrev pub IsRun : {Q A : Type 0} → (Catalogue → List Event → Q → A) → List (Step Q) → Machine → List (Reply A) → Machine → Type 0
IsRun value [] before [] after = after ≡ before
IsRun value [] before (r ∷ replies) after = ⊥
IsRun value (s ∷ steps) before [] after = ⊥
IsRun value (s ∷ steps) before (r ∷ replies) after = (between : Machine) × IsStep value s before r between × IsRun value steps between replies after

-- the steps before one of them, in order
abbrev pub IsRunBefore : {Q A : Type 0} → (Catalogue → List Event → Q → A) → List (Step Q) → Machine → Machine → Type 0
IsRunBefore {Q} {A} value steps before after =
    (count : ℕ) × (replies : List (Reply A)) × (count < length steps) × IsRun value (take count steps) before replies after

-- the state before the steps determines their replies and the state after them
abbrev pub RunsAreUnique : {Q A : Type 0} → (Catalogue → List Event → Q → A) → Type 0
RunsAreUnique {Q} {A} value =
    (steps : List (Step Q)) (before after after' : Machine) (replies replies' : List (Reply A))
    → IsRun value steps before replies after → IsRun value steps before replies' after'
    → (replies ≡ replies') × (after ≡ after')

-- the query of an Ask fits the catalogue
abbrev pub HasFittingQuery : {Q : Type 0} → (Catalogue → Q → Type 0) → Catalogue → Step Q → Type 0
HasFittingQuery fits catalogue (Append event) = Unit {0}
HasFittingQuery fits catalogue Publish = Unit {0}
HasFittingQuery fits catalogue (Enter reader at) = Unit {0}
HasFittingQuery fits catalogue (Learn reader at) = Unit {0}
HasFittingQuery fits catalogue (Ask reader n query pieces) = fits catalogue query
HasFittingQuery fits catalogue (Claim work worker) = Unit {0}
HasFittingQuery fits catalogue (Finish work) = Unit {0}
