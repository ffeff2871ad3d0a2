-- Properties of the replies of a whole run, in terms of its steps. This project's own.
use Rattle.std.specs.Prelude.{◌≡◌, ◌≢◌, ℕ, zero, suc, ◌+◌, ◌<◌, ◌≤◌, Bool, false, true, List, [], ◌∷◌, ◌++◌, length, max, take, drop, map, All, slice_get, IsSomeAnd, MatchOption, Option, Some, None, if◌then◌else◌, ◌==◌, nat_lt}
use Rattle.std.specs.Option.{option_map_or}
use Rattle.std.specs.List.{enumerate_from}
use Rattle.tq_base.specs.declared.catalogue.Catalogue.{Catalogue}
use Rattle.tq_event.specs.declared.event.Event.{Event}
use Rattle.tq_core.specs.declared.step.Step.{Step}
use Rattle.tq_core.specs.declared.step.Step.TheVariants.{Append, Publish, Enter, Learn, Ask, Claim, Finish}
use Rattle.tq_core.specs.declared.step.Reply.{Reply}
use Rattle.tq_core.specs.declared.step.Reply.TheVariants.{Done, Length, Answer, TooNew, Piece, Order, Refused}
use Rattle.tq_core.specs.Machine.{Machine, PieceRun}

-- the step at a place, and its reply
pub record IsAt {Q A : Type 0} (steps : List (Step Q)) (replies : List (Reply A)) (place : ℕ) (step : Step Q) (reply : Reply A) : Type 0 where
  pub is_step : slice_get steps place ≡ Some step
  pub is_reply : slice_get replies place ≡ Some reply

-- ---- published events

abbrev pub is_appended : {A : Type 0} → Reply A → Bool
is_appended Done = true
is_appended (Length n) = false
is_appended (Answer a) = false
is_appended (TooNew seen) = false
is_appended (Piece piece) = false
is_appended (Order order) = false
is_appended Refused = false

abbrev pub event_of : {Q : Type 0} → Step Q → List Event
event_of (Append event) = event ∷ []
event_of Publish = []
event_of (Enter reader at) = []
event_of (Learn reader at) = []
event_of (Ask reader n query pieces) = []
event_of (Claim work worker) = []
event_of (Finish work) = []

-- the events of the Appends with the reply Done, in order
abbrev pub appended_events : {Q A : Type 0} → List (Step Q) → List (Reply A) → List Event
appended_events [] replies = []
appended_events (s ∷ steps) [] = []
appended_events (s ∷ steps) (r ∷ replies) = (if is_appended r then event_of s else []) ++ appended_events steps replies

abbrev pub HasNoPublish : {Q : Type 0} → List (Step Q) → Type 0
HasNoPublish {Q} steps = All (λ (s : Step Q). s ≢ Publish) steps

-- the last Publish of the steps is at the place
pub record IsLastPublish {Q : Type 0} (steps : List (Step Q)) (place : ℕ) : Type 0 where
  pub here : slice_get steps place ≡ Some Publish
  pub last : HasNoPublish (drop (place + 1) steps)

-- the published events after the steps: those before them; and if there is a Publish, the events pending before them
-- and those of the Appends before the last Publish
pub record PublishesUpToLast {Q A : Type 0} (steps : List (Step Q)) (before : Machine) (replies : List (Reply A)) (after : Machine) : Type 0 where
  pub never : HasNoPublish steps → after.published ≡ before.published
  pub last : (place : ℕ) → IsLastPublish steps place
      → after.published ≡ before.published ++ before.pending ++ appended_events (take place steps) (take place replies)

-- ---- answers

-- each answer is `value` of the first n events that are published in the end
abbrev pub AnswersOverLast : {Q A : Type 0} → (Catalogue → List Event → Q → A) → List (Step Q) → List (Reply A) → Machine → Type 0
AnswersOverLast {Q} {A} value steps replies after =
    (place reader n pieces : ℕ) (query : Q) (answer : A) → IsAt steps replies place (Ask reader n query pieces) (Answer answer)
    → (n ≤ length after.published) × (answer ≡ value after.catalogue (take n after.published) query)

-- equal queries as of the same n have equal answers, at any places
abbrev pub AnswersAgree : {Q A : Type 0} → List (Step Q) → List (Reply A) → Type 0
AnswersAgree {Q} {A} steps replies =
    (first reader pieces second reader' pieces' n : ℕ) (query : Q) (a b : A)
    → IsAt steps replies first (Ask reader n query pieces) (Answer a)
    → IsAt steps replies second (Ask reader' n query pieces') (Answer b)
    → a ≡ b

-- whether the step may raise the length that the reader has seen
abbrev pub shows_to : {Q : Type 0} → ℕ → Step Q → Bool
shows_to reader (Append event) = false
shows_to reader Publish = false
shows_to reader (Enter who at) = who == reader
shows_to reader (Learn who at) = who == reader
shows_to reader (Ask who n query pieces) = false
shows_to reader (Claim work worker) = false
shows_to reader (Finish work) = false

-- the length in the reply, or 0
abbrev pub length_of : {A : Type 0} → Reply A → ℕ
length_of Done = 0
length_of (Length n) = n
length_of (Answer a) = 0
length_of (TooNew seen) = 0
length_of (Piece piece) = 0
length_of (Order order) = 0
length_of Refused = 0

-- the maximum of a length and the lengths in the replies to the reader's Enters and Learns
abbrev pub max_shown_length : {Q A : Type 0} → ℕ → ℕ → List (Step Q) → List (Reply A) → ℕ
max_shown_length reader seen [] replies = seen
max_shown_length reader seen (s ∷ steps) [] = seen
max_shown_length reader seen (s ∷ steps) (r ∷ replies) = max_shown_length reader (max seen (if shows_to reader s then length_of r else 0)) steps replies

abbrev pub IsAnswer : {A : Type 0} → Reply A → Type 0
IsAnswer {A} reply = (answer : A) × (reply ≡ Answer answer)

-- a reader's Ask is answered if and only if n is at most the length that the reader has seen: the maximum of that
-- before the steps and of those since. Otherwise the reply is that length
abbrev pub AnswersUpToShown : {Q A : Type 0} → List (Step Q) → Machine → List (Reply A) → Type 0
AnswersUpToShown {Q} {A} steps before replies =
    (place reader n pieces seen : ℕ) (query : Q) (reply : Reply A) → IsAt steps replies place (Ask reader n query pieces) reply
    → slice_get before.seen reader ≡ Some seen
    → let shown = max_shown_length reader seen (take place steps) (take place replies) in (n ≤ shown → IsAnswer reply) × (shown < n → reply ≡ TooNew shown)

-- ---- claims

abbrev pub is_answer : {A : Type 0} → Reply A → Bool
is_answer Done = false
is_answer (Length n) = false
is_answer (Answer a) = true
is_answer (TooNew seen) = false
is_answer (Piece piece) = false
is_answer (Order order) = false
is_answer Refused = false

abbrev pub pieces_of : {Q : Type 0} → Step Q → List ℕ
pieces_of (Append event) = []
pieces_of Publish = []
pieces_of (Enter reader at) = []
pieces_of (Learn reader at) = []
pieces_of (Ask reader n query pieces) = pieces ∷ []
pieces_of (Claim work worker) = []
pieces_of (Finish work) = []

-- the numbers of pieces of the answered Asks, in order
abbrev pub opened : {Q A : Type 0} → List (Step Q) → List (Reply A) → List ℕ
opened [] replies = []
opened (s ∷ steps) [] = []
opened (s ∷ steps) (r ∷ replies) = (if is_answer r then pieces_of s else []) ++ opened steps replies

-- whether the step claims a piece of the run
abbrev pub is_claim : {Q : Type 0} → ℕ → Step Q → Bool
is_claim work (Append event) = false
is_claim work Publish = false
is_claim work (Enter reader at) = false
is_claim work (Learn reader at) = false
is_claim work (Ask reader n query pieces) = false
is_claim work (Claim w worker) = w == work
is_claim work (Finish w) = false

-- the worker that claims a piece of the run
abbrev pub claimant_of : {Q : Type 0} → ℕ → Step Q → List ℕ
claimant_of work (Append event) = []
claimant_of work Publish = []
claimant_of work (Enter reader at) = []
claimant_of work (Learn reader at) = []
claimant_of work (Ask reader n query pieces) = []
claimant_of work (Claim w worker) = if w == work then worker ∷ [] else []
claimant_of work (Finish w) = []

-- the piece given to a claim, unless it was refused
abbrev pub piece_of : {A : Type 0} → Reply A → List (Option ℕ)
piece_of Done = []
piece_of (Length n) = []
piece_of (Answer a) = []
piece_of (TooNew seen) = []
piece_of (Piece piece) = piece ∷ []
piece_of (Order order) = []
piece_of Refused = []

-- the pieces given to the claims of a run, in order
abbrev pub pieces_given : {Q A : Type 0} → ℕ → List (Step Q) → List (Reply A) → List (Option ℕ)
pieces_given work [] replies = []
pieces_given work (s ∷ steps) [] = []
pieces_given work (s ∷ steps) (r ∷ replies) = (if is_claim work s then piece_of r else []) ++ pieces_given work steps replies

-- whether the reply gives a piece
abbrev pub is_piece : List (Option ℕ) → Bool
is_piece [] = false
is_piece (None ∷ rest) = false
is_piece (Some piece ∷ rest) = true

-- the workers of the claims of a run that got a piece, in order
abbrev pub claimants_given : {Q A : Type 0} → ℕ → List (Step Q) → List (Reply A) → List ℕ
claimants_given work [] replies = []
claimants_given work (s ∷ steps) [] = []
claimants_given work (s ∷ steps) (r ∷ replies) = (if is_piece (piece_of r) then claimant_of work s else []) ++ claimants_given work steps replies

-- the pieces given to `claims` claims from the next piece on: each piece once, in order, then none
abbrev pub pieces_from : ℕ → ℕ → ℕ → List (Option ℕ)
pieces_from pieces next zero = []
pieces_from pieces next (suc claims) = (if nat_lt next pieces then Some next else None) ∷ pieces_from pieces (next + 1) claims

-- the workers that claimed the run's pieces; none if the run is not open yet
abbrev pub claimants : Machine → ℕ → List ℕ
claimants m work = option_map_or (λ (run : PieceRun). run.claimants) (slice_get m.runs work) []

-- the claims of a run get the next pieces in order, and their workers are recorded
pub record GivesEach {Q A : Type 0} (steps : List (Step Q)) (before : Machine) (replies : List (Reply A)) (work : ℕ) (run : PieceRun) : Type 0 where
  pub pieces : pieces_given work steps replies ≡ pieces_from run.pieces (length (claimants before work)) (length (pieces_given work steps replies))
  pub workers : run.claimants ≡ claimants before work ++ claimants_given work steps replies

-- each answered Ask opens the next run, with its number of pieces; the claims of a run get its pieces in order, each
-- once, then none; a claim of a run that is not open gets nothing
pub record ClaimsInOrder {Q A : Type 0} (steps : List (Step Q)) (before : Machine) (replies : List (Reply A)) (after : Machine) : Type 0 where
  pub opens : map (λ (run : PieceRun). run.pieces) after.runs ≡ map (λ (run : PieceRun). run.pieces) before.runs ++ opened steps replies
  pub gives : (work : ℕ) → MatchOption (slice_get after.runs work) (pieces_given work steps replies ≡ []) (GivesEach steps before replies work)

-- each piece of the run is claimed, and the list has every piece once, with its worker, in order
pub record ListsEach (order : List (ℕ × ℕ)) (run : PieceRun) : Type 0 where
  pub all : length run.claimants ≡ run.pieces
  pub each : order ≡ enumerate_from 0 run.claimants

-- a Finish that is not refused lists every piece of its run once, with its worker
abbrev pub FinishesWhole : {Q A : Type 0} → List (Step Q) → List (Reply A) → Machine → Type 0
FinishesWhole steps replies after =
    (place work : ℕ) (order : List (ℕ × ℕ)) → IsAt steps replies place (Finish work) (Order order)
    → IsSomeAnd (slice_get after.runs work) (ListsEach order)
