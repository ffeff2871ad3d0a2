-- The claims' rule, which holds between any two steps on the shared word: it is this project's own. The word counts the
-- claims so far. A claim that finds n less than the number of pieces has taken piece n.
use Rattle.std.specs.Prelude.{◌≡◌, ℕ, ◌+◌, ◌<◌, ◌≤◌, ◌^◌, min, cond, true, false, List, [], ◌∷◌, ◌++◌, length, slice_index, sum_by}
use mathlib.Core.Option.{some}
use lib.ListN.{get_elem?}
use Rattle.atomic_table.specs.Table.{State, Me, Step}
use Rattle.atomic_table.specs.Seated.{TableId}
use Rattle.tq_run.specs.declared.seat_view.SeatView.{SeatView}
use Rattle.tq_run.specs.Counting.{times}

-- how contracts see claims: the shared word, and the number of pieces
pub record ClaimsValue : Type 0 where
  pub word : TableId
  pub pieces : ℕ

-- how contracts see a claimant: the word on which it claims, and what it knows
pub record ClaimantValue : Type 0 where
  pub word : TableId
  pub knows : SeatView

-- the claimant belongs to these claims: it claims on their word, with their number of pieces
abbrev pub IsClaimantOf : ClaimsValue → ClaimantValue → Type 0
IsClaimantOf claims c = (c.word ≡ claims.word) × (c.knows.pieces ≡ claims.pieces)

-- what the first seat knows at the start
abbrev pub opening_view : ℕ → SeatView
opening_view p = record { first = true; pieces = p; splits = 0; joins = 0; taken = []; exhausted = false; spent = false }

-- what a new seat in addition to it knows
abbrev pub added_view : SeatView → SeatView
added_view v = record { first = false; pieces = v.pieces; splits = 0; joins = 0; taken = []; exhausted = false; spent = false }

-- the first seat has one more seat in addition
abbrev pub after_split : SeatView → SeatView
after_split v = record v { splits = v.splits + 1 }

-- the first seat has joined another one and has its list
abbrev pub after_join : SeatView → SeatView → SeatView
after_join v w = record v { joins = v.joins + 1; taken = v.taken ++ w.taken }

-- a seat that was joined: its list is empty
abbrev pub spent_view : SeatView
spent_view = record { first = false; pieces = 0; splits = 0; joins = 0; taken = []; exhausted = false; spent = true }

-- the number n is added to its list
abbrev pub after_taking : SeatView → ℕ → SeatView
after_taking v n = record v { taken = v.taken ++ n ∷ [] }

-- it is marked: it found that no piece is left
abbrev pub after_exhausted : SeatView → SeatView
after_exhausted v = record v { exhausted = true }

-- 1 for a seat that was joined
abbrev pub is_spent : SeatView → ℕ
is_spent v = cond v.spent 1 0

-- 1 for a marked seat; a seat that was joined counts as marked
abbrev pub is_marked : SeatView → ℕ
is_marked v = cond v.spent 1 (cond v.exhausted 1 0)

-- the number of times that x is in all lists together
abbrev pub times_in_all : ℕ → List SeatView → ℕ
times_in_all x views = sum_by (λ v. times x v.taken) views

-- The rule for one seat. If it is marked and was not joined, the word has reached the number of pieces. The first seat
-- knows how many seats there are and how many were joined.
pub record Fits (p word : ℕ) (views : List SeatView) (seat : ℕ) (v : SeatView) : Type 0 where
  pub pieces : v.spent ≡ false → v.pieces ≡ p
  pub leads : v.first ≡ true → (seat ≡ 0) × (length views ≡ v.splits + 1) × (sum_by is_spent views ≡ v.joins)
  pub exhausted : v.exhausted ≡ true → v.spent ≡ false → p ≤ word
  pub spent : v.spent ≡ true → v.taken ≡ []

-- The rule for p pieces: the lists have exactly the numbers less than both the word and p, each once; and the word
-- exceeds p by at most the number of marked seats.
pub record Claimed (p : ℕ) (s : State (Unit {0}) SeatView) : Type 0 where
  pub one_word : length s.words ≡ 1
  pub small : p < 2 ^ 32
  pub once : (x : ℕ) → x < min (slice_index s.words 0) p → times_in_all x s.views ≡ 1
  pub none : (x : ℕ) → min (slice_index s.words 0) p ≤ x → times_in_all x s.views ≡ 0
  pub many : sum_by (λ v. length v.taken) s.views ≡ min (slice_index s.words 0) p
  pub past : slice_index s.words 0 ≤ p + sum_by is_marked s.views
  pub seats : length s.views ≤ 16
  pub each : (seat : ℕ) (v : SeatView) → get_elem? s.views seat ≡ some v → Fits p (slice_index s.words 0) s.views seat v

-- What a claim that found n means for its seat: a number of a piece is added to its list, another number marks it.
abbrev pub ClaimRecords : Step (Unit {0}) → Me (Unit {0}) SeatView → ℕ → Me (Unit {0}) SeatView → Type 0
ClaimRecords step m n m' =
    (m'.1 ≡ m.1)
    × (n < m.0.pieces → (m'.0 ≡ after_taking m.0 n) × (length m.0.taken ≤ n))
    × (m.0.pieces ≤ n → m'.0 ≡ after_exhausted m.0)
