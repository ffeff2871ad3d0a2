-- The result of a worker, and results in their slots. This project's own.
use Rattle.std.specs.Prelude.{◌≡◌, ℕ, ◌<◌, false, true, List, [], length, map, All, Option, IsSomeAnd, slice_index_or}
use Rattle.tq_run.specs.ClaimRule.{ClaimsValue, ClaimantValue, IsClaimantOf}

-- the numbers of the pieces
abbrev pub numbers : {A : Type 0} → List (ℕ × A) → List ℕ
numbers xs = map (λ q. q.0) xs

-- each result belongs to the piece with its number
abbrev pub ResultsRelate : {A : Type 0} → (ℕ → A → Type 0) → List (ℕ × A) → Type 0
ResultsRelate relates xs = All (λ q. relates q.0 q.1) xs

-- a claimant of these claims that has claimed nothing
abbrev pub IsFresh : ClaimsValue → ClaimantValue → Type 0
IsFresh claims c = IsClaimantOf claims c × (c.knows.exhausted ≡ false) × (c.knows.taken ≡ [])

-- the first claimant, from which n were split and to which m were joined
abbrev pub Leads : ℕ → ℕ → ClaimantValue → Type 0
Leads n m c = (c.knows.first ≡ true) × (c.knows.splits ≡ n) × (c.knows.joins ≡ m)

-- these claimants of that many pieces have claimed nothing, and none is joined to the first one yet
abbrev pub AreNewClaimants : ClaimsValue → ℕ → ClaimantValue → List ClaimantValue → Type 0
AreNewClaimants claims count first others = (claims.pieces ≡ count) × IsFresh claims first × Leads first.knows.splits 0 first × All (IsFresh claims) others

-- the claimant found that no piece is left, and these are the results of the pieces on its list
abbrev pub IsWorkerResult : {A : Type 0} → ClaimsValue → (ℕ → A → Type 0) → ClaimantValue → List (ℕ × A) → Type 0
IsWorkerResult claims relates c done = IsClaimantOf claims c × (c.knows.exhausted ≡ true) × (numbers done ≡ c.knows.taken) × ResultsRelate relates done

-- there are as many slots as pieces, and each has a result of its piece
abbrev pub AllFilled : {A : Type 0} → (ℕ → A → Type 0) → ℕ → List (Option A) → Type 0
AllFilled relates count places = (length places ≡ count) × ((i : ℕ) (d : _) → i < count → IsSomeAnd (slice_index_or places i d) (relates i))
