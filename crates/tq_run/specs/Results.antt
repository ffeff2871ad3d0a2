-- The results of a run of work: this project's own.
use Rattle.std.specs.Prelude.{◌≡◌, ℕ, ◌<◌, List, length, slice_index_or}

-- there are as many results as pieces, and result i belongs to piece i
abbrev pub IsResultList : {A : Type 0} → (ℕ → A → Type 0) → ℕ → List A → Type 0
IsResultList relates count xs = (length xs ≡ count) × ((i : ℕ) (d : _) → i < count → relates i (slice_index_or xs i d))
