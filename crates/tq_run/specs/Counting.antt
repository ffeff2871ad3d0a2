-- The number of times that a number is in a list: this project's own.
use Rattle.std.specs.Prelude.{◌≡◌, ℕ, ◌<◌, ◌≤◌, ◌==◌, List, count_by}

-- the number of times that x is in the list
abbrev pub times : ℕ → List ℕ → ℕ
times x xs = count_by (λ y. y == x) xs

-- each number less than n is in the list exactly once, and no other number is
abbrev pub EachOnce : List ℕ → ℕ → Type 0
EachOnce xs n = (x : ℕ) → (x < n → times x xs ≡ 1) × (n ≤ x → times x xs ≡ 0)
