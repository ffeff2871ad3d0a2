-- Lists of exactly the numbers with a property (this project's own).
use Rattle.std.specs.Prelude.{◌≡◌, ℕ, ◌↔◌, List, Contains, All, count_by, nat_eq, ◌++◌}
use Rattle.std.specs.List.Sorted.{IsStrictlyIncreasing}

-- the list strictly ascends and has exactly the numbers with the property
pub record ListsJust (P : ℕ → Type 0) (xs : List ℕ) : Type 0 where
  pub ascending : IsStrictlyIncreasing xs
  pub just : (x : ℕ) → Contains xs x ↔ P x

-- the list has each number with the property once, and no other
pub record ListsOnce (P : ℕ → Type 0) (xs : List ℕ) : Type 0 where
  pub all : All P xs
  pub once : (x : ℕ) → P x → count_by (nat_eq x) xs ≡ 1

-- the list begins with the other one
pub record IsLonger {X : Type 0} (xs ys : List X) : Type 0 where
  pub more : List X
  pub is : ys ≡ xs ++ more
