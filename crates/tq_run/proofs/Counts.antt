-- The number of times that a number is in a list.
use Rattle.std.proofs.Common.{◌≡◌, ◌≢◌, ℕ, ◌+◌, ◌==◌, cond, List, [], ◌∷◌, ◌++◌, ap, arith, eq-eqb, ne_eqb}
use Rattle.std.proofs.lemmas.List.Sums.{sum_by-append}
use Rattle.tq_run.specs.Counting.{times}

-- in two lists together
pub times-append : (x : ℕ) (xs ys : List ℕ) → times x (xs ++ ys) ≡ times x xs + times x ys
times-append x xs ys = sum_by-append (λ y. cond (y == x) 1 0) xs ys

-- in a list of only this number
pub times_here : (x n : ℕ) → n ≡ x → times x (n ∷ []) ≡ 1
times_here x n e = let c : ◌≡◌ {A = ℕ} (cond (n == x) 1 0) 1 = ap (λ b. cond b 1 0) (eq-eqb n x e) in omega arith

-- in a list of only another number
pub times_elsewhere : (x n : ℕ) → n ≢ x → times x (n ∷ []) ≡ 0
times_elsewhere x n e = let c : ◌≡◌ {A = ℕ} (cond (n == x) 1 0) 0 = ap (λ b. cond b 1 0) (ne_eqb n x e) in omega arith
