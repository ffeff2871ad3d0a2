-- Sums over the views of all seats.
use Rattle.std.proofs.Common.{◌≡◌, ℕ, zero, suc, ◌+◌, ◌≤◌, Bool, true, false, cond, List, [], ◌∷◌, ◌++◌, length, set, sum_by, refl, sym, ap, arith}
use Rattle.std.proofs.lemmas.List.Sums.{sum_by-cons, sum_by-append}
use mathlib.Core.Option.{some, some-injective, some-ne-none}
use lib.ListN.{get_elem?}
use Rattle.tq_run.specs.declared.seat_view.SeatView.{SeatView}
use Rattle.tq_run.specs.ClaimRule.{is_spent, is_marked}

-- a sum after the change of one view
pub sum-set : (f : SeatView → ℕ) (views : List SeatView) (i : ℕ) (v w : SeatView) → get_elem? views i ≡ some v → sum_by f (set views i w) + f v ≡ sum_by f views + f w
sum-set f [] i v w e = absurd (some-ne-none v (sym e))
sum-set f (x ∷ xs) zero v w e =
    let is : f x ≡ f v = ap f (some-injective x v e) in
    let a = sum_by-cons f x xs in let b = sum_by-cons f w xs in
    omega arith
sum-set f (x ∷ xs) (suc i) v w e =
    let r = sum-set f xs i v w e in
    let a = sum_by-cons f x xs in let b = sum_by-cons f x (set xs i w) in
    omega arith

-- a sum with one more view
pub sum-snoc : (f : SeatView → ℕ) (views : List SeatView) (w : SeatView) → sum_by f (views ++ w ∷ []) ≡ sum_by f views + f w
sum-snoc f views w = let r = sum_by-append f views (w ∷ []) in omega arith

-- one view is a part of the sum
pub le-sum : (f : SeatView → ℕ) (views : List SeatView) (i : ℕ) (v : SeatView) → get_elem? views i ≡ some v → f v ≤ sum_by f views
le-sum f [] i v e = absurd (some-ne-none v (sym e))
le-sum f (x ∷ xs) zero v e = let is : f x ≡ f v = ap f (some-injective x v e) in let a = sum_by-cons f x xs in omega arith
le-sum f (x ∷ xs) (suc i) v e = let r = le-sum f xs i v e in let a = sum_by-cons f x xs in omega arith

pub marked_one : (v : SeatView) → is_marked v ≤ 1
marked_one v = flags v.spent v.exhausted
  where
    flags : (a b : Bool) → cond a 1 (cond b 1 0) ≤ 1
    flags true b = omega arith
    flags false true = omega arith
    flags false false = omega arith

-- at most all seats are marked
pub marked-length : (views : List SeatView) → sum_by is_marked views ≤ length views
marked-length [] = omega arith
marked-length (x ∷ xs) = let r = marked-length xs in let o = marked_one x in let a = sum_by-cons is_marked x xs in omega arith

spent_one : (v : SeatView) → is_spent v ≤ 1
spent_one v = flag v.spent
  where
    flag : (a : Bool) → cond a 1 0 ≤ 1
    flag true = omega arith
    flag false = omega arith

spent-length : (views : List SeatView) → sum_by is_spent views ≤ length views
spent-length [] = omega arith
spent-length (x ∷ xs) = let r = spent-length xs in let o = spent_one x in let a = sum_by-cons is_spent x xs in omega arith

is_true : (v : SeatView) → is_spent v ≡ 1 → v.spent ≡ true
is_true v e = flag v.spent e
  where
    flag : (a : Bool) → ◌≡◌ {A = ℕ} (cond a 1 0) 1 → a ≡ true
    flag true e = refl
    flag false e = absurd (omega arith)

-- each spent view of the list counts 0
abbrev pub SpentIsNothing : (SeatView → ℕ) → List SeatView → Type 0
SpentIsNothing f views = (i : ℕ) (v : SeatView) → get_elem? views i ≡ some v → v.spent ≡ true → f v ≡ 0

-- if all seats are spent, the sum is 0
all_spent : (f : SeatView → ℕ) (views : List SeatView) → SpentIsNothing f views → sum_by is_spent views ≡ length views → sum_by f views ≡ 0
all_spent f [] nothing e = refl
all_spent f (x ∷ xs) nothing e =
    let o = spent_one x in let l = spent-length xs in
    let a = sum_by-cons is_spent x xs in let b = sum_by-cons f x xs in
    let one : is_spent x ≡ 1 = omega arith in
    let none = nothing zero x refl (is_true x one) in
    let r = all_spent f xs (λ i v. nothing (suc i) v) (omega arith) in
    omega arith

-- if a seat is not spent, not all are
some_left : (views : List SeatView) (i : ℕ) (v : SeatView) → get_elem? views i ≡ some v → is_spent v ≡ 0 → sum_by is_spent views + 1 ≤ length views
some_left [] i v at fresh = absurd (some-ne-none v (sym at))
some_left (x ∷ xs) zero v at fresh =
    let is : is_spent x ≡ is_spent v = ap is_spent (some-injective x v at) in
    let l = spent-length xs in let a = sum_by-cons is_spent x xs in omega arith
some_left (x ∷ xs) (suc i) v at fresh =
    let r = some_left xs i v at fresh in let o = spent_one x in let a = sum_by-cons is_spent x xs in omega arith

-- if all seats except one are spent, the sum is that of this one
pub one_left : (f : SeatView → ℕ) (views : List SeatView) (i : ℕ) (v : SeatView) → SpentIsNothing f views → get_elem? views i ≡ some v → is_spent v ≡ 0 → sum_by is_spent views + 1 ≡ length views
    → sum_by f views ≡ f v
one_left f [] i v nothing at fresh e = absurd (some-ne-none v (sym at))
one_left f (x ∷ xs) zero v nothing at fresh e =
    let is : x ≡ v = some-injective x v at in
    let none : is_spent x ≡ is_spent v = ap is_spent is in
    let a = sum_by-cons is_spent x xs in let b = sum_by-cons f x xs in
    let r = all_spent f xs (λ j u. nothing (suc j) u) (omega arith) in
    let same : f x ≡ f v = ap f is in
    omega arith
one_left f (x ∷ xs) (suc i) v nothing at fresh e =
    let o = spent_one x in let l = some_left xs i v at fresh in
    let a = sum_by-cons is_spent x xs in let b = sum_by-cons f x xs in
    let one : is_spent x ≡ 1 = omega arith in
    let none = nothing zero x refl (is_true x one) in
    let r = one_left f xs i v (λ j u. nothing (suc j) u) at fresh (omega arith) in
    omega arith
