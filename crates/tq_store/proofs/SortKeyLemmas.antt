-- Keys and tree keys have the same order.
use Rattle.std.proofs.Common.{◌≡◌, ℕ, ◌+◌, ◌*◌, ◌%◌, ◌<◌, ◌≤◌, true, false, ap, sym, ◌∙◌, inl, inr, arith}
use Rattle.std.specs.Cmp.{nat_cmp_is}
use Rattle.std.specs.Ordering.{is_le, is_lt, nat_cmp}
use Rattle.std.specs.declared.cmp.Ordering.TheVariants.{Less, Equal, Greater}
use Rattle.std.proofs.lemmas.Bool.{cases_lt}
use Rattle.std.specs.Prelude.{ℤ, pos, negsuc, ◌≤ℤ◌, FitsSigned}
use Rattle.std.specs.Int.{w64}
use Rattle.std.proofs.lemmas.Int.{ints}
use Rattle.tq_store.specs.Keys.{shifted}

pub shifted-le : (a b : ℤ) → a ≤ℤ b → shifted a ≤ shifted b
shifted-le (pos m) (pos n) le = omega (arith, ints, le)
shifted-le (pos m) (negsuc n) le = absurd (omega (arith, ints, le))
shifted-le (negsuc m) (pos n) le = omega (arith, ints)
shifted-le (negsuc m) (negsuc n) le = omega (arith, ints, le)

pub unshifted-le : (a b : ℤ) → FitsSigned w64 a → FitsSigned w64 b → shifted a ≤ shifted b → a ≤ℤ b
unshifted-le (pos m) (pos n) fits_a fits_b le = omega (arith, ints, fits_a, fits_b, le)
unshifted-le (pos m) (negsuc n) fits_a fits_b le = absurd (omega (arith, ints, fits_a, fits_b, le))
unshifted-le (negsuc m) (pos n) fits_a fits_b le = omega (arith, ints)
unshifted-le (negsuc m) (negsuc n) fits_a fits_b le = omega (arith, ints, fits_a, fits_b, le)

pub key_row : (a r : ℕ) → r < 4294967296 → (a * 4294967296 + r) % 4294967296 ≡ r
key_row a r less = omega (arith, less)

-- ---- comparisons of numbers

pub is_less : (a b : ℕ) → a < b → is_lt (nat_cmp a b) ≡ true
is_less a b less = ap is_lt (sym (nat_cmp_is a b Less less))

pub not_is_less : (a b : ℕ) → b ≤ a → is_lt (nat_cmp a b) ≡ false
not_is_less a b le = elim (cases_lt b a) [
  | inl less ↦ ap is_lt (sym (nat_cmp_is a b Greater less))
  | inr up ↦ ap is_lt (sym (nat_cmp_is a b Equal (omega (arith, le, up))))
]

pub from_is_less : (a b : ℕ) → is_lt (nat_cmp a b) ≡ true → a < b
from_is_less a b is = elim (cases_lt a b) [
  | inl less ↦ less
  | inr le ↦ absurd (let wrong : true ≡ false = sym is ∙ not_is_less a b le in cc)
]

pub is_least : (a b : ℕ) → a ≤ b → is_le (nat_cmp a b) ≡ true
is_least a b le = elim (cases_lt a b) [
  | inl less ↦ ap is_le (sym (nat_cmp_is a b Less less))
  | inr up ↦ ap is_le (sym (nat_cmp_is a b Equal (omega (arith, le, up))))
]
