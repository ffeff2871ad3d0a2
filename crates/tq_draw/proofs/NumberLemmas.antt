-- The greater of two numbers.
use Rattle.std.proofs.Common.{◌≡◌, ℕ, inl, inr, max, arith}
use Rattle.std.proofs.lemmas.Bool.{cases_lt}
use Rattle.std.proofs.lemmas.Bool.Decides.{nat_tests}
use Rattle.std.specs.Ordering.{nat_cmp, ord_max}

pub max_is : (a b : ℕ) → ord_max nat_cmp a b ≡ max a b
max_is a b = elim (cases_lt b a) [ inl below ↦ grind (arith, nat_tests) | inr above ↦ grind (arith, nat_tests) ]
