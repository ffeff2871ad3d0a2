-- The first instants of a period that pass a test, and the first period within it that misses something.
use Rattle.std.proofs.Common.{◌≡◌, ◌∙◌, ℕ, zero, suc, ◌+◌, ◌-◌, ◌<◌, ◌≤◌, Bool, true, false, cond, not, Option, Some, None, ap, refl, sym, arith, unwrap_or, inl, inr}
use Rattle.std.specs.Prelude.{◌⊎◌}
use Rattle.std.specs.Option.{option_map}
use Rattle.std.proofs.lemmas.Bool.{cases_lt}
use Rattle.tq_check.specs.Orphans.{first_instant, first_within, missing_from, missing_in}
use Rattle.tq_check.specs.declared.missing.Missing.{Missing}

pub no_instant : (test : ℕ → Bool) (at : ℕ) → first_instant test at 0 ≡ None
unfolding first_instant
no_instant test at = refl

pub one_instant : (test : ℕ → Bool) (at count : ℕ) → first_instant test at (suc count) ≡ cond (test at) (Some at) (first_instant test (at + 1) count)
unfolding first_instant
one_instant test at count = refl

-- the instant is found if it passes and none before it does
instant_found : (test : ℕ → Bool) (count at k : ℕ) → at ≤ k → k < at + count → ((t : ℕ) → at ≤ t → t < k → test t ≡ false) → test k ≡ true → first_instant test at count ≡ Some k
instant_found test zero at k least less before is = absurd (omega (arith, least, less))
instant_found test (suc count) at k least less before is =
    one_instant test at count
    ∙ elim (cases_lt at k) [
      | inl below ↦ ap (λ b. cond b (Some at) (first_instant test (at + 1) count)) (before at (omega arith) below) ∙ instant_found test count (at + 1) k (omega (arith, below)) (omega (arith, less)) (λ t least_t less_t. before t (omega (arith, least_t)) less_t) is
      | inr most ↦ let same : k ≡ at = omega (arith, least, most) in ap (λ b. cond b (Some at) (first_instant test (at + 1) count)) (sym (ap test same) ∙ is) ∙ ap Some (sym same)
    ]

-- nothing is found if none passes
nothing_found : (test : ℕ → Bool) (count at : ℕ) → ((t : ℕ) → at ≤ t → t < at + count → test t ≡ false) → first_instant test at count ≡ None
nothing_found test zero at none = no_instant test at
nothing_found test (suc count) at none =
    one_instant test at count
    ∙ ap (λ b. cond b (Some at) (first_instant test (at + 1) count)) (none at (omega arith) (omega arith))
    ∙ nothing_found test count (at + 1) (λ t least less. none t (omega (arith, least)) (omega (arith, less)))

first_is : (test : ℕ → Bool) (start end k : ℕ) → start ≤ k → k < end → ((t : ℕ) → start ≤ t → t < k → test t ≡ false) → test k ≡ true → first_within test start end ≡ Some k
first_is test start end k least less before is = instant_found test (end - start) start k least (omega (arith, least, less)) before is

first_is_none : (test : ℕ → Bool) (start end : ℕ) → start ≤ end → ((t : ℕ) → start ≤ t → t < end → test t ≡ false) → first_within test start end ≡ None
first_is_none test start end order none = nothing_found test (end - start) start (λ t least less. none t least (omega (arith, less, order)))

-- a maximal period without an instant that passes, of which the end is given
pub record IsMissing (test : ℕ → Bool) (from end : ℕ) (missing : Missing) : Type 0 where
  pub from_is : missing.from ≡ from
  pub some : from < missing.to
  pub most : missing.to ≤ end
  pub none : (t : ℕ) → from ≤ t → t < missing.to → test t ≡ false
  pub next : (missing.to ≡ end) ⊎ (test missing.to ≡ true)

ends_there : (test : ℕ → Bool) (from end : ℕ) (missing : Missing) → IsMissing test from end missing → unwrap_or (first_within test from end) end ≡ missing.to
ends_there test from end missing is = elim (cases_lt missing.to end) [
  | inl less ↦ within less is.next
  | inr least ↦
      let same : missing.to ≡ end = let most = is.most in omega (arith, least, most) in
      let some = is.some in
      let most = is.most in
      ap (λ (o : Option ℕ). unwrap_or o end) (first_is_none test from end (omega (arith, some, most)) (λ t from_t less. is.none t from_t (omega (arith, less, same)))) ∙ sym same
]
  where
    within : missing.to < end → (missing.to ≡ end) ⊎ (test missing.to ≡ true) → unwrap_or (first_within test from end) end ≡ missing.to
    within less (inl same) = absurd (omega (arith, less, same))
    within less (inr passes) =
        let some = is.some in
        ap (λ (o : Option ℕ). unwrap_or o end) (first_is test from end missing.to (omega (arith, some)) less (λ t from_t less_t. is.none t from_t less_t) passes)

-- a period before which all instants pass is the first one that is missing
pub missing_found : (test : ℕ → Bool) (start end from : ℕ) (missing : Missing) → start ≤ from → ((t : ℕ) → start ≤ t → t < from → test t ≡ true) → IsMissing test from end missing → missing_in test start end ≡ Some missing
missing_found test start end from missing least before is =
    let some = is.some in
    let most = is.most in
    let first : first_within (λ at. not (test at)) start end ≡ Some from =
    first_is (λ at. not (test at)) start end from least (omega (arith, some, most)) (λ t start_t less. ap not (before t start_t less)) (ap not (is.none from (omega arith) some)) in
    ap (option_map (missing_from test end)) first
    ∙ (λ i. Some (record { from = sym is.from_is i; to = ends_there test from end missing is i }))

-- nothing is missing if all instants pass
pub nothing_missing : (test : ℕ → Bool) (start end : ℕ) → start ≤ end → ((t : ℕ) → start ≤ t → t < end → test t ≡ true) → missing_in test start end ≡ None
nothing_missing test start end order all =
    ap (option_map (missing_from test end)) (first_is_none (λ at. not (test at)) start end order (λ t start_t less. ap not (all t start_t less)))
