use Rattle.std.proofs.Common.{◌≡◌, ◌<◌, ◌≤◌, ◌∙◌, ℕ, List, length, get_or, sym, arith, refl, true, Result, Ok, Err, inl, inr}
use Rattle.std.specs.Prelude.{Contains}
use Rattle.std.specs.Result.{MatchResult, is_ok}
use Rattle.std.proofs.lemmas.Bool.{cases_lt}
use Rattle.std.proofs.lemmas.List.Sorted.{searched}
use Rattle.std.proofs.lemmas.List.{get_or_default}
use Rattle.tq_core.proofs.world.is_length.Goals as goal

found : (xs : List ℕ) (x : ℕ) (r : Result ℕ ℕ) → MatchResult r (λ i. (i < length xs) × (get_or xs i 0 ≡ x)) (λ i. (i ≤ length xs) × ((k : ℕ) → k < i → get_or xs k 0 < x) × ((k : ℕ) → i ≤ k → k < length xs → x < get_or xs k 0))
    → (is_ok r ≡ true → Contains xs x) × (Contains xs x → is_ok r ≡ true)
found xs x (Ok i) (less, same) = (λ _. (i, less, get_or_default xs i x 0 less ∙ same), λ _. refl)
found xs x (Err i) (within, below, above) = (
  λ is. absurd (cc),
  λ (k, less, same).
      let value : get_or xs k 0 ≡ x = sym (get_or_default xs k x 0 less) ∙ same in
      elim (cases_lt k i) [
        | inl before ↦ absurd (omega (arith, below k before, value))
        | inr after ↦ absurd (omega (arith, above k after less, value))
      ],
)

pub returns : goal.returns
returns c =
    let answer = found c.args.lengths.now c.args.at c.binary_search.result (searched c.args.lengths.now c.args.at c.binary_search.result c.binary_search.ensures.position c.requires) in
    (λ is. answer.0 (sym c.is_ok.ensures.value ∙ is), λ contained. c.is_ok.ensures.value ∙ answer.1 contained)
