-- Lists of what rows add.
use Rattle.std.proofs.Common.{◌≡◌, ◌+◌, ◌<◌, ◌++◌, ◌∷◌, [], ℕ, ℤ, pos, Bool, true, false, List, get_or, length, nat_lt, refl, sym, ap, ◌∙◌, subst, arith, length-append}
use Rattle.std.proofs.lemmas.List.{get_or_append_left, get_or_push}
use Rattle.std.proofs.lemmas.Bool.Decides.{nat_tests}
use Rattle.tq_base.specs.declared.fragment.Fragment.{Fragment}
use Rattle.tq_base.specs.Relations.{values_at_number}
use Rattle.tq_agg.specs.declared.summands.Summand.{Summand}
use Rattle.tq_agg.specs.Totals.{weight_of, AreWeights}

-- one more row
pub weights_more : (rows : List Fragment) (s : Summand) (weights : List ℤ) (weight : ℤ) (place : ℕ) → length weights ≡ place → AreWeights rows s weights → weight ≡ weight_of s (values_at_number rows place)
    → AreWeights rows s (weights ++ weight ∷ [])
weights_more rows s weights weight place many before is row lt = by (nat_lt row place) refl
  where
    by : (b : Bool) → nat_lt row place ≡ b → get_or (weights ++ weight ∷ []) row (pos 0) ≡ weight_of s (values_at_number rows row)
    by true e =
        let below : row < length weights = grind (arith, nat_tests) in
        get_or_append_left weights (weight ∷ []) (pos 0) row below ∙ before row below
    by false e =
        let same : place ≡ row = let more = length-append weights (weight ∷ []) in grind (arith, nat_tests) in
        get_or_push weights weight (pos 0) row (many ∙ same) ∙ is ∙ ap (λ n. weight_of s (values_at_number rows n)) same

-- the lists of the summands before a place
pub record AreListed (rows : List Fragment) (summands : List Summand) (lists : List (List ℤ)) (place : ℕ) : Type 0 where
  pub many : length lists ≡ place
  pub each : (k : ℕ) (d : Summand) → k < place → AreWeights rows (get_or summands k d) (get_or lists k [])

-- one more list
pub listed_more : (rows : List Fragment) (summands : List Summand) (lists : List (List ℤ)) (list : List ℤ) (place : ℕ) → AreListed rows summands lists place
    → ((d : Summand) → AreWeights rows (get_or summands place d) list) → AreListed rows summands (lists ++ list ∷ []) (place + 1)
listed_more rows summands lists list place before here = record {
  many = omega (arith, before.many, length-append lists (list ∷ []));
  each = λ k d lt. by k d lt (nat_lt k place) refl;
}
  where
    by : (k : ℕ) (d : Summand) → k < place + 1 → (b : Bool) → nat_lt k place ≡ b → AreWeights rows (get_or summands k d) (get_or (lists ++ list ∷ []) k [])
    by k d lt true e =
        let many = before.many in
        let below : k < place = grind (arith, nat_tests) in
        let there : k < length lists = omega (arith, many, below) in
        subst (AreWeights rows (get_or summands k d)) (sym (get_or_append_left lists (list ∷ []) [] k there)) (before.each k d below)
    by k d lt false e =
        let same : place ≡ k = grind (arith, nat_tests) in
        subst (λ n. AreWeights rows (get_or summands n d) (get_or (lists ++ list ∷ []) n [])) same
        (subst (AreWeights rows (get_or summands place d)) (sym (get_or_push lists list [] place before.many)) (here d))
