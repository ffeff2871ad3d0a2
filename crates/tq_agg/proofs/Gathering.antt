-- What the gathered rows add at an instant of the window is what the rows then valid add.
use Rattle.std.proofs.Common.{◌≡◌, ℕ, ℤ, pos, Bool, true, false, ◌&&◌, cond, nat_le, nat_lt, List, [], ◌∷◌, length, filter, refl, sym, ap, ◌∙◌, arith}
use Rattle.std.proofs.lemmas.Bool.Decides.{nat_tests}
use Rattle.std.proofs.lemmas.Int.{ints}
use Rattle.tq_base.specs.declared.value.Value.{Value}
use Rattle.tq_base.specs.declared.period.Period.{Period}
use Rattle.tq_base.specs.declared.fragment.Fragment.{Fragment}
use Rattle.tq_base.specs.Periods.{holds}
use Rattle.tq_base.specs.Fragments.{at}
use Rattle.tq_base.specs.Keys.{is_overlap, overlapping}
use Rattle.tq_agg.specs.Totals.{added}
use Rattle.tq_agg.proofs.Adding.{added-filter, added-map, added-same}

apart_at : (a b c d t : ℕ) → (nat_lt a d && nat_lt c b) ≡ false → ((nat_le a t && nat_lt t b) && (nat_le c t && nat_lt t d)) ≡ false
apart_at a b c d t apart = grind (arith, nat_tests)

module _ (window : Period) (t : ℕ) (inside : holds window t ≡ true) (w : List Value → ℤ) where
  -- what the fragment adds inside the window, and what it adds at all
  abbrev cut_weight : Fragment → ℤ
  cut_weight f = cond (holds f.period t && holds window t) (w f.values) (pos 0)

  abbrev whole_weight : Fragment → ℤ
  whole_weight f = cond (holds f.period t) (w f.values) (pos 0)

  cut_is_whole : (f : Fragment) → cut_weight f ≡ whole_weight f
  cut_is_whole f = ap (λ b. cond (holds f.period t && b) (w f.values) (pos 0)) inside ∙ both (holds f.period t)
    where
      both : (h : Bool) → cond (h && true) (w f.values) (pos 0) ≡ cond h (w f.values) (pos 0)
      both true = refl
      both false = refl

  overlaps : (f : Fragment) → cond (is_overlap f.period window) (cut_weight f) (pos 0) ≡ whole_weight f
  overlaps f = cases (is_overlap f.period window) refl
    where
      cases : (b : Bool) → is_overlap f.period window ≡ b → cond b (cut_weight f) (pos 0) ≡ whole_weight f
      cases true is = cut_is_whole f
      cases false is = sym (ap (λ b. cond b (w f.values) (pos 0)) (apart_at f.period.start f.period.end window.start window.end t is)) ∙ cut_is_whole f

  added-at : (fragments : List Fragment) → added w (at fragments t) ≡ added whole_weight fragments
  added-at fragments = added-map w (λ f. f.values) (filter (λ f. holds f.period t) fragments) ∙ added-filter (λ f. holds f.period t) (λ f. w f.values) fragments

  pub all_add : (fragments : List Fragment) → added cut_weight fragments ≡ added w (at fragments t)
  all_add fragments = added-same cut_weight whole_weight cut_is_whole fragments ∙ sym (added-at fragments)

  -- those that overlap the window add what all rows do
  pub gathered_add : (fragments : List Fragment) → added cut_weight (overlapping window fragments) ≡ added w (at fragments t)
  gathered_add fragments =
      added-filter (λ f. is_overlap f.period window) cut_weight fragments
      ∙ added-same (λ f. cond (is_overlap f.period window) (cut_weight f) (pos 0)) whole_weight overlaps fragments
      ∙ sym (added-at fragments)

pub added-ones : {X : Type 0} (xs : List X) → added (λ (x : X). pos 1) xs ≡ pos (length xs)
added-ones [] = refl
added-ones {X} (x ∷ xs) = omega (arith, ints, added-ones xs)
