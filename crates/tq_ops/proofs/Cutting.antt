-- Periods cut to a window.
use Rattle.std.specs.Prelude.{◌≡◌, ℕ, ◌<◌, Bool, true, false, ◌&&◌, List, min, max, nat_le, nat_lt, IsTrue, refl}
use Rattle.std.proofs.Common.{cond, ap, ◌∙◌, arith}
use Rattle.std.proofs.lemmas.Bool.Decides.{nat_tests}
use Rattle.tq_base.specs.declared.value.Value.{Value}
use Rattle.tq_base.specs.declared.period.Period.{Period}
use Rattle.tq_base.specs.declared.fragment.Fragment.{Fragment}
use Rattle.tq_base.specs.Periods.{holds, Overlap, IsOverlap}
use Rattle.tq_base.specs.Fragments.{at, copies}
use Rattle.tq_base.specs.Keys.{is_overlap}
use Rattle.tq_condition.specs.Ordinary.{HasInside, IsEmptyOutside}
use Rattle.tq_ops.proofs.Counting.{none_there}

holds_both : (a b c d t : ℕ) → (nat_le (max a c) t && nat_lt t (min b d)) ≡ ((nat_le a t && nat_lt t b) && (nat_le c t && nat_lt t d))
holds_both a b c d t = grind (arith, nat_tests)

pub holds-overlap : (p q both : Period) → IsOverlap p q both → (t : ℕ) → holds both t ≡ (holds p t && holds q t)
holds-overlap p q both is t = ap (λ s. nat_le s t && nat_lt t both.end) is.0 ∙ ap (λ e. nat_le (max p.start q.start) t && nat_lt t e) is.1 ∙ holds_both p.start p.end q.start q.end t

apart_at : (a b c d t : ℕ) → (nat_lt a d && nat_lt c b) ≡ false → ((nat_le a t && nat_lt t b) && (nat_le c t && nat_lt t d)) ≡ false
apart_at a b c d t apart = grind (arith, nat_tests)

pub holds_not_both : (p q : Period) (t : ℕ) → is_overlap p q ≡ false → (holds p t && holds q t) ≡ false
holds_not_both p q t apart = apart_at p.start p.end q.start q.end t apart

starts_before : (a b c d t : ℕ) → ((nat_le a t && nat_lt t b) && (nat_le c t && nat_lt t d)) ≡ true → a < d
starts_before a b c d t both = grind (arith, nat_tests)

ends_after : (a b c d t : ℕ) → ((nat_le a t && nat_lt t b) && (nat_le c t && nat_lt t d)) ≡ true → c < b
ends_after a b c d t both = grind (arith, nat_tests)

pub holds_apart : (p q : Period) → (Overlap p q → ⊥) → (t : ℕ) → (holds p t && holds q t) ≡ false
holds_apart p q apart t = split (holds p t && holds q t) refl
  where
    split : (b : Bool) → (holds p t && holds q t) ≡ b → b ≡ false
    split false is = refl
    split true is = absurd (apart (starts_before p.start p.end q.start q.end t is, ends_after p.start p.end q.start q.end t is))

-- the clauses follow from the number of copies inside the window and none outside
pub inside_from_counts : (window : Period) (out : List Fragment) (count : ℕ → List Value → ℕ) → ((t : ℕ) (v : List Value) → copies out v t ≡ cond (holds window t) (count t v) 0) → HasInside window out count
inside_from_counts window out count counted t v inside = counted t v ∙ cases (holds window t) inside
  where
    cases : (b : Bool) → IsTrue b → cond b (count t v) 0 ≡ count t v
    cases true inside = refl
    cases false inside = cc

pub outside_from_counts : (window : Period) (out : List Fragment) (count : ℕ → List Value → ℕ) → ((t : ℕ) (v : List Value) → copies out v t ≡ cond (holds window t) (count t v) 0) → IsEmptyOutside window out
outside_from_counts window out count counted t outside = none_there (at out t) (λ v. counted t v ∙ ap (λ b. cond b (count t v) 0) outside)
