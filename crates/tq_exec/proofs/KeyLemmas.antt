-- Keys of ranges, counted.
use Rattle.std.proofs.Common.{◌≡◌, ◌≤◌, ◌+◌, ◌⊎◌, Bool, true, false, cond, ◌∙◌, ap, arith, inl, inr, refl, subst, sym}
use Rattle.std.specs.Prelude.{◌&&◌, ◌≤ℤ◌, ◌<ℤ◌, ℤ, T, int_le}
use Rattle.std.specs.Int.{int_max, int_min}
use Rattle.std.specs.Int.Signed.{clash_ℤ, le_z_yes}
use Rattle.std.proofs.lemmas.Int.{by_lt_z, int_max_is, int_min_is, ints}
use Rattle.tq_base.specs.declared.key_range.KeyRange.{KeyRange}
use Rattle.tq_exec.specs.Reads.{is_key_in}

-- a key is in a range once at most
pub at_most_one : (key : ℤ) (range : KeyRange) → is_key_in key range ≤ 1
at_most_one key range = by (int_le range.low key && int_le key range.high)
  where
    by : (b : Bool) → cond b 1 0 ≤ 1
    by true = omega arith
    by false = omega arith

abbrev IsOutside : ℤ → KeyRange → Type 0
IsOutside key range = (key <ℤ range.low) ⊎ (range.high <ℤ key)

-- a key is in the range, or outside it
pub inside_or_outside : (key : ℤ) (range : KeyRange) → ((range.low ≤ℤ key) × (key ≤ℤ range.high)) ⊎ IsOutside key range
inside_or_outside key range = by_lt_z key range.low (λ below. inr (inl below)) (λ low. by_lt_z range.high key (λ above. inr (inr above)) (λ high. inl (low, high)))

yes : (b : Bool) → T b → b ≡ true
yes true t = refl
yes false t = absurd t

not_le : (a b : ℤ) → b <ℤ a → int_le a b ≡ false
not_le a b less = by (int_le a b) refl
  where
    by : (c : Bool) → int_le a b ≡ c → c ≡ false
    by true is = clash_ℤ less (le_z_yes (subst (λ c. T c) (sym is) tt))
    by false is = refl

pub inside_once : (key : ℤ) (range : KeyRange) → range.low ≤ℤ key → key ≤ℤ range.high → is_key_in key range ≡ 1
inside_once key range low high = λ i. cond (yes (int_le range.low key) low.le i && yes (int_le key range.high) high.le i) 1 0

and_false : (b : Bool) → (b && false) ≡ false
and_false true = refl
and_false false = refl

pub outside_never : (key : ℤ) (range : KeyRange) → IsOutside key range → is_key_in key range ≡ 0
outside_never key range (inl below) = λ i. cond (not_le range.low key below i && int_le key range.high) 1 0
outside_never key range (inr above) = (λ i. cond (int_le range.low key && not_le key range.high above i) 1 0) ∙ ap (λ b. cond b 1 0) (and_false (int_le range.low key))

-- the smallest range that has two ranges which have a key in common
module _ (one other range : KeyRange) (low : range.low ≡ int_min one.low other.low) (high : range.high ≡ int_max one.high other.high) where
  pub has_first : (key : ℤ) → is_key_in key one ≤ is_key_in key range
  has_first key = elim (inside_or_outside key one) [
    | inl has ↦
        omega (
          arith,
          at_most_one key one,
          inside_once key range (omega (arith, ints, low, has.0, int_min_is one.low other.low)) (omega (arith, ints, high, has.1, int_max_is one.high other.high)),
        )
    | inr out ↦ omega (arith, outside_never key one out)
  ]

  pub has_second : (key : ℤ) → is_key_in key other ≤ is_key_in key range
  has_second key = elim (inside_or_outside key other) [
    | inl has ↦
        omega (
          arith,
          at_most_one key other,
          inside_once key range (omega (arith, ints, low, has.0, int_min_is one.low other.low)) (omega (arith, ints, high, has.1, int_max_is one.high other.high)),
        )
    | inr out ↦ omega (arith, outside_never key other out)
  ]

  pub has_no_others : one.low ≤ℤ other.high → other.low ≤ℤ one.high → (key : ℤ) → is_key_in key range ≤ is_key_in key one + is_key_in key other
  has_no_others first second key = by (inside_or_outside key range) (inside_or_outside key one) (inside_or_outside key other)
    where
      by : ((range.low ≤ℤ key) × (key ≤ℤ range.high)) ⊎ IsOutside key range → ((one.low ≤ℤ key) × (key ≤ℤ one.high)) ⊎ IsOutside key one → ((other.low ≤ℤ key) × (key ≤ℤ other.high)) ⊎ IsOutside key other
          → is_key_in key range ≤ is_key_in key one + is_key_in key other
      by (inr out) a b = omega (arith, outside_never key range out)
      by (inl has) (inl a) b = omega (arith, at_most_one key range, inside_once key one a.0 a.1)
      by (inl has) (inr a) (inl b) = omega (arith, at_most_one key range, inside_once key other b.0 b.1)
      by (inl has) (inr (inl a)) (inr (inl b)) = absurd (omega (arith, ints, low, has.0, a, b, int_min_is one.low other.low))
      by (inl has) (inr (inr a)) (inr (inr b)) = absurd (omega (arith, ints, high, has.1, a, b, int_max_is one.high other.high))
      by (inl has) (inr (inl a)) (inr (inr b)) = absurd (omega (arith, ints, first, a, b))
      by (inl has) (inr (inr a)) (inr (inl b)) = absurd (omega (arith, ints, second, a, b))
