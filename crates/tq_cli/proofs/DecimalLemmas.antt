-- Where the name of a column of amounts ends.
use Rattle.std.proofs.Common.{arith, suc, ◌+◌, ◌≡◌, ◌∙◌, ◌==◌, ℕ, Bool, true, false, List, [], ◌∷◌, ◌++◌, length, take, drop, ap, refl, not, Contains, None, option_map}
use Rattle.std.proofs.lemmas.Bool.{eqb-true}
use Rattle.std.proofs.Math.Seq.{drop-append-add, take-append_seam}
use Rattle.std.specs.List.{after_first, before_first, list_any, prefix_len}
use Rattle.tq_base.specs.Numbers.{natural_up_to}
use Rattle.tq_cli.specs.CommandLine.{decimal_in, is_equals}

other_byte : (b : ℕ) → ¬ (b ≡ 61) → (b == 61) ≡ false
other_byte b other = by (b == 61) refl
  where
    by : (t : Bool) → (b == 61) ≡ t → t ≡ false
    by false e = refl
    by true e = absurd (other (eqb-true b 61 e))

first_is_other : (b : ℕ) (bs : List ℕ) → ¬ (Contains (b ∷ bs) 61) → ¬ (b ≡ 61)
first_is_other b bs none is = none (0, omega arith, is)

none_later : (b : ℕ) (bs : List ℕ) → ¬ (Contains (b ∷ bs) 61) → ¬ (Contains bs 61)
none_later b bs none has = none (suc has.0, omega (arith, has.1), has.2)

sign_after : (name digits : List ℕ) → ¬ (Contains name 61) → prefix_len (λ (x : ℕ). not (x == 61)) (name ++ 61 ∷ digits) ≡ length name
sign_after [] digits none = refl
sign_after (b ∷ bs) digits none =
    let here = other_byte b (first_is_other b bs none) in
    let more = sign_after bs digits (none_later b bs none) in
    rw here (omega (arith, more))

has_sign : (name digits : List ℕ) → list_any is_equals (name ++ 61 ∷ digits) ≡ true
has_sign [] digits = refl
has_sign (b ∷ bs) digits = by (b == 61) refl (has_sign bs digits)
  where
    by : (t : Bool) → (b == 61) ≡ t → list_any is_equals (bs ++ 61 ∷ digits) ≡ true → list_any is_equals (b ∷ bs ++ 61 ∷ digits) ≡ true
    by true e later = rw e refl
    by false e later = rw e later

has_none : (word : List ℕ) → ¬ (Contains word 61) → list_any is_equals word ≡ false
has_none [] none = refl
has_none (b ∷ bs) none = rw (other_byte b (first_is_other b bs none)) (has_none bs (none_later b bs none))

name_before : (name digits : List ℕ) → ¬ (Contains name 61) → before_first is_equals (name ++ 61 ∷ digits) ≡ name
name_before name digits none = ap (λ (n : ℕ). take n (name ++ 61 ∷ digits)) (sign_after name digits none) ∙ take-append_seam name (61 ∷ digits)

digits_after : (name digits : List ℕ) → ¬ (Contains name 61) → after_first is_equals (name ++ 61 ∷ digits) ≡ digits
digits_after name digits none = ap (λ (n : ℕ). drop (n + 1) (name ++ 61 ∷ digits)) (sign_after name digits none) ∙ drop-append-add name (61 ∷ digits) 1

-- The column of a word that is split at its first equals sign.
pub decimal_split : (name digits : List ℕ) → ¬ (Contains name 61)
    → decimal_in (name ++ 61 ∷ digits) ≡ option_map (λ places. (name, places)) (natural_up_to 18 digits)
decimal_split name digits none = rw (has_sign name digits, name_before name digits none, digits_after name digits none) refl

pub no_decimal : (word : List ℕ) → ¬ (Contains word 61) → decimal_in word ≡ None
no_decimal word none = rw (has_none word none) refl
