-- Normalized key prefixes: numbers that never decrease as values increase, so that comparing two numbers decides most
-- comparisons of values.
use Rattle.std.specs.Prelude.{◌≡◌, ◌≢◌, ℕ, zero, suc, ◌+◌, ◌-◌, ◌*◌, ◌^◌, ◌<◌, ◌≤◌, nat_lt, nat_le, min, List, [], ◌∷◌, All, pos, negsuc, refl, length, Bool, true, false, cond}
use Rattle.std.specs.Ordering.{nat_cmp, ordering_reverse, ordering_then}
use Rattle.std.specs.declared.cmp.Ordering.{Ordering}
use Rattle.std.specs.declared.cmp.Ordering.TheVariants.{Less, Equal, Greater}
use Rattle.std.specs.Cmp.{ranked, tied_itself}
use Rattle.std.specs.Cmp.Lexicographic.{slice_cmp}
use Rattle.std.proofs.Common.{sym, ap, ◌∙◌, subst, arith, inl, inr, rules}
use Rattle.std.proofs.lemmas.Bool.{cases_lt}
use Rattle.std.proofs.lemmas.Bool.Decides.{nat_tests}
use Rattle.std.proofs.lemmas.List.Elements.{All-head, All-tail}
use Rattle.tq_base.specs.declared.value.Value.{Value}
use Rattle.tq_base.specs.Contents.{Int, Text}
pub use Rattle.tq_base.specs.Contents.{has_exact_prefix}
use Rattle.tq_base.specs.Contents.{padded}
use Rattle.tq_base.specs.ValueOrder.{value_cmp, value_total}

-- the number that begins with the digits so far and goes on with `places` bytes as digits of base 256, padded with
-- zeros
abbrev pub prefix_number : ℕ → ℕ → List ℕ → ℕ
prefix_number zero digits bytes = digits
prefix_number (suc places) digits [] = prefix_number places (digits * 256) []
prefix_number (suc places) digits (byte ∷ bytes) = prefix_number places (digits * 256 + byte) bytes

-- numbers of 64 signed bits in their order, other numbers as the next one beyond these; above them texts, by their
-- first 14 bytes, then by their length, where 15 means more than 14
abbrev pub normalized_key : Value → ℕ
normalized_key (Int (pos n)) = 2 ^ 63 + 1 + min n (2 ^ 63)
normalized_key (Int (negsuc n)) = 2 ^ 63 - n
normalized_key (Text t) = 2 ^ 120 + prefix_number 14 0 t * 256 + min (length t) 15

-- a text consists of bytes
abbrev pub HasBytes : Value → Type 0
HasBytes (Int n) = Unit {0}
HasBytes (Text t) = All (λ byte. byte < 256) t

-- ---- prefixes never decrease as values increase

-- earlier digits decide
pub prefix_number-lt : (places d e : ℕ) (s t : List ℕ) → All (λ byte. byte < 256) s → d < e → prefix_number places d s < prefix_number places e t
prefix_number-lt zero d e s t bytes lt = lt
prefix_number-lt (suc places) d e [] [] bytes lt = prefix_number-lt places (d * 256) (e * 256) [] [] bytes (omega (arith, lt))
prefix_number-lt (suc places) d e [] (y ∷ t) bytes lt = prefix_number-lt places (d * 256) (e * 256 + y) [] t bytes (omega (arith, lt))
prefix_number-lt (suc places) d e (x ∷ s) [] bytes lt =
    prefix_number-lt places (d * 256 + x) (e * 256) s [] (All-tail (λ byte. byte < 256) x s bytes) (let small = All-head (λ byte. byte < 256) x s bytes in omega (arith, small, lt))
prefix_number-lt (suc places) d e (x ∷ s) (y ∷ t) bytes lt =
    prefix_number-lt places (d * 256 + x) (e * 256 + y) s t (All-tail (λ byte. byte < 256) x s bytes) (let small = All-head (λ byte. byte < 256) x s bytes in omega (arith, small, lt))

nothing_below : (t : List ℕ) → slice_cmp nat_cmp [] t ≢ Greater
nothing_below [] is = cc
nothing_below (y ∷ t) is = cc

prefix_number-le : (places d : ℕ) (s t : List ℕ) → All (λ byte. byte < 256) s → slice_cmp nat_cmp s t ≢ Greater → prefix_number places d s ≤ prefix_number places d t
prefix_number-le zero d s t bytes order = omega arith
prefix_number-le (suc places) d [] [] bytes order = prefix_number-le places (d * 256) [] [] bytes order
prefix_number-le (suc places) d [] (zero ∷ t) bytes order =
    let same : d * 256 ≡ d * 256 + 0 = omega arith in
    subst (λ e. prefix_number places (d * 256) [] ≤ prefix_number places e t) same (prefix_number-le places (d * 256) [] t bytes (nothing_below t))
prefix_number-le (suc places) d [] (suc y ∷ t) bytes order =
    let less = prefix_number-lt places (d * 256) (d * 256 + suc y) [] t bytes (omega arith) in omega (arith, less)
prefix_number-le (suc places) d (x ∷ s) [] bytes order = absurd (order refl)
prefix_number-le (suc places) d (x ∷ s) (y ∷ t) bytes order =
    split (nat_cmp x y) refl (prefix_number-le places (d * 256 + x) s t (All-tail (λ byte. byte < 256) x s bytes))
  where
    split : (r : Ordering) → nat_cmp x y ≡ r → (slice_cmp nat_cmp s t ≢ Greater → prefix_number places (d * 256 + x) s ≤ prefix_number places (d * 256 + x) t) → prefix_number places (d * 256 + x) s ≤ prefix_number places (d * 256 + y) t
    split Less is rest =
        let lt : x < y = ranked x y Less (sym is) in
        let less = prefix_number-lt places (d * 256 + x) (d * 256 + y) s t (All-tail (λ byte. byte < 256) x s bytes) (omega arith) in
        omega (arith, less)
    split Equal is rest =
        let same : x ≡ y = ranked x y Equal (sym is) in
        subst (λ z. prefix_number places (d * 256 + x) s ≤ prefix_number places (d * 256 + z) t) same (rest (λ above. order (ap (λ r. ordering_then r (slice_cmp nat_cmp s t)) is ∙ above)))
    split Greater is rest = absurd (order (ap (λ r. ordering_then r (slice_cmp nat_cmp s t)) is))

-- of two texts with the same first bytes, the lesser is not longer; lengths are compared up to one more than the bytes
length-le : (places d : ℕ) (s t : List ℕ) → All (λ byte. byte < 256) s → All (λ byte. byte < 256) t → slice_cmp nat_cmp s t ≢ Greater → prefix_number places d s ≡ prefix_number places d t → min (length s) (places + 1) ≤ min (length t) (places + 1)
length-le places d [] t s_bytes t_bytes order same = omega arith
length-le places d (x ∷ s) [] s_bytes t_bytes order same = absurd (order refl)
length-le zero d (x ∷ s) (y ∷ t) s_bytes t_bytes order same = omega arith
length-le (suc places) d (x ∷ s) (y ∷ t) s_bytes t_bytes order same =
    split (nat_cmp x y) refl (length-le places (d * 256 + x) s t s_rest (All-tail (λ byte. byte < 256) y t t_bytes))
  where
    s_rest : All (λ byte. byte < 256) s
    s_rest = All-tail (λ byte. byte < 256) x s s_bytes

    split : (r : Ordering) → nat_cmp x y ≡ r → (slice_cmp nat_cmp s t ≢ Greater → prefix_number places (d * 256 + x) s ≡ prefix_number places (d * 256 + x) t → min (length s) (places + 1) ≤ min (length t) (places + 1))
        → min (length (x ∷ s)) (suc places + 1) ≤ min (length (y ∷ t)) (suc places + 1)
    split Less is rest =
        let lt : x < y = ranked x y Less (sym is) in
        let less = prefix_number-lt places (d * 256 + x) (d * 256 + y) s t s_rest (omega arith) in absurd (omega (arith, less, same))
    split Equal is rest =
        let first : x ≡ y = ranked x y Equal (sym is) in
        let le = rest (λ above. order (ap (λ r. ordering_then r (slice_cmp nat_cmp s t)) is ∙ above)) (same ∙ ap (λ z. prefix_number places (d * 256 + z) t) (sym first)) in
        omega (arith, le)
    split Greater is rest = absurd (order (ap (λ r. ordering_then r (slice_cmp nat_cmp s t)) is))

not_above : (m n : ℕ) → cond (nat_lt m n) Less (cond (nat_lt n m) Greater Equal) ≢ Greater → m ≤ n
not_above m n order = elim (cases_lt n m) [
  | inl less ↦ absurd (order (above (nat_lt m n) (nat_lt n m) (search (rules, nat_tests)) (search (rules, nat_tests))))
  | inr no_less ↦ no_less
]
  where
    above : (a b : Bool) → a ≡ false → b ≡ true → cond a Less (cond b Greater Equal) ≡ Greater
    above a b is_a is_b = rw (is_a, is_b) refl

-- a value that is not above another has no greater prefix
pub normalized_key-le : (x y : Value) → HasBytes x → HasBytes y → value_cmp x y ≢ Greater → normalized_key x ≤ normalized_key y
normalized_key-le (Int (pos m)) (Int (pos n)) x_bytes y_bytes order = let le = not_above m n order in omega (arith, le)
normalized_key-le (Int (pos m)) (Int (negsuc n)) x_bytes y_bytes order = absurd (order refl)
normalized_key-le (Int (negsuc m)) (Int (pos n)) x_bytes y_bytes order = omega arith
normalized_key-le (Int (negsuc m)) (Int (negsuc n)) x_bytes y_bytes order = let le = not_above n m order in omega (arith, le)
normalized_key-le (Int (pos m)) (Text t) x_bytes y_bytes order = omega arith
normalized_key-le (Int (negsuc m)) (Text t) x_bytes y_bytes order = omega arith
normalized_key-le (Text s) (Int n) x_bytes y_bytes order = absurd (order refl)
normalized_key-le (Text s) (Text t) s_bytes t_bytes order =
    let le = prefix_number-le 14 0 s t s_bytes order in
    elim (cases_lt (prefix_number 14 0 s) (prefix_number 14 0 t)) [
      | inl less ↦ omega (arith, less)
      | inr no_less ↦ let shorter = length-le 14 0 s t s_bytes t_bytes order (omega (arith, le, no_less)) in omega (arith, le, shorter)
    ]

-- a lesser prefix belongs to a lesser value
pub prefixes_rise : (v w : Value) → HasBytes v → HasBytes w → normalized_key v < normalized_key w → value_cmp v w ≡ Less
prefixes_rise v w bytes other_bytes lt = split (value_cmp w v) refl
  where
    split : (r : Ordering) → value_cmp w v ≡ r → value_cmp v w ≡ Less
    split Less is = let le = normalized_key-le w v other_bytes bytes (λ above. cc) in absurd (omega (arith, le, lt))
    split Equal is = let le = normalized_key-le w v other_bytes bytes (λ above. cc) in absurd (omega (arith, le, lt))
    split Greater is = value_total.antisymm v w ∙ ap ordering_reverse is

-- ---- exact prefixes determine values

-- texts of one length that fit into the places are determined by their digits
prefix_number_is_exact : (places d : ℕ) (s t : List ℕ) → All (λ byte. byte < 256) s → All (λ byte. byte < 256) t
    → length s ≡ length t → length s ≤ places → prefix_number places d s ≡ prefix_number places d t → s ≡ t
prefix_number_is_exact places d [] [] s_bytes t_bytes alike short same = refl
prefix_number_is_exact places d [] (y ∷ t) s_bytes t_bytes alike short same = absurd (omega (arith, alike))
prefix_number_is_exact places d (x ∷ s) [] s_bytes t_bytes alike short same = absurd (omega (arith, alike))
prefix_number_is_exact zero d (x ∷ s) (y ∷ t) s_bytes t_bytes alike short same = absurd (omega (arith, short))
prefix_number_is_exact (suc places) d (x ∷ s) (y ∷ t) s_bytes t_bytes alike short same =
    split (nat_cmp x y) refl
    (λ z both. prefix_number_is_exact places (d * 256 + z) s t s_rest t_rest (omega (arith, alike)) (omega (arith, short)) both)
  where
    s_rest : All (λ byte. byte < 256) s
    s_rest = All-tail (λ byte. byte < 256) x s s_bytes

    t_rest : All (λ byte. byte < 256) t
    t_rest = All-tail (λ byte. byte < 256) y t t_bytes

    split : (r : Ordering) → nat_cmp x y ≡ r → ((z : ℕ) → prefix_number places (d * 256 + z) s ≡ prefix_number places (d * 256 + z) t → s ≡ t) → x ∷ s ≡ y ∷ t
    split Less is rest =
        let lt : x < y = ranked x y Less (sym is) in
        let less = prefix_number-lt places (d * 256 + x) (d * 256 + y) s t s_rest (omega arith) in absurd (omega (arith, less, same))
    split Equal is rest =
        let first : x ≡ y = ranked x y Equal (sym is) in
        ap (λ z. z ∷ s) first ∙ ap (λ l. y ∷ l) (rest x (same ∙ ap (λ z. prefix_number places (d * 256 + z) t) (sym first)))
    split Greater is rest =
        let lt : y < x = ranked x y Greater (sym is) in
        let less = prefix_number-lt places (d * 256 + y) (d * 256 + x) t s t_rest (omega arith) in absurd (omega (arith, less, same))

below : (m n : ℕ) → nat_lt m n ≡ true → m < n
below m n is = search (rules, nat_tests, is)

at_most : (m n : ℕ) → nat_le m n ≡ true → m ≤ n
at_most m n is = search (rules, nat_tests, is)

-- two values with the same prefix are equal if it determines both
pub prefixes_are_exact : (v w : Value) → HasBytes v → HasBytes w → has_exact_prefix v ≡ true → has_exact_prefix w ≡ true → normalized_key v ≡ normalized_key w → v ≡ w
prefixes_are_exact (Int (pos m)) (Int (pos n)) v_bytes w_bytes v_exact w_exact same =
    let v_near = below m (2 ^ 63) v_exact in let w_near = below n (2 ^ 63) w_exact in ap (λ k. Int (pos k)) (omega (arith, v_near, w_near, same))
prefixes_are_exact (Int (pos m)) (Int (negsuc n)) v_bytes w_bytes v_exact w_exact same = absurd (omega (arith, same))
prefixes_are_exact (Int (negsuc m)) (Int (pos n)) v_bytes w_bytes v_exact w_exact same = absurd (omega (arith, same))
prefixes_are_exact (Int (negsuc m)) (Int (negsuc n)) v_bytes w_bytes v_exact w_exact same =
    let v_near = below m (2 ^ 63) v_exact in let w_near = below n (2 ^ 63) w_exact in ap (λ k. Int (negsuc k)) (omega (arith, v_near, w_near, same))
prefixes_are_exact (Int (pos m)) (Text t) v_bytes w_bytes v_exact w_exact same = absurd (omega (arith, same))
prefixes_are_exact (Int (negsuc m)) (Text t) v_bytes w_bytes v_exact w_exact same = absurd (omega (arith, same))
prefixes_are_exact (Text s) (Int (pos n)) v_bytes w_bytes v_exact w_exact same = absurd (omega (arith, same))
prefixes_are_exact (Text s) (Int (negsuc n)) v_bytes w_bytes v_exact w_exact same = absurd (omega (arith, same))
prefixes_are_exact (Text s) (Text t) v_bytes w_bytes v_exact w_exact same =
    let s_short = at_most (length s) 14 v_exact in
    let t_short = at_most (length t) 14 w_exact in
    let alike : length s ≡ length t = omega (arith, s_short, t_short, same) in
    let digits : prefix_number 14 0 s ≡ prefix_number 14 0 t = omega (arith, s_short, t_short, same) in
    ap Text (prefix_number_is_exact 14 0 s t v_bytes w_bytes alike s_short digits)

-- values that are determined by their prefixes are ordered as the prefixes
pub prefixes_order : (v w : Value) → HasBytes v → HasBytes w → has_exact_prefix v ≡ true → has_exact_prefix w ≡ true → nat_cmp (normalized_key v) (normalized_key w) ≡ value_cmp v w
prefixes_order v w v_bytes w_bytes v_exact w_exact = split (nat_cmp (normalized_key v) (normalized_key w)) refl
  where
    split : (r : Ordering) → nat_cmp (normalized_key v) (normalized_key w) ≡ r → r ≡ value_cmp v w
    split Less is = sym (prefixes_rise v w v_bytes w_bytes (ranked (normalized_key v) (normalized_key w) Less (sym is)))
    split Equal is =
        let same : v ≡ w = prefixes_are_exact v w v_bytes w_bytes v_exact w_exact (ranked (normalized_key v) (normalized_key w) Equal (sym is)) in
        sym (tied_itself value_total v) ∙ ap (value_cmp v) same
    split Greater is =
        let less : value_cmp w v ≡ Less = prefixes_rise w v w_bytes v_bytes (ranked (normalized_key v) (normalized_key w) Greater (sym is)) in
        sym (value_total.antisymm v w ∙ ap ordering_reverse less)

-- zeros after a text change no digits
pub prefix_padded : (places d : ℕ) (t : List ℕ) → prefix_number places d (padded places t) ≡ prefix_number places d t
prefix_padded zero d t = refl
prefix_padded (suc places) d [] = ap (λ e. prefix_number places e (padded places [])) (omega arith) ∙ prefix_padded places (d * 256) []
prefix_padded (suc places) d (byte ∷ t) = prefix_padded places (d * 256 + byte) t
