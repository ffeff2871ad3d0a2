-- The first characters of bytes, byte by byte.
use Rattle.std.proofs.Common.{◌≡◌, ◌∙◌, ℕ, ◌+◌, ◌-◌, ◌<◌, Bool, true, false, cond, List, [], ◌∷◌, ◌++◌, length, drop, get_or, ap, sym, refl, add-one, append_assoc, arith}
use Rattle.std.proofs.Math.Seq.{drop-cons}
use Rattle.std.proofs.lemmas.Bool.Decides.{nat_tests}
use Rattle.std.proofs.lemmas.List.{append-nil}
use Rattle.std.specs.Fmt.{is_char_start, take_chars}
use Rattle.std.specs.Prelude.{◌==◌}

-- the bytes that the definition takes, by whether a character begins here
abbrev chosen : ℕ → ℕ → List ℕ → Bool → List ℕ
chosen n b text test = cond test (cond (n == 0) [] (b ∷ take_chars (n - 1) text)) (b ∷ take_chars n text)

goes_on : (n b : ℕ) (text : List ℕ) → is_char_start b ≡ false → take_chars n (b ∷ text) ≡ b ∷ take_chars n text
unfolding take_chars
goes_on n b text inner = ap (chosen n b text) inner

begins : (n b : ℕ) (text : List ℕ) → is_char_start b ≡ true → 0 < n → take_chars n (b ∷ text) ≡ b ∷ take_chars (n - 1) text
unfolding take_chars
begins n b text starts some =
    let other : (n == 0) ≡ false = grind (arith, nat_tests) in
    ap (chosen n b text) starts ∙ ap (λ test. cond test [] (b ∷ take_chars (n - 1) text)) other

ends : (b : ℕ) (text : List ℕ) → is_char_start b ≡ true → take_chars 0 (b ∷ text) ≡ []
unfolding take_chars
ends b text starts = ap (chosen 0 b text) starts

nothing : (n : ℕ) → take_chars n [] ≡ []
unfolding take_chars
nothing n = refl

next : (bytes : List ℕ) (i : ℕ) → i < length bytes → drop i bytes ≡ get_or bytes i 0 ∷ drop (i + 1) bytes
next bytes i within = drop-cons bytes i 0 within ∙ ap (λ n. get_or bytes i 0 ∷ drop n bytes) (sym (add-one i))

-- a byte inside a character is taken if the byte before it was
pub front_goes_on : (front bytes whole : List ℕ) (left i : ℕ) → i < length bytes → is_char_start (get_or bytes i 0) ≡ false
    → front ++ take_chars left (drop i bytes) ≡ whole → (front ++ get_or bytes i 0 ∷ []) ++ take_chars left (drop (i + 1) bytes) ≡ whole
front_goes_on front bytes whole left i within inner is =
    append_assoc front (get_or bytes i 0 ∷ []) (take_chars left (drop (i + 1) bytes))
    ∙ ap (λ l. front ++ l) (sym (ap (take_chars left) (next bytes i within) ∙ goes_on left (get_or bytes i 0) (drop (i + 1) bytes) inner))
    ∙ is

-- a byte that begins a character is the first of the remaining ones
pub front_begins : (front bytes whole : List ℕ) (left i : ℕ) → i < length bytes → is_char_start (get_or bytes i 0) ≡ true → 0 < left
    → front ++ take_chars left (drop i bytes) ≡ whole → (front ++ get_or bytes i 0 ∷ []) ++ take_chars (left - 1) (drop (i + 1) bytes) ≡ whole
front_begins front bytes whole left i within starts some is =
    append_assoc front (get_or bytes i 0 ∷ []) (take_chars (left - 1) (drop (i + 1) bytes))
    ∙ ap (λ l. front ++ l) (sym (ap (take_chars left) (next bytes i within) ∙ begins left (get_or bytes i 0) (drop (i + 1) bytes) starts some))
    ∙ is

-- if no more characters are taken, the result is complete
pub front_ends : (front bytes whole : List ℕ) (i : ℕ) → i < length bytes → is_char_start (get_or bytes i 0) ≡ true
    → front ++ take_chars 0 (drop i bytes) ≡ whole → front ≡ whole
front_ends front bytes whole i within starts is =
    sym (ap (λ l. front ++ l) (ap (take_chars 0) (next bytes i within) ∙ ends (get_or bytes i 0) (drop (i + 1) bytes) starts) ∙ append-nil front) ∙ is

-- and if no bytes are left
pub front_whole : (front whole : List ℕ) (left : ℕ) → front ++ take_chars left [] ≡ whole → front ≡ whole
front_whole front whole left is = sym (ap (λ l. front ++ l) (nothing left) ∙ append-nil front) ∙ is
