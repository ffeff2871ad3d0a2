-- The columns of a text.
use Rattle.std.proofs.Common.{◌≡◌, ◌∙◌, ℕ, zero, suc, ◌-◌, ◌<◌, ◌≤◌, Bool, true, false, cond, nat_le, nat_lt, ◌+◌, ◌++◌, length-append, subst, List, [], ◌∷◌, get_or, length, ap, sym, arith, inl, inr, refl}
use Rattle.std.proofs.lemmas.Bool.{cases_Bool, cases_lt, false≢true, leb-true, ltb-true}
use Rattle.std.proofs.lemmas.Bool.Decides.{nat_tests}
use Rattle.std.proofs.lemmas.Str.{IsCharBoundary-before_ascii, IsUtf8-append, IsUtf8-from_ascii, IsUtf8-from_is_utf8, IsUtf8-take, chars-IsAscii, chars-append, is_utf8-from_IsUtf8}
use Rattle.std.proofs.lemmas.List.{get_or_at, get_or_past, take_at}
use Rattle.std.specs.Int.{is_in_range}
use Rattle.std.specs.List.{list_all}
use Rattle.std.specs.Fmt.{take_chars}
use Rattle.std.specs.Str.{IsAscii, IsCharBoundary, IsUtf8, chars, is_utf8}
use Rattle.unicode_width.proofs.Rules.{str_width-append_simple, str_width-printable}
use Rattle.unicode_width.specs.Width.{str_width}
use Rattle.tq_draw.specs.Labels.{columns_in, escaped_text, narrow_front}
use Rattle.tq_draw.specs.Laws.{LabelsAreNarrow}

abbrev by_test : List ℕ → Bool → ℕ
by_test bytes test = cond test (str_width false (chars bytes)) (length bytes)

pub columns_of_utf8 : (bytes : List ℕ) → IsUtf8 bytes → str_width false (chars bytes) ≡ columns_in bytes
unfolding columns_in
columns_of_utf8 bytes is = sym (ap (by_test bytes) (is_utf8-from_IsUtf8 bytes is))

pub columns_of_bytes : (bytes : List ℕ) → (IsUtf8 bytes → ⊥) → length bytes ≡ columns_in bytes
unfolding columns_in
columns_of_bytes bytes no_text =
    elim (cases_Bool (is_utf8 bytes)) [
      | inl is ↦ absurd (no_text (IsUtf8-from_is_utf8 bytes is))
      | inr other ↦ sym (ap (by_test bytes) other)
    ]

abbrev chosen : ℕ → List ℕ → Bool → List ℕ
chosen n text test = cond test (take_chars (suc n) text) (narrow_front n text)

-- the front of this many characters is narrow enough
pub front_fits : (n : ℕ) (text : List ℕ) → 0 < n → columns_in (take_chars n text) < 24 → take_chars n text ≡ narrow_front n text
unfolding narrow_front
front_fits zero text some fits = absurd (omega arith)
front_fits (suc n) text some fits =
    let test : nat_lt (columns_in (take_chars (suc n) text)) 24 ≡ true = grind (arith, nat_tests) in sym (ap (chosen n text) test)

-- or it is not
pub front_is_wide : (n : ℕ) (text : List ℕ) → 0 < n → 24 ≤ columns_in (take_chars n text) → narrow_front (n - 1) text ≡ narrow_front n text
unfolding narrow_front
front_is_wide zero text some wide = absurd (omega arith)
front_is_wide (suc n) text some wide =
    let test : nat_lt (columns_in (take_chars (suc n) text)) 24 ≡ false = grind (arith, nat_tests) in
    let same : suc n - 1 ≡ n = omega arith in
    ap (λ k. narrow_front k text) same ∙ sym (ap (chosen n text) test)

pub front_of_none : (text : List ℕ) → narrow_front 0 text ≡ []
unfolding narrow_front
front_of_none text = refl

-- each byte is a printable character of ASCII
abbrev pub ArePrintable : List ℕ → Type 0
ArePrintable bytes = (k d : ℕ) → k < length bytes → (32 ≤ get_or bytes k d) × (get_or bytes k d < 127)

printable_test : (bytes : List ℕ) → ArePrintable bytes → list_all (is_in_range 0x20 0x7E) bytes ≡ true
printable_test [] all = refl
printable_test (b ∷ bytes) all =
    let (low, high) = all 0 0 (omega arith) in
    let here : is_in_range 0x20 0x7E b ≡ true = grind (arith, nat_tests) in
    rw here (printable_test bytes (λ k d less. all (suc k) d (omega (arith, less))))

printable_ascii : (bytes : List ℕ) → ArePrintable bytes → IsAscii bytes
printable_ascii bytes all i =
    elim (cases_lt i (length bytes)) [
      | inl within ↦ let byte = all i 0 within in omega (arith, byte.1)
      | inr past ↦ rw (get_or_past bytes i 0 past) (omega arith)
    ]

either : (bytes : List ℕ) (test : Bool) → str_width false (chars bytes) ≡ length bytes → by_test bytes test ≡ length bytes
either bytes true is = is
either bytes false is = refl

-- printable characters of ASCII take one column each
pub columns_of_printable : (bytes : List ℕ) → ArePrintable bytes → columns_in bytes ≡ length bytes
unfolding columns_in
columns_of_printable bytes all =
    either bytes (is_utf8 bytes)
    (ap (str_width false) (chars-IsAscii bytes (printable_ascii bytes all)) ∙ str_width-printable false bytes (printable_test bytes all))

-- ---- labels

none_wide : columns_in [] < 24
none_wide = let none = columns_of_printable [] (λ k d less. absurd (omega arith)) in omega (arith, none)

narrow_from : (n : ℕ) (text : List ℕ) → columns_in (narrow_front n text) < 24
unfolding narrow_front
narrow_from zero text = none_wide
narrow_from (suc n) text =
    let front = take_chars (suc n) text in
    elim (cases_Bool (nat_lt (columns_in front) 24)) [
      | inl fits ↦ rw fits (ltb-true (columns_in front) 24 fits)
      | inr wide ↦ rw wide (narrow_from n text)
    ]

-- a text before `~` is UTF-8 if the whole is
utf8_before : (text : List ℕ) → IsUtf8 (text ++ 126 ∷ []) → IsUtf8 text
utf8_before text is =
    let whole = text ++ 126 ∷ [] in
    let at : get_or whole (length text) 0 ≡ 126 = get_or_at text 126 [] 0 (length text) refl in
    let long = length-append text (126 ∷ []) in
    let bound : IsCharBoundary whole (length text) = IsCharBoundary-before_ascii whole (length text) (omega (arith, long)) (omega (arith, at)) in
    subst IsUtf8 (take_at text (126 ∷ []) (length text) refl) (IsUtf8-take whole (length text) is bound)

tilde_ascii : IsAscii (126 ∷ [])
tilde_ascii = printable_ascii (126 ∷ []) (λ k d less. let first : k ≡ 0 = omega arith in rw first (omega arith, omega arith))

one_column : (text : List ℕ) → IsUtf8 text → str_width false (chars (text ++ 126 ∷ [])) ≡ str_width false (chars text) + 1
one_column text is =
    ap (str_width false) (chars-append text (126 ∷ []) is ∙ ap (λ l. chars text ++ l) (chars-IsAscii (126 ∷ []) tilde_ascii))
    ∙ str_width-append_simple false (chars text) (126 ∷ []) refl
    ∙ ap (λ n. str_width false (chars text) + n) (str_width-printable false (126 ∷ []) refl)

-- `~` takes one more column
tilde_adds : (text : List ℕ) → columns_in (text ++ 126 ∷ []) ≡ columns_in text + 1
tilde_adds text =
    let whole = text ++ 126 ∷ [] in
    elim (cases_Bool (is_utf8 whole)) [
      | inl is ↦
          let all = IsUtf8-from_is_utf8 whole is in
          let front = utf8_before text all in
          sym (columns_of_utf8 whole all) ∙ one_column text front ∙ ap (λ n. n + 1) (columns_of_utf8 text front)
      | inr other ↦
          let not_whole : IsUtf8 whole → ⊥ = λ is. false≢true (sym other ∙ is_utf8-from_IsUtf8 whole is) in
          let not_text : IsUtf8 text → ⊥ = λ is. not_whole (IsUtf8-append text (126 ∷ []) is (IsUtf8-from_ascii (126 ∷ []) tilde_ascii)) in
          sym (columns_of_bytes whole not_whole) ∙ length-append text (126 ∷ []) ∙ ap (λ n. n + 1) (columns_of_bytes text not_text)
    ]

abbrev label_by : List ℕ → Bool → List ℕ
label_by text test = cond test text (narrow_front 23 text ++ 126 ∷ [])

pub labels_are_narrow : LabelsAreNarrow
labels_are_narrow bytes = by (escaped_text bytes)
  where
    by : (text : List ℕ) → columns_in (label_by text (nat_le (columns_in text) 24)) ≤ 24
    by text =
        elim (cases_Bool (nat_le (columns_in text) 24)) [
          | inl fits ↦ rw fits (leb-true (columns_in text) 24 fits)
          | inr wide ↦ rw wide (omega (arith, tilde_adds (narrow_front 23 text), narrow_from 23 text))
        ]
