-- Bytes that a format writes as they are, and bytes that it escapes.
use Rattle.std.proofs.Common.{◌≡◌, ◌≢◌, ◌==◌, ◌&&◌, ◌<◌, ◌≤◌, ℕ, suc, Bool, true, false, List, [], ◌∷◌, ap, arith, get_or, length, nat_lt, refl}
use Rattle.std.specs.Prelude.{All}
use Rattle.std.specs.Char.{is_ascii_control}
use Rattle.std.proofs.lemmas.Bool.{ne_eqb}
use Rattle.std.proofs.lemmas.Bool.Decides.{nat_tests}
use Rattle.csv.specs.Writing.{escaped}
use Rattle.json.specs.Print.{escape_byte}
use Rattle.tq_shown.specs.Printable.{hidden_len}
use Rattle.tq_draw.specs.Labels.{columns_in, escaped_text}
use Rattle.tq_draw.proofs.ColumnLemmas.{columns_of_printable}
use Rattle.tq_table.specs.Text.{answer_format}

-- ---- CSV

pub quote_doubled : (b : ℕ) → b ≡ 34 → escaped answer_format (b ∷ []) ≡ 34 ∷ 34 ∷ []
unfolding escaped
quote_doubled b is = rw is refl

pub other_kept : (b : ℕ) → b ≢ 34 → escaped answer_format (b ∷ []) ≡ b ∷ []
unfolding escaped
other_kept b other = let no : (b == 34) ≡ false = ne_eqb b 34 other in rw no refl

-- ---- JSON

pub byte_kept : (b : ℕ) → 32 ≤ b → b ≢ 34 → b ≢ 92 → escape_byte b ≡ b ∷ []
unfolding escape_byte
byte_kept b low quote backslash =
    let e34 : (b == 34) ≡ false = ne_eqb b 34 quote in
    let e92 : (b == 92) ≡ false = ne_eqb b 92 backslash in
    let e8 : (b == 8) ≡ false = ne_eqb b 8 (λ e. omega (arith, e, low)) in
    let e12 : (b == 12) ≡ false = ne_eqb b 12 (λ e. omega (arith, e, low)) in
    let e10 : (b == 10) ≡ false = ne_eqb b 10 (λ e. omega (arith, e, low)) in
    let e13 : (b == 13) ≡ false = ne_eqb b 13 (λ e. omega (arith, e, low)) in
    let e9 : (b == 9) ≡ false = ne_eqb b 9 (λ e. omega (arith, e, low)) in
    let e32 : nat_lt b 32 ≡ false = grind (arith, nat_tests) in
    rw (e34, e92, e8, e12, e10, e13, e9, e32) refl

-- ---- pictures

-- a printable character of ASCII other than a backslash
pub record IsShownByte (b : ℕ) : Type 0 where
  pub low : 32 ≤ b
  pub high : b < 127
  pub other : b ≢ 92

not_both : (x : Bool) → (x && false) ≡ false
not_both true = refl
not_both false = refl

not_hidden : (b : ℕ) (bs : List ℕ) → IsShownByte b → hidden_len (b ∷ bs) ≡ 0
not_hidden b bs is =
    let c : is_ascii_control b ≡ false = grind (arith, nat_tests, is.low, is.high) in
    let e194 : (b == 194) ≡ false = ne_eqb b 194 (λ e. omega (arith, e, is.high)) in
    let e216 : (b == 216) ≡ false = ne_eqb b 216 (λ e. omega (arith, e, is.high)) in
    let e226 : (b == 226) ≡ false = ne_eqb b 226 (λ e. omega (arith, e, is.high)) in
    let e239 : (b == 239) ≡ false = ne_eqb b 239 (λ e. omega (arith, e, is.high)) in
    let none0 : (nat_lt 0 (length (b ∷ bs)) && false) ≡ false = not_both (nat_lt 0 (length (b ∷ bs))) in
    let none1 : (nat_lt 1 (length (b ∷ bs)) && false) ≡ false = not_both (nat_lt 1 (length (b ∷ bs))) in
    let none2 : (nat_lt 2 (length (b ∷ bs)) && false) ≡ false = not_both (nat_lt 2 (length (b ∷ bs))) in
    rw (c, e194, e216, e226, e239, none0, none1, none2) refl

shown_from : (bytes : List ℕ) → ((k : ℕ) (d : ℕ) → k < length bytes → IsShownByte (get_or bytes k d)) → escaped_text bytes ≡ bytes
shown_from [] all = refl
shown_from (b ∷ bs) all =
    let is = all 0 0 (omega arith) in
    let none = not_hidden b bs is in
    let other : (b == 92) ≡ false = ne_eqb b 92 is.other in
    rw (none, other) (ap (λ (l : List ℕ). b ∷ l) (shown_from bs (λ k d less. all (suc k) d (omega (arith, less)))))

pub shown : (bytes : List ℕ) → All IsShownByte bytes → escaped_text bytes ≡ bytes
shown bytes all = shown_from bytes (λ k d less. all k d less)

pub one_each : (bytes : List ℕ) → All IsShownByte bytes → columns_in bytes ≡ length bytes
one_each bytes all = columns_of_printable bytes (λ k d less. let is = all k d less in (is.low, is.high))
