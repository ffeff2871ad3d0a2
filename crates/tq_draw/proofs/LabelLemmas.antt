-- A text that is shown byte by byte.
use Rattle.std.proofs.Common.{◌≡◌, ◌≢◌, ℕ, Bool, false, rules, ◌+◌, ◌-◌, ◌<◌, List, ◌∷◌, ◌++◌, append_assoc, drop, get_or, length, refl, sym, ap, ◌∙◌, subst}
use Rattle.std.specs.Prelude.{◌==◌}
use Rattle.std.proofs.lemmas.Bool.Decides.{nat_tests}
use Rattle.std.proofs.lemmas.List.{drop_more}
use Rattle.tq_shown.specs.Printable.{hidden_len}
use Rattle.tq_draw.specs.Labels.{hidden_left, escaped_after, shown_byte}

-- if no bytes are left, a hidden character may begin
pub left_begins : (hidden : ℕ) (bytes : List ℕ) → hidden ≡ 0 → hidden_len bytes ≡ hidden_left hidden bytes
left_begins hidden bytes none = subst (λ n. hidden_len bytes ≡ hidden_left n bytes) (sym none) refl

-- if some are left, they remain
pub left_stays : (hidden : ℕ) (bytes : List ℕ) → hidden ≢ 0 → hidden ≡ hidden_left hidden bytes
left_stays hidden bytes some = let apart : (hidden == 0) ≡ false = search (rules, nat_tests, some) in rw apart refl

-- one more byte
pub shown_next : (has_lines : Bool) (text whole bytes : List ℕ) (place hidden left : ℕ) → place < length bytes → left ≡ hidden_left hidden (drop place bytes)
    → text ++ escaped_after has_lines hidden (drop place bytes) ≡ whole
    → (text ++ shown_byte has_lines left (get_or bytes place 0)) ++ escaped_after has_lines (left - 1) (drop (place + 1) bytes) ≡ whole
shown_next has_lines text whole bytes place hidden left less left_is is =
    let byte = get_or bytes place 0 in
    let rest = drop (place + 1) bytes in
    let more : drop place bytes ≡ byte ∷ rest = drop_more bytes place 0 less in
    let shown = shown_byte has_lines left byte in
    let step : escaped_after has_lines hidden (drop place bytes) ≡ shown ++ escaped_after has_lines (left - 1) rest =
    ap (escaped_after has_lines hidden) more
    ∙ ap (λ n. shown_byte has_lines n byte ++ escaped_after has_lines (n - 1) rest) (ap (hidden_left hidden) (sym more) ∙ sym left_is) in
    append_assoc text shown (escaped_after has_lines (left - 1) rest) ∙ ap (λ l. text ++ l) (sym step) ∙ is
