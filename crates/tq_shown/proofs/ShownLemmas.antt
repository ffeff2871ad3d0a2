-- Text that is shown byte by byte.
use Rattle.std.proofs.Common.{◌≡◌, ℕ, zero, suc, ◌+◌, ◌-◌, ◌<◌, List, [], ◌∷◌, ◌++◌, append_assoc, drop, get_or, length, sym, ap, ◌∙◌, arith}
use Rattle.std.proofs.lemmas.List.{drop_more}
use Rattle.tq_shown.specs.Printable.{hidden_len, mark_of, printable_after}

-- at a byte that begins a character
pub shown_next : (text whole bytes : List ℕ) (place : ℕ) → place < length bytes → text ++ printable_after 0 (drop place bytes) ≡ whole
    → (text ++ mark_of (hidden_len (drop place bytes)) (get_or bytes place 0) ∷ []) ++ printable_after (hidden_len (drop place bytes) - 1) (drop (place + 1) bytes) ≡ whole
shown_next text whole bytes place less is =
    let byte = get_or bytes place 0 in
    let rest = drop (place + 1) bytes in
    let more : drop place bytes ≡ byte ∷ rest = drop_more bytes place 0 less in
    let step : printable_after 0 (drop place bytes) ≡ mark_of (hidden_len (drop place bytes)) byte ∷ printable_after (hidden_len (drop place bytes) - 1) rest =
    ap (printable_after 0) more ∙ ap (λ l. mark_of (hidden_len l) byte ∷ printable_after (hidden_len l - 1) rest) (sym more) in
    append_assoc text (mark_of (hidden_len (drop place bytes)) byte ∷ []) (printable_after (hidden_len (drop place bytes) - 1) rest) ∙ ap (λ l. text ++ l) (sym step) ∙ is

-- at a later byte of a hidden character
pub shown_skip : (hidden : ℕ) (bytes : List ℕ) (place : ℕ) → 0 < hidden → place < length bytes → printable_after (hidden - 1) (drop (place + 1) bytes) ≡ printable_after hidden (drop place bytes)
shown_skip zero bytes place some less = absurd (omega (arith, some))
shown_skip (suc hidden) bytes place some less =
    ap (λ n. printable_after n (drop (place + 1) bytes)) (let same : suc hidden - 1 ≡ hidden = omega arith in same)
    ∙ sym (ap (printable_after (suc hidden)) (drop_more bytes place 0 less))
