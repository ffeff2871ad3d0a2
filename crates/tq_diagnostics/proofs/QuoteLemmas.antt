-- The open quote, one byte after another.
use Rattle.std.proofs.Common.{◌≡◌, ◌∙◌, ℕ, ◌+◌, ◌<◌, List, ap, drop, length, sym}
use Rattle.std.specs.Prelude.{slice_index}
use Rattle.std.proofs.lemmas.List.{drop_more}
use Rattle.csv.specs.Machine.{step}
use Rattle.csv.specs.Reading.{default_config}
use Rattle.csv.specs.declared.parser.State.{State}
use Rattle.tq_diagnostics.specs.Lines.{line_after_byte}
use Rattle.tq_diagnostics.specs.Quotes.{open_quote_from, opened_after}

-- the open quote, from a byte on and from the one after it
pub quote_next : (state next : State) (line after opened reopened : ℕ) (bytes : List ℕ) (place : ℕ) → place < length bytes
    → next ≡ (step default_config state (slice_index bytes place)).0 → after ≡ line_after_byte line (slice_index bytes place)
    → reopened ≡ opened_after state line opened (slice_index bytes place)
    → open_quote_from state line opened (drop place bytes) ≡ open_quote_from next after reopened (drop (place + 1) bytes)
quote_next state next line after opened reopened bytes place within stands moved opens =
    ap (open_quote_from state line opened) (drop_more bytes place 0 within)
    ∙ ap (λ s. open_quote_from s (line_after_byte line (slice_index bytes place)) (opened_after state line opened (slice_index bytes place)) (drop (place + 1) bytes)) (sym stands)
    ∙ ap (λ n. open_quote_from next n (opened_after state line opened (slice_index bytes place)) (drop (place + 1) bytes)) (sym moved)
    ∙ ap (λ o. open_quote_from next after o (drop (place + 1) bytes)) (sym opens)
