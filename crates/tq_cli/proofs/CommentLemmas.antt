-- One byte of a statement's file after another.
use Rattle.std.proofs.Common.{arith, ◌≡◌, ◌∙◌, ◌<◌, ◌-◌, ℕ, List, [], ◌∷◌, ◌++◌, length, take, drop, slice_index_or, ap, append_assoc, append-nil, sym}
use Rattle.std.proofs.Math.Seq.{take-length}
use Rattle.tq_cli.specs.Comments.{begins_comment, blanked, place_after, place_at, shown}
use Rattle.tq_cli.specs.declared.comments.Place.{Place}

-- The text with the first byte that is left shown behind it: what is shown of the others completes it.
pub byte_shown : (text new left whole : List ℕ) (place here after : Place) → ¬ (length left < 1) → text ++ blanked place left ≡ whole
    → here ≡ place_at place (slice_index_or left 0 0) (begins_comment left) → new ≡ text ++ shown here (slice_index_or left 0 0) ∷ []
    → after ≡ place_after here (slice_index_or left 0 0) → new ++ blanked after (take (length left - 1) (drop 1 left)) ≡ whole
unfolding blanked
byte_shown text new [] whole place here after some was h n x = absurd (some (omega arith))
byte_shown text new (b ∷ bs) whole place here after some was h n x =
    let fewer : length (b ∷ bs) - 1 ≡ length bs = omega arith in
    rw (n, x) (append_assoc text (shown here b ∷ []) (blanked (place_after here b) (take (length (b ∷ bs) - 1) bs))
    ∙ ap (λ l. text ++ shown here b ∷ blanked (place_after here b) l) (ap (λ k. take k bs) fewer ∙ take-length bs)
    ∙ ap (λ p. text ++ shown p b ∷ blanked (place_after p b) bs) h ∙ was)

-- With no byte left, the text is complete.
pub all_shown : (text left whole : List ℕ) (place : Place) → length left < 1 → text ++ blanked place left ≡ whole → text ≡ whole
unfolding blanked
all_shown text [] whole place none was = sym (append-nil text) ∙ was
all_shown text (b ∷ bs) whole place none was = absurd (omega (arith, none))
