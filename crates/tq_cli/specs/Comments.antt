-- Statements in files, with comments. This project's own.
use Rattle.std.specs.Prelude.{ℕ, ◌==◌, ◌&&◌, Bool, false, if◌then◌else◌, List, [], ◌∷◌}
use Rattle.tq_cli.specs.declared.comments.Place.{Place}
use Rattle.tq_cli.specs.declared.comments.Place.TheVariants.{Outside, Text, Comment}

-- the bytes begin with `--`
abbrev pub begins_comment : List ℕ → Bool
begins_comment [] = false
begins_comment (a ∷ []) = false
begins_comment (a ∷ (b ∷ bytes)) = (a == 45) && (b == 45)

-- where a byte is, if those before it lead to this place: outside, `--` begins a comment, and a line feed ends it
abbrev pub place_at : Place → ℕ → Bool → Place
place_at Outside byte begins = if begins then Comment else Outside
place_at Text byte begins = Text
place_at Comment byte begins = if byte == 10 then Outside else Comment

-- where it leads to: a quote begins a text, and another one ends it; one that is doubled does both
abbrev pub place_after : Place → ℕ → Place
place_after Outside byte = if byte == 39 then Text else Outside
place_after Text byte = if byte == 39 then Outside else Text
place_after Comment byte = Comment

abbrev pub shown : Place → ℕ → ℕ
shown Comment byte = 32
shown _ byte = byte

-- a blank in place of each byte of a comment
unfoldable pub blanked : Place → List ℕ → List ℕ
blanked place [] = []
blanked place (byte ∷ bytes) =
    let here = place_at place byte (begins_comment (byte ∷ bytes)) in shown here byte ∷ blanked (place_after here byte) bytes
