-- How the header of an exported file becomes names of columns. This project's own.
use Rattle.std.specs.Prelude.{ℕ, ◌==◌, ◌&&◌, not, Bool, true, false, if◌then◌else◌, List, [], ◌∷◌, ◌++◌, length}
use Rattle.std.specs.Char.{is_ascii_alphanumeric, is_ascii_digit, to_ascii_lowercase}

-- what comes between the bytes so far and the next letter or digit
abbrev pub gap_text : List ℕ → Bool → List ℕ
gap_text name gap = if gap && not (length name == 0) then 95 ∷ [] else []

-- the name so far, with the letters and digits of the bytes: letters in lower case, and one `_` for all other bytes
-- between two of them
abbrev pub words_after : List ℕ → Bool → List ℕ → List ℕ
words_after name gap [] = name
words_after name gap (b ∷ bytes) =
    if is_ascii_alphanumeric b then words_after (name ++ gap_text name gap ++ to_ascii_lowercase b ∷ []) false bytes
    else words_after name true bytes

abbrev pub begins_with_digit : List ℕ → Bool
begins_with_digit [] = false
begins_with_digit (b ∷ bytes) = is_ascii_digit b

-- the name that the field of a header suggests: `Employee ID` is `employee_id`, `2nd` is `_2nd`
abbrev pub suggested_name : List ℕ → List ℕ
suggested_name field = if begins_with_digit (words_after [] false field) then 95 ∷ words_after [] false field else words_after [] false field
