-- The name that is nearest to a word. This project's own; the distance is that of Levenshtein (1966), as the crate
-- `strsim` has it.
use Rattle.std.specs.Prelude.{ℕ, ◌+◌, ◌/◌, ◌≡◌, ◌<◌, ◌≤◌, if◌then◌else◌, max, min, nat_eq, nat_lt, List, [], ◌∷◌, ◌++◌, codes, length, Option, None, Some, All}
use Rattle.std.specs.List.{fold}
use Rattle.strsim.specs.Edits.{levenshtein_row}
use Rattle.tq_diagnostics.specs.Fields.{shown_value}

-- the least number of bytes that are inserted, removed or replaced to make the name of the word
abbrev pub distance : List ℕ → List ℕ → ℕ
distance word name = levenshtein_row nat_eq word name (length name)

-- A name is near if its distance is less than this: at most two, or a third of the word's length if that is more, and
-- at most half of that length.
abbrev pub reach : List ℕ → ℕ
reach word = min (max 2 (length word / 3)) (length word / 2) + 1

-- a distance, and the first name that has it, if there is one
abbrev pub Best : Type 0
Best = ℕ × Option (List ℕ)

-- the name if it is nearer, else the best so far
abbrev pub better : List ℕ → Best → List ℕ → Best
better word best name = if nat_lt (distance word name) best.0 then (distance word name, Some name) else best

abbrev pub best_of : List ℕ → List (List ℕ) → Best
best_of word names = fold (better word) (reach word, None) names

-- the first of the nearest names, if one is near
unfoldable pub nearest : List ℕ → List (List ℕ) → Option (List ℕ)
nearest word names = (best_of word names).1

-- ---- the law

-- The name is near, it is one of the names, no other is nearer, and none before it is as near.
pub record IsNearest (word : List ℕ) (names : List (List ℕ)) (name : List ℕ) : Type 0 where
  pub before : List (List ℕ)
  pub after : List (List ℕ)
  pub among : names ≡ before ++ name ∷ after
  pub near : distance word name < reach word
  pub first : All (λ other. distance word name < distance word other) before
  pub least : All (λ other. distance word name ≤ distance word other) after

-- a nearest name is one of the names, or no name is near
abbrev pub IsNearestIf : List ℕ → List (List ℕ) → Option (List ℕ) → Type 0
IsNearestIf word names None = All (λ other. reach word ≤ distance word other) names
IsNearestIf word names (Some name) = IsNearest word names name

-- ---- the message

abbrev pub meant_line : List ℕ → List ℕ
meant_line name = codes "  `" ++ shown_value name ++ codes "` is the nearest name\n"

-- the name that may have been meant, if there is one
abbrev pub nearest_line : Option (List ℕ) → List ℕ
nearest_line None = []
nearest_line (Some name) = meant_line name

-- the same for the nearest of the names
unfoldable pub nearest_hint : List ℕ → List (List ℕ) → List ℕ
nearest_hint word names = nearest_line (nearest word names)
