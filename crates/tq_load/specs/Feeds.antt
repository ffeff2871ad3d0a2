-- Bytes and records that end with a line feed. This project's own.
use Rattle.std.specs.Prelude.{◌≡◌, ◌==◌, ℕ, Bool, false, List, [], ◌∷◌, All}

-- the last item, or the given one if there is none
unfoldable pub last_of : {A : Type 0} → List A → A → A
last_of [] none = none
last_of (x ∷ xs) none = last_of xs x

-- whether the last byte is a line feed
abbrev pub ends_in_feed : List ℕ → Bool
ends_in_feed bytes = last_of bytes 0 == 10

-- whether the last field of a record ends with a line feed. It does if the bytes end with a line feed inside quotes.
abbrev pub may_be_open : List (List ℕ) → Bool
may_be_open fields = ends_in_feed (last_of fields [])

-- the last field of no record ends with a line feed
abbrev pub AreClosed : List (List (List ℕ)) → Type 0
AreClosed records = All (λ fields. may_be_open fields ≡ false) records
