-- The normalized key of a row's first value. This project's own.
use Rattle.std.specs.Prelude.{◌≡◌, ℕ, List, [], ◌∷◌, Option, None, Some}
use Rattle.std.proofs.Props.{props}
use Rattle.tq_base.specs.declared.value.Value.{Value}
use Rattle.tq_base.specs.Contents.{Int, Text}
use Rattle.tq_base.specs.NormalizedKeys.{HasBytes, normalized_key}

-- the key, if it is known, is that of the first value
abbrev pub IsKeyOf : Option ℕ → List Value → Type 0
IsKeyOf None values = Unit {0}
IsKeyOf (Some key) [] = ⊥
IsKeyOf (Some key) (value ∷ values) = (key ≡ normalized_key value) × HasBytes value

-- ---- a key is that of a value in one way at most

bytes_prop : (value : Value) → IsProp (HasBytes value)
bytes_prop (Int n) = hlevel props
bytes_prop (Text t) = hlevel props

pub key_prop : (key : Option ℕ) (values : List Value) → IsProp (IsKeyOf key values)
key_prop None values = hlevel props
key_prop (Some key) [] = hlevel props
key_prop (Some key) (value ∷ values) = hlevel (props, bytes_prop)
