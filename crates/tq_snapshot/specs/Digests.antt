-- Digests of lists of values: each word is added and multiplied by a factor, in 64 bits. The upper half differs for
-- most lists. What is proved of rows holds for any digest. This project's own.
use Rattle.std.specs.Prelude.{ℕ, ◌+◌, ◌*◌, ◌/◌, ◌%◌, ◌^◌, List, [], ◌∷◌}
use Rattle.tq_base.specs.declared.value.Value.{Value}
use Rattle.tq_base.specs.Contents.{Int, Text}
use Rattle.tq_store.specs.Keys.{shifted}

-- the state after the word
abbrev pub mixed : ℕ → ℕ → ℕ
mixed state word = (state + word) % 2 ^ 64 * 11400714819323198485 % 2 ^ 64

-- the state after the bytes
abbrev pub bytes_mixed : ℕ → List ℕ → ℕ
bytes_mixed state [] = state
bytes_mixed state (byte ∷ bytes) = bytes_mixed (mixed state byte) bytes

-- the state after the value
abbrev pub value_mixed : ℕ → Value → ℕ
value_mixed state (Int n) = mixed state (shifted n)
value_mixed state (Text t) = mixed (bytes_mixed state t) 256

-- the state after the values
abbrev pub values_mixed : ℕ → List Value → ℕ
values_mixed state [] = state
values_mixed state (value ∷ values) = values_mixed (value_mixed state value) values

-- the digest of the values
abbrev pub digest_of : List Value → ℕ
digest_of values = values_mixed 0 values / 2 ^ 32
