-- The message for the fault of a statement. This project's own.
use Rattle.std.specs.Prelude.{◌≡◌, ℕ, Bool, true, false, if◌then◌else◌, nat_lt, List, [], ◌++◌, codes, drop, length, take}
use Rattle.tq_diagnostics.specs.Expected.{IsExpected}
use Rattle.tq_diagnostics.specs.Hints.{byte_hint, token_hint}
use Rattle.tq_diagnostics.specs.Pointing.{pointed}
use Rattle.tq_sql.specs.declared.fault.SqlFaultKind.{SqlFaultKind}
use Rattle.tq_sql.specs.declared.fault.SqlFaultKind.TheVariants.{BadByte, NumberTooLarge, OutOfMemory, TooDeep, TooLong, UnclosedText, UnexpectedToken}

-- the message for each kind of fault; an unexpected token has none
abbrev pub meaning_of : SqlFaultKind → List ℕ
meaning_of BadByte = codes "invalid character"
meaning_of UnexpectedToken = []
meaning_of NumberTooLarge = codes "a number must be from -9223372036854775808 to 9223372036854775807"
meaning_of UnclosedText = codes "this text has no closing quote"
meaning_of TooDeep = codes "parentheses and NOT can be nested at most 32 levels deep"
meaning_of TooLong = codes "a statement has at most 65,536 bytes"
meaning_of OutOfMemory = []

-- the hint if there is one, else the message for the kind
abbrev pub or_meaning : List ℕ → SqlFaultKind → List ℕ
or_meaning hint kind = if nat_lt 0 (length hint) then hint else meaning_of kind

-- the explanation of a fault between the text before it and from it on: the hint for a sign or a word of another
-- dialect, else the message for the kind
abbrev pub explanation_of : SqlFaultKind → List ℕ → List ℕ → List ℕ
explanation_of BadByte front rest = or_meaning (byte_hint front rest) BadByte
explanation_of UnexpectedToken front rest = token_hint front rest
explanation_of NumberTooLarge front rest = meaning_of NumberTooLarge
explanation_of UnclosedText front rest = meaning_of UnclosedText
explanation_of TooDeep front rest = meaning_of TooDeep
explanation_of TooLong front rest = meaning_of TooLong
explanation_of OutOfMemory front rest = meaning_of OutOfMemory

-- a line of its own after two spaces, or nothing for nothing
abbrev pub line_of : List ℕ → List ℕ
line_of explanation = if nat_lt 0 (length explanation) then codes "  " ++ explanation ++ codes "\n" else []

-- whether a fault of this kind has a place
abbrev pub has_place : SqlFaultKind → Bool
has_place BadByte = true
has_place UnexpectedToken = true
has_place NumberTooLarge = true
has_place UnclosedText = true
has_place TooDeep = true
has_place TooLong = false
has_place OutOfMemory = false

-- the line of a fault with a caret, if the kind has a place, and its explanation
abbrev pub located_text : SqlFaultKind → List ℕ → ℕ → List ℕ
located_text kind bytes at = (if has_place kind then pointed bytes at else []) ++ line_of (explanation_of kind (take at bytes) (drop at bytes))

-- whether a fault of this kind gets a line of what is expected
abbrev pub has_expected : SqlFaultKind → Bool
has_expected BadByte = false
has_expected UnexpectedToken = true
has_expected NumberTooLarge = false
has_expected UnclosedText = false
has_expected TooDeep = false
has_expected TooLong = false
has_expected OutOfMemory = false

-- a line of what is expected after the front, or nothing
abbrev pub IsExpectedIf : Bool → List ℕ → List ℕ → Type 0
IsExpectedIf true front expected = IsExpected front expected
IsExpectedIf false front expected = expected ≡ []

-- The message for a fault of this kind at this byte: its line, its explanation, and, for an unexpected token, what is
-- expected there.
abbrev pub IsDetail : SqlFaultKind → List ℕ → ℕ → List ℕ → Type 0
IsDetail kind bytes at text = (expected : List ℕ) × IsExpectedIf (has_expected kind) (take at bytes) expected × (text ≡ located_text kind bytes at ++ expected)
