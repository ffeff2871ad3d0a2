-- The statement that a text makes, and the fault of a text that makes none.
use Rattle.std.specs.Prelude.{◌≡◌, ◌⊎◌, ℕ, List, [], ◌∷◌, ◌++◌, length, Ok, Err}
use Rattle.tq_sql.specs.declared.fault.SqlFault.{SqlFault}
use Rattle.tq_sql.specs.declared.fault.SqlFaultKind.{SqlFaultKind}
use Rattle.tq_sql.specs.declared.fault.SqlFaultKind.TheVariants.{TooDeep, UnexpectedToken}
use Rattle.tq_sql.specs.declared.statement.Statement.{Statement}
use Rattle.tq_sql.specs.Grammar.{IsStatement, IsStatementWithin}
use Rattle.tq_sql.specs.Tokens.{Token, tokens_of}

-- the text has tokens, and these make the statement
abbrev pub ParsesTo : List ℕ → Statement → Type 0
ParsesTo bytes s = (ts : List Token) × (tokens_of bytes ≡ Ok ts) × IsStatement ts s

-- some statement of at most `levels` levels begins with the tokens
abbrev pub CanContinue : ℕ → List Token → Type 0
CanContinue levels ts = (more : List Token) × (s : Statement) × IsStatementWithin levels (ts ++ more) s

-- no statement continues with the first token of the rest; if the rest is empty, the tokens make no statement
abbrev pub StopsBefore : List Token → List Token → Type 0
StopsBefore front [] = (s : Statement) → IsStatement front s → ⊥
StopsBefore front (t ∷ rest) = CanContinue 32 (front ++ t ∷ []) → ⊥

-- The kind of fault there: TooDeep exactly if a statement of 33 levels continues with that token, else UnexpectedToken.
-- A TooDeep token is a `(` of a condition or a NOT inside 32 open levels. No other token can be: until a token opens
-- the 33rd level, what begins a statement of 33 levels also begins one of 32. A `(` or a NOT that cannot begin an
-- operand there is unexpected at any depth. The tokens after it do not matter.
abbrev pub IsFaultBefore : List Token → List Token → SqlFaultKind → Type 0
IsFaultBefore front [] kind = kind ≡ UnexpectedToken
IsFaultBefore front (t ∷ rest) kind = ((kind ≡ TooDeep) × CanContinue 33 (front ++ t ∷ [])) ⊎ ((kind ≡ UnexpectedToken) × (CanContinue 33 (front ++ t ∷ []) → ⊥))

-- the byte at which the first of the tokens begins, or the end of the text
abbrev pub token_offset : List ℕ → List Token → ℕ
token_offset bytes [] = length bytes
token_offset bytes (t ∷ ts) = t.at

-- the text has tokens, and this is the fault at the first token with which no statement continues, or at the end
abbrev pub IsStop : List ℕ → SqlFault → Type 0
IsStop bytes f =
    (front : List Token) × (rest : List Token) × (tokens_of bytes ≡ Ok (front ++ rest)) × CanContinue 32 front × StopsBefore front rest
    × IsFaultBefore front rest f.kind × (f.at ≡ token_offset bytes rest)

-- the first token fault from the left, or else the fault at a token or at the end
abbrev pub IsSqlFault : List ℕ → SqlFault → Type 0
IsSqlFault bytes f = (tokens_of bytes ≡ Err f) ⊎ IsStop bytes f
