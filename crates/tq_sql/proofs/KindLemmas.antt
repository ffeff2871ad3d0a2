-- The test for a kind.
use Rattle.std.proofs.Common.{◌≡◌, ◌≢◌, ◌<◌, true, List, [], ◌∷◌, length, sym, rules, arith}
use denote.Enum.Bare.{same_true}
use Rattle.tq_sql.specs.contracts.token.TokenKind.{the_type}
use Rattle.tq_sql.specs.declared.token.TokenKind.{TokenKind}
use Rattle.tq_sql.specs.declared.token.TokenKind.TheVariants as k
use Rattle.tq_sql.specs.Tokens.{Token, same_kind}
use Rattle.tq_sql.specs.Descent.{kind_at, next, sees}

pub is_same : (a b : TokenKind) → same_kind a b ≡ true → a ≡ b
unfolding same_kind
is_same a b e = same_true the_type (search rules) a b e

-- a token that is seen is one of the remaining tokens
pub next-shorter : (kind : TokenKind) (ts : List Token) → sees kind ts ≡ true → kind ≢ k.End → length (next ts) < length ts
unfolding sees next kind_at
next-shorter kind [] e n = absurd (n (sym (is_same k.End kind e)))
next-shorter kind (t ∷ ts) e n = omega arith
