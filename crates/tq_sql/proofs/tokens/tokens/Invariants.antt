-- The tokens so far, followed by those of the remaining bytes, are all the tokens.
use Rattle.std.proofs.Common.{◌≡◌, ◌+◌, length, map}
use Rattle.tq_sql.specs.TokenViews.{token_view}
use Rattle.tq_sql.specs.Tokens as spec
use Rattle.tq_sql.proofs.TokenLemmas.{with_all}
use Rattle.tq_sql.proofs.tokens.tokens.Given as goal

abbrev pub invariant-bytes : goal.invariant-bytes
invariant-bytes l = record { place : l.at + length l.rest ≡ length l.bytes; same : spec.tokens_of l.bytes ≡ with_all (map token_view l.found.items) (spec.tokens_from 0 l.at l.rest) }

abbrev pub decreases-bytes : goal.decreases-bytes
decreases-bytes l = length l.rest
