use Rattle.std.proofs.Common.{◌≡◌, ◌≤◌, ℕ, [], ◌∷◌, ◌++◌, length}
use Rattle.tq_sql.specs.declared.token.TokenKind.TheVariants as k
use Rattle.tq_sql.specs.Descent as spec
use Rattle.tq_sql.proofs.sources.columns.Given as goal

abbrev pub invariant-more : goal.invariant-more
invariant-more l = (n : ℕ) × record { enough : length l.cursor ≤ n; same : spec.columns_at l.fn.cursor ≡ spec.more_from k.Comma spec.column_at (λ all y. all ++ y ∷ []) n l.found.items l.cursor; shorter : length l.cursor ≤ length l.fn.cursor }

abbrev pub decreases-more : goal.decreases-more
decreases-more l = length l.cursor
