use Rattle.std.proofs.Common.{◌≡◌, ◌≤◌, ◌+◌, ◌*◌, ℕ, length}
use Rattle.tq_sql.specs.declared.token.TokenKind.TheVariants as k
use Rattle.tq_sql.specs.declared.statement.Cond.TheVariants as cond
use Rattle.tq_sql.specs.Descent as spec
use Rattle.tq_sql.proofs.conditions.+condition.Given as goal

abbrev pub decreases-factor : goal.decreases-factor
decreases-factor l = 4 * l.levels

abbrev pub decreases-every : goal.decreases-every
decreases-every l = 4 * l.levels + 1

abbrev pub decreases-any : goal.decreases-any
decreases-any l = 4 * l.levels + 2

abbrev pub invariant-any-more : goal.invariant-any-more
invariant-any-more l = (n : ℕ) × record { enough : length l.cursor ≤ n; same : spec.or_at l.levels l.fn.cursor ≡ spec.more_from k.Or (spec.and_at l.levels) cond.Or n l.left l.cursor; shorter : length l.cursor ≤ length l.fn.cursor }

abbrev pub decreases-any-more : goal.decreases-any-more
decreases-any-more l = length l.cursor

abbrev pub invariant-every-more : goal.invariant-every-more
invariant-every-more l = (n : ℕ) × record { enough : length l.cursor ≤ n; same : spec.and_at l.levels l.fn.cursor ≡ spec.more_from k.And (spec.not_at l.levels) cond.And n l.left l.cursor; shorter : length l.cursor ≤ length l.fn.cursor }

abbrev pub decreases-every-more : goal.decreases-every-more
decreases-every-more l = length l.cursor

abbrev pub decreases-closed : goal.decreases-closed
decreases-closed l = 4 * l.levels + 3
