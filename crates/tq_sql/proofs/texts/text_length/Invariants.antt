use Rattle.std.proofs.Common.{◌≡◌, ◌+◌, length}
use Rattle.tq_sql.specs.Tokens as spec
use Rattle.tq_sql.proofs.texts.text_length.Given as goal

abbrev pub invariant-bytes : goal.invariant-bytes
invariant-bytes l = record { same : spec.text_length l.fn.rest ≡ spec.more l.passed (spec.text_length l.rest); all : l.passed + length l.rest ≡ length l.fn.rest }

abbrev pub decreases-bytes : goal.decreases-bytes
decreases-bytes l = length l.rest
