use Rattle.std.proofs.Common.{◌≡◌, length, map}
use Rattle.tq_sql.specs.Tokens as spec
use Rattle.tq_sql.proofs.words.keyword_kind.Given as goal

abbrev pub invariant-table : goal.invariant-table
invariant-table l = spec.keyword_kind (map (λ row. (row.0.now, row.1)) l.table) l.word ≡ spec.keyword_kind (map (λ row. (row.0.now, row.1)) l.fn.table) l.word

abbrev pub decreases-table : goal.decreases-table
decreases-table l = length l.table
