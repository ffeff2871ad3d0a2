use Rattle.std.proofs.Common.{◌≡◌, ◌++◌, drop, if◌then◌else◌}
use Rattle.tq_sql.specs.Tokens as lexis
use Rattle.tq_sql.proofs.texts.undoubled.Given as goal

abbrev pub invariant-loop-byte : goal.invariant-loop-byte
invariant-loop-byte l = lexis.undoubled l.inside ≡ l.bytes.items ++ (if l.is_second then lexis.without_second (drop l.byte-index l.inside) else lexis.undoubled (drop l.byte-index l.inside))
