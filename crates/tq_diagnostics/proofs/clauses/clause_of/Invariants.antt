use Rattle.std.proofs.Common.{◌≡◌, take}
use Rattle.tq_diagnostics.specs.Clauses.{steps}
use Rattle.tq_diagnostics.proofs.clauses.clause_of.Given as goal

abbrev pub invariant-bytes : goal.invariant-bytes
invariant-bytes l = (l.quoted, (l.word.items, l.clause)) ≡ steps (take l.byte-index l.bytes)
