use Rattle.std.proofs.Common.{◌++◌}
use Rattle.tq_snapshot.proofs.FirstLemmas.{IsLeft}
use Rattle.tq_snapshot.proofs.open_index.TableRows.find_first_in.Given as goal

abbrev pub invariant-keys : goal.invariant-keys
invariant-keys l = IsLeft (l.published ++ l.pending) l.table l.keys l.wanted l.key-iterator
