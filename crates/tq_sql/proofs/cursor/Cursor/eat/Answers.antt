use Rattle.std.proofs.Common.{sym, ◌∙◌}
use Rattle.tq_sql.proofs.KindLemmas.{next-shorter}
use Rattle.tq_sql.proofs.cursor.Cursor.eat.Goals as goal

pub returns-then-found-clause-taken : goal.returns-then-found-clause-taken
returns-then-found-clause-taken c is other = rw c.skip.ensures.next (next-shorter c.args.kind c.args.self.now (sym c.sees-found.ensures ∙ is) other)
