use Rattle.std.proofs.Common.{◌+◌, subst}
use Rattle.tq_store.specs.Index.{Ends}
use Rattle.tq_store.proofs.index.Index.end.Goals as goal

pub returns-clause-tree : goal.returns-clause-tree
returns-clause-tree c =
    subst (λ key. Ends c.args.self.now.tree c.delete.new.self key (c.args.number + 1)) c.row_key.ensures.value
    (record { version_is = c.in_ok-delete.ensures.version; life = c.in_ok-delete.ensures.life; others = c.in_ok-delete.ensures.others })
