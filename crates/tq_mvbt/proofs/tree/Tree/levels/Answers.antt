use Rattle.tq_mvbt.proofs.Trees.{few_levels, some_levels}
use Rattle.tq_mvbt.proofs.tree.Tree.levels.Goals as goal

pub returns-clause-few : goal.returns-clause-few
returns-clause-few c small =
    let few = few_levels c.self.inside.version c.self.inside.nodes.nodes c.self.inside.roots.items c.self.invariant c.args.version small in
    rw (c.find_root.ensures, c.deref.ensures.value) few

pub returns-clause-some : goal.returns-clause-some
returns-clause-some c small =
    let some = some_levels c.self.inside.version c.self.inside.nodes.nodes c.self.inside.roots.items c.self.invariant c.args.version small in
    rw (c.find_root.ensures, c.deref.ensures.value) some
