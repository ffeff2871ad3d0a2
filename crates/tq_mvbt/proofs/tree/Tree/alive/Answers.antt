use Rattle.std.proofs.Common.{◌∙◌, sym}
use Rattle.std.proofs.lemmas.Option.{slice_get_within}
use Rattle.tq_mvbt.proofs.Trees.{beyond_top, root_found, alive_is}
use Rattle.tq_mvbt.proofs.tree.Tree.alive.Goals as goal

pub returns-then-key-ge-TOP : goal.returns-then-key-ge-TOP
returns-then-key-ge-TOP c =
    let off = beyond_top c.self.inside.version c.self.inside.nodes.nodes c.self.inside.roots.items c.self.invariant c.args.key c.self.inside.version c.if-key-ge-TOP.true in
    rw (← c.self.view_is) (sym off)

pub leaf_of-leaf-requires-clause-found : goal.leaf_of-leaf-requires-clause-found
leaf_of-leaf-requires-clause-found c =
    rw (c.find_root-root.ensures, c.deref.ensures.value) (root_found c.self.inside.version c.self.inside.nodes.nodes c.self.inside.roots.items c.self.invariant c.args.key c.if-key-ge-TOP.false)

pub read-requires : goal.read-requires
read-requires c = slice_get_within c.self.inside.nodes.nodes c.leaf_of-leaf.result c.leaf_of-leaf.ensures.node c.leaf_of-leaf.ensures.stands

pub returns : goal.returns
returns c =
    let is = alive_is c.self.inside.version c.self.inside.nodes.nodes c.self.inside.roots.items c.self.invariant c.args.key c.leaf_of-leaf.result c.read.result.now c.child_at.result c.leaf_of-leaf.ensures c.read.ensures.node c.child_at.ensures.none in
    rw (← c.self.view_is) (c.is_some.ensures ∙ is)
