use Rattle.std.proofs.Common.{◌≡◌, ◌∙◌, ◌∷◌, [], length, ap, refl}
use Rattle.tq_mvbt.specs.Shape.{top}
use Rattle.tq_mvbt.specs.Steps.{fresh}
use Rattle.tq_mvbt.proofs.Trees.{first_tree}
use Rattle.tq_mvbt.proofs.tree.Tree.new.Goals as goal

pub invariant_of-result : goal.invariant_of-result
invariant_of-result c =
    let empty : c.reserve.new.self.nodes ≡ [] = c.reserve.ensures.nodes ∙ c.new-nodes.ensures in
    let nodes : c.push_reserved-leaf.new.self.nodes ≡ fresh 0 0 top 0 [] [] ∷ [] = c.push_reserved-leaf.ensures.nodes ∙ rw (empty, c.begin-2.ensures, c.new.ensures.items) refl in
    let number : c.push_reserved-leaf.result.0 ≡ 0 = c.push_reserved-leaf.ensures.number ∙ ap length empty in
    let roots : c.push_reserved.new.self.items ≡ record { from = 0; node = 0; levels = 1 } ∷ [] = c.push_reserved.ensures.items ∙ rw (c.in_ok-roots.ensures.items, number) refl in
    rw (nodes, roots) first_tree

pub returns-clause-tree : goal.returns-clause-tree
returns-clause-tree c = invariant_of-result c
