use Rattle.std.proofs.Common.{◌≡◌, ◌∙◌, ℕ, ◌<◌, ◌≤◌, arith, Some, None, Option, ap, rules}
use Rattle.std.specs.Option.{MatchOption, IsSome}
use Rattle.std.proofs.lemmas.Bool.Decides.{nat_tests}
use Rattle.tq_mvbt.specs.NodeState.{NodeState}
use Rattle.tq_mvbt.specs.Points.{now}
use Rattle.tq_mvbt.specs.Shape.{IsNode, listed}
use Rattle.tq_mvbt.proofs.Lists.{all_at}
use Rattle.tq_mvbt.proofs.Descent.{one_leads, step_down}
use Rattle.tq_mvbt.proofs.steps.child_of.Goals as goal

some_from_one : (r : Option ℕ) (n : ℕ) → MatchOption r (n ≡ 0) (λ _. 0 < n) → n ≡ 1 → IsSome r
some_from_one None n h e = absurd (omega arith)
some_from_one (Some x) n h e = search rules

pub unwrap-requires : goal.unwrap-requires
unwrap-requires c =
    let nodes = c.args.nodes.now.nodes in
    let n = c.read-node.result.now in
    let found = c.requires.found in
    let some = c.requires.forest in
    let stands = c.read-node.ensures.node in
    let its = found.stands in
    let same : n ≡ found.node = cc in
    let node = all_at (IsNode some.version some.lives nodes) nodes c.args.number n some.forest.each stands in
    let level : n.level ≡ c.args.level = ap (λ (m : NodeState). m.level) same ∙ found.at_level in
    let low : n.low ≤ c.args.key = rw same found.low in
    let high : c.args.key < n.high = rw same found.high in
    let died : n.died ≡ now = ap (λ (m : NodeState). m.died) same ∙ found.died in
    let one = one_leads some.version c.args.key some.lives nodes n some.small node died low high in
    let index : listed some.lives n.level c.args.key some.version ≡ 1 = grind (arith, nat_tests, level, c.requires.index) in
    some_from_one c.child_at.result _ c.child_at.ensures.none (one ∙ index)

pub returns : goal.returns
returns c =
    step_down c.args.nodes.now.nodes c.args.level c.args.key c.args.number c.unwrap.result c.read-node.result.now c.requires.forest c.requires.index c.requires.found c.read-node.ensures.node
    (rw (c.unwrap.ensures) at c.child_at.ensures.child)
