use Rattle.std.proofs.Common.{◌≡◌, ◌∙◌, ℕ, ◌+◌, ◌<◌, arith, Some, None, Option, ap, sym, rules, subst}
use Rattle.std.specs.Option.{MatchOption, IsSome}
use Rattle.std.proofs.lemmas.Bool.Decides.{nat_tests}
use Rattle.tq_mvbt.specs.NodeState.{NodeState}
use Rattle.tq_mvbt.specs.Points.{now}
use Rattle.tq_mvbt.specs.Shape.{IsNode, listed}
use Rattle.tq_mvbt.specs.Unsettled.{IsPart}
use Rattle.tq_mvbt.proofs.Lists.{all_at}
use Rattle.tq_mvbt.proofs.Descent.{one_leads}
use Rattle.tq_mvbt.proofs.Beside.{beside}
use Rattle.tq_mvbt.proofs.replace.sibling_of.Goals as goal

some_from_one : (r : Option ℕ) (n : ℕ) → MatchOption r (n ≡ 0) (λ _. 0 < n) → n ≡ 1 → IsSome r
some_from_one None n h e = absurd (omega arith)
some_from_one (Some x) n h e = search rules

pub adjacent_key-requires : goal.adjacent_key-requires
adjacent_key-requires c =
    let part = c.requires.part in
    let e = c.read-node.ensures.node in
    let f = c.read-above.ensures.node in
    let e' = part.stands in
    let f' = part.above_stands in
    let same : part.above ≡ c.read-above.result.now = cc in
    let its_same : part.node ≡ c.read-node.result.now = cc in
    subst (λ (x : NodeState). IsPart c.read-node.result.now x) same (subst (λ (x : NodeState). IsPart x part.above) its_same part.part)

pub unwrap-requires : goal.unwrap-requires
unwrap-requires c =
    let nodes = c.args.nodes.now.nodes in
    let m = c.read-above.result.now in
    let part = c.requires.part in
    let some = c.requires.forest in
    let stands = c.read-above.ensures.node in
    let its = part.above_stands in
    let same : m ≡ part.above = cc in
    let node = all_at (IsNode some.version some.lives nodes) nodes c.args.place.parent m some.forest.each stands in
    let level : m.level ≡ c.args.place.level + 1 = ap (λ (x : NodeState). x.level) same ∙ part.above_level in
    let died : m.died ≡ now = ap (λ (x : NodeState). x.died) same ∙ part.above_died in
    let one = one_leads some.version c.adjacent_key.result some.lives nodes m some.small node died c.adjacent_key.ensures.low c.adjacent_key.ensures.high in
    let index : listed some.lives m.level c.adjacent_key.result some.version ≡ 1 = grind (arith, nat_tests, level) in
    some_from_one c.child_at.result _ c.child_at.ensures.none (one ∙ index)

pub returns : goal.returns
returns c =
    let nodes = c.args.nodes.now.nodes in
    let n = c.read-node.result.now in
    let m = c.read-above.result.now in
    let part = c.requires.part in
    let e = c.read-node.ensures.node in
    let f = c.read-above.ensures.node in
    let e' = part.stands in
    let f' = part.above_stands in
    let same : m ≡ part.above = cc in
    let its_same : n ≡ part.node = cc in
    let all = beside nodes c.requires.forest c.args.place.level c.args.number c.args.place.parent c.unwrap.result c.adjacent_key.result n m e f
    (ap (λ (x : NodeState). x.level) its_same ∙ part.at_level) (ap (λ (x : NodeState). x.died) its_same ∙ part.died) (ap (λ (x : NodeState). x.level) same ∙ part.above_level) (ap (λ (x : NodeState). x.died) same ∙ part.above_died)
    c.adjacent_key.ensures.low c.adjacent_key.ensures.high c.adjacent_key.ensures.side
    (rw (c.unwrap.ensures) at c.child_at.ensures.child) in
    record {
      beside = all.0;
      under = all.1;
      standing = all.2;
      right = λ node above other is above_is other_is less.
          let one : node ≡ n = cc in
          let two : above ≡ m = cc in
          let short : n.high < m.high = omega (arith, less, ap (λ (x : NodeState). x.high) one, ap (λ (x : NodeState). x.high) two) in
          all.3 (c.adjacent_key.ensures.right short) other other_is ∙ ap (λ (x : NodeState). x.high) (sym one);
    }
