use Rattle.std.proofs.Common.{rules, ◌≡◌, ◌+◌, ◌-◌, ◌∙◌, ◌∷◌, ◌++◌, [], ap, arith, sym}
use Rattle.std.specs.List.{range_with_len}
use Rattle.tq_base.specs.SortKeyLaws.{numbers_more}
use Rattle.tq_exec.proofs.aggregate_parts.numbers_between.Goals as goal

pub numbers-init : goal.numbers-init
numbers-init c = c.in_ok-numbers.ensures.items ∙ ap (range_with_len c.args.first) (let none : 0 ≡ c.args.first - c.args.first = omega arith in none)

pub numbers-preserved : goal.numbers-preserved
numbers-preserved c =
    let first = c.args.first in
    let count = c.numbers.number - first in
    let here : c.in-Ok.number ≡ c.numbers.number = search (rules, c.in-Ok.ensures) in
    let behind : c.in-Ok.number ≡ first + count = omega (arith, here, c.numbers.auto.number) in
    let next : count + 1 ≡ c.numbers.number + 1 - first = omega (arith, c.numbers.auto.number) in
    c.in_ok-push-in-Ok.ensures.items
    ∙ (λ i. c.numbers.invariant i ++ behind i ∷ [])
    ∙ sym (numbers_more first count)
    ∙ ap (range_with_len first) next

pub returns : goal.returns
returns c =
    let all : c.numbers.number - c.args.first ≡ c.args.end - c.args.first = omega (arith, c.numbers-test.false, c.numbers.auto.number-end c.requires) in
    c.numbers.invariant ∙ ap (range_with_len c.args.first) all
