use Rattle.std.proofs.Common.{◌≡◌, ◌+◌, ◌-◌, ◌++◌, ◌∷◌, ◌∙◌, [], suc, ap, append-nil, append_assoc, arith, sym}
use Rattle.std.specs.List.{range_with_len}
use Rattle.tq_split.proofs.AddingLemmas.{range_more}
use Rattle.tq_split.proofs.adding.push_numbers.Goals as goal

pub numbers-init : goal.numbers-init
numbers-init c =
    let none : c.args.from - c.args.from ≡ 0 = omega arith in
    record {
      begun = omega arith;
      within = omega arith;
      pushed = sym (ap (λ n. c.args.list.now.items ++ range_with_len c.args.from n) none ∙ append-nil c.args.list.now.items);
    }

pub numbers-preserved : goal.numbers-preserved
numbers-preserved c =
    let i = c.numbers.invariant in
    let from = c.args.from in
    let number = c.numbers.number in
    let before = c.args.list.now.items in
    let next : number + 1 - from ≡ suc (number - from) = omega (arith, i.begun) in
    let here : from + (number - from) ≡ number = omega (arith, i.begun) in
    record {
      begun = omega (arith, i.begun);
      within = omega (arith, i.begun, i.within, c.numbers-test.true);
      pushed =
          c.in_ok-push.ensures.items
          ∙ ap (λ l. l ++ number ∷ []) i.pushed
          ∙ append_assoc before (range_with_len from (number - from)) (number ∷ [])
          ∙ ap (λ l. before ++ l) (sym (ap (range_with_len from) next ∙ range_more from (number - from) ∙ ap (λ n. range_with_len from (number - from) ++ n ∷ []) here));
    }

pub returns : goal.returns
returns c =
    let i = c.numbers.invariant in
    let all : c.numbers.number - c.args.from ≡ c.args.to - c.args.from = omega (arith, i.begun, i.within, c.numbers-test.false) in
    i.pushed ∙ ap (λ n. c.args.list.now.items ++ range_with_len c.args.from n) all
