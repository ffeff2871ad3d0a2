use Rattle.std.proofs.Common.{◌≤◌, ◌+◌, ◌∙◌, Option, ap, arith, subst}
use Rattle.std.specs.Prelude.{IfSome}
use Rattle.std.proofs.lemmas.List.Sums.{sum_by_push}
use Rattle.tq_base.specs.declared.key_range.KeyRange.{KeyRange}
use Rattle.tq_exec.specs.Reads.{is_key_in, ranges_with}
use Rattle.tq_exec.proofs.KeyLemmas.{at_most_one}
use Rattle.tq_exec.proofs.key_ranges.unite.Goals as goal

pub returns-in-Some-clause-apart : goal.returns-in-Some-clause-apart
returns-in-Some-clause-apart c key one next =
    let just = subst (λ (o : Option KeyRange). IfSome o (λ range. is_key_in key range ≤ is_key_in key c.args.range + is_key_in key c.args.next)) c.in-Some.is (c.united.ensures.just key) in
    omega (arith, one, next, just, at_most_one key c.in-Some.both)

pub returns-in-Some-clause-keys : goal.returns-in-Some-clause-keys
returns-in-Some-clause-keys c key some =
    let first = subst (λ (o : Option KeyRange). IfSome o (λ range. is_key_in key c.args.range ≤ is_key_in key range)) c.in-Some.is (c.united.ensures.first key) in
    let second = subst (λ (o : Option KeyRange). IfSome o (λ range. is_key_in key c.args.next ≤ is_key_in key range)) c.in-Some.is (c.united.ensures.second key) in
    omega (arith, some, first, second)

pub returns-in_ok-push-in-None-clause-apart : goal.returns-in_ok-push-in-None-clause-apart
returns-in_ok-push-in-None-clause-apart c key one next =
    let grown = ap (λ l. ranges_with l key) c.in_ok-push-in-None.ensures.items ∙ sum_by_push (is_key_in key) c.args.others.now.items c.args.next in
    omega (arith, one, next, grown, c.united.ensures.apart key c.in-None.is)

pub returns-in_ok-push-in-None-clause-just : goal.returns-in_ok-push-in-None-clause-just
returns-in_ok-push-in-None-clause-just c key =
    let grown = ap (λ l. ranges_with l key) c.in_ok-push-in-None.ensures.items ∙ sum_by_push (is_key_in key) c.args.others.now.items c.args.next in
    omega (arith, grown)

pub returns-in_ok-push-in-None-clause-keys : goal.returns-in_ok-push-in-None-clause-keys
returns-in_ok-push-in-None-clause-keys c key some =
    let grown = ap (λ l. ranges_with l key) c.in_ok-push-in-None.ensures.items ∙ sum_by_push (is_key_in key) c.args.others.now.items c.args.next in
    omega (arith, some, grown)
