use Rattle.std.proofs.Common.{◌≡◌, ◌+◌, ◌∙◌, suc, ap, arith, get_or, inl, inr, sym, take}
use Rattle.std.proofs.Math.Seq.{take-suc}
use Rattle.std.proofs.lemmas.Bool.{cases_lt}
use Rattle.std.proofs.lemmas.List.{take_all}
use Rattle.std.proofs.lemmas.List.Sums.{sum_by-drop_more, sum_by_push}
use Rattle.tq_exec.specs.Reads.{is_key_in, ranges_with}
use Rattle.tq_exec.proofs.KeyLemmas.{at_most_one}
use Rattle.tq_exec.proofs.key_ranges.add_range.Goals as goal

pub each-init : goal.each-init
each-init c = record {
  apart = λ key. omega (arith, ap (λ l. ranges_with l key) c.new-others.ensures.items, at_most_one key c.args.range);
  later = λ key. omega (arith, ap (λ l. ranges_with l key) c.new-others.ensures.items, c.requires key);
  keys = λ key some. omega (arith, some);
}

pub each-preserved : goal.each-preserved
each-preserved c =
    let ranges = c.args.ranges.now in
    let i = c.each.next-index in
    let next = c.next-item.result in
    let inside = c.each-test.true in
    record {
      apart = λ key.
          let later = sum_by-drop_more (is_key_in key) ranges i next inside in
          c.in_ok-all.ensures.apart key (c.each.invariant.apart key) (omega (arith, later, c.each.invariant.later key, ap (is_key_in key) c.next-item.is));
      later = λ key.
          let later = sum_by-drop_more (is_key_in key) ranges i next inside in
          omega (arith, later, c.each.invariant.later key, ap (is_key_in key) c.next-item.is, c.in_ok-all.ensures.just key);
      keys = λ key some.
          let number : suc i ≡ i + 1 = omega arith in
          let more = ap (λ k. ranges_with (take k ranges) key) (sym number) ∙ ap (λ l. ranges_with l key) (take-suc ranges i next inside) ∙ sum_by_push (is_key_in key) (take i ranges) (get_or ranges i next) in
          c.in_ok-all.ensures.keys key
          (elim (cases_lt 0 (is_key_in key c.args.range + ranges_with (take i ranges) key)) [
            | inl before ↦ let had = c.each.invariant.keys key (omega (arith, before)) in omega (arith, had)
            | inr none ↦ omega (arith, none, some, more, ap (is_key_in key) c.next-item.is)
          ]);
    }

pub returns-clause-apart : goal.returns-clause-apart
returns-clause-apart c key =
    let grown = ap (λ l. ranges_with l key) c.in_ok-push.ensures.items ∙ sum_by_push (is_key_in key) c.each.others.items c.each.all in
    omega (arith, grown, c.each.invariant.apart key)

pub returns-clause-keys : goal.returns-clause-keys
returns-clause-keys c key some =
    let grown = ap (λ l. ranges_with l key) c.in_ok-push.ensures.items ∙ sum_by_push (is_key_in key) c.each.others.items c.each.all in
    let all = ap (λ l. ranges_with l key) (take_all c.each.next-index c.args.ranges.now (omega (arith, c.each-test.false, c.each.auto.next-index-end))) in
    let has = c.each.invariant.keys key (omega (arith, some, all)) in
    omega (arith, grown, has)
