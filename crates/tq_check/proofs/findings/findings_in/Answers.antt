use Rattle.std.proofs.Common.{◌≡◌, ◌∙◌, List, ℕ, ◌<◌, ◌+◌, [], ◌++◌, Option, Some, ap, sym, refl, arith, drop, get_or, length, take}
use Rattle.std.proofs.lemmas.List.{append-nil, drop_all, drop_more, take_all}
use Rattle.std.specs.List.{cons_option}
use Rattle.tq_check.specs.declared.findings.Finding.{Finding}
use Rattle.tq_check.specs.declared.findings.KeyPair.{KeyPair}
use Rattle.tq_check.specs.declared.key_rows.KeyedRow.{KeyedRow}
use Rattle.tq_check.specs.KeyRows.{found_pair, further}
use Rattle.tq_check.specs.KeyPasses.{of_key, pairs_after}
use Rattle.tq_check.proofs.findings.findings_in.Goals as goal

abbrev no_row : KeyedRow
no_row = record { key = 0; start = 0; end = 0; place = 0 }

-- one more row
more : (finding : Finding) (last : Option KeyedRow) (order : List KeyedRow) (at : ℕ) (d : KeyedRow) → at < length order
    → pairs_after finding last (drop at order)
    ≡ cons_option (found_pair finding (of_key last (get_or order at d)) (get_or order at d)) (pairs_after finding (Some (further (of_key last (get_or order at d)) (get_or order at d))) (drop (at + 1) order))
unfolding pairs_after
more finding last order at d less = ap (pairs_after finding last) (drop_more order at d less)

none_left : (finding : Finding) (last : Option KeyedRow) → pairs_after finding last [] ≡ []
unfolding pairs_after
none_left finding last = refl

pub rows-preserved : goal.rows-preserved
rows-preserved c =
    let finding = c.args.finding in
    let order = c.args.order.now in
    let at = c.rows.row-index in
    let last = c.rows.last in
    let row = get_or order at no_row in
    let found : c.found_pair.result ≡ found_pair finding (of_key last row) row = c.found_pair.ensures ∙ ap (λ (o : Option KeyedRow). found_pair finding o row) c.of_key-earlier.ensures in
    let next : c.further.result ≡ further (of_key last row) row = c.further.ensures ∙ ap (λ (o : Option KeyedRow). further o row) c.of_key-earlier.ensures in
    let rest = pairs_after finding (Some c.further.result) (drop (at + 1) order) in
    let all : pairs_after finding last (drop at order) ≡ cons_option c.found_pair.result rest =
    more finding last order at no_row c.rows-test.true
    ∙ (λ i. cons_option (sym found i) (pairs_after finding (Some (sym next i)) (drop (at + 1) order))) in
    record {
      count = omega (arith, c.in_ok-add_pair.ensures.count rest, ap length all, c.rows.invariant.count);
      first = c.in_ok-add_pair.ensures.first rest ∙ ap (λ (l : List KeyPair). take 100 (c.rows.findings.first.items ++ l)) (sym all) ∙ c.rows.invariant.first;
      few = omega (arith, c.in_ok-add_pair.ensures.more, c.rows.invariant.few);
      short = c.in_ok-add_pair.ensures.short;
    }

pub returns-clause-count : goal.returns-clause-count
returns-clause-count c =
    let finding = c.args.finding in
    let last = c.rows.last in
    let left = ap (pairs_after finding last) (drop_all c.rows.row-index c.args.order.now c.rows-test.false) ∙ none_left finding last in
    omega (arith, ap length left, c.rows.invariant.count)

pub returns-clause-first : goal.returns-clause-first
returns-clause-first c =
    let finding = c.args.finding in
    let last = c.rows.last in
    let listed = c.rows.findings.first.items in
    let left = ap (pairs_after finding last) (drop_all c.rows.row-index c.args.order.now c.rows-test.false) ∙ none_left finding last in
    sym (take_all 100 listed c.rows.invariant.short)
    ∙ ap (take 100) (sym (append-nil listed))
    ∙ ap (λ (l : List KeyPair). take 100 (listed ++ l)) (sym left)
    ∙ c.rows.invariant.first
