use Rattle.std.proofs.Common.{◌≡◌, ◌∙◌, ◌++◌, ap, arith, append_assoc, decimal, length, take}
use Rattle.std.specs.List.{flat_map}
use Rattle.tq_check.specs.KeyReports.{label_of, pair_text}
use Rattle.tq_check.specs.KeyRows.{count_of, pairs_of}
use Rattle.tq_check.proofs.KeyOrderLemmas.{order_length}
use Rattle.tq_check.proofs.KeyPassLemmas.{all_counted, all_found}
use Rattle.tq_check.proofs.key_report.push_findings.Goals as goal

pub findings_in-requires : goal.findings_in-requires
findings_in-requires c = omega (arith, order_length c.args.rows.now.items c.args.order.now c.requires, c.len-few.ensures.few, c.len-few.ensures.len)

pub returns : goal.returns
returns c =
    let form = c.args.form in
    let finding = c.args.finding in
    let rows = c.args.rows.now.items in
    let order = c.args.order.now in
    let text = c.args.text.now.items in
    let all = all_found finding rows order c.requires in
    let count : c.in_ok-findings.findings.count ≡ count_of finding rows = c.in_ok-findings.ensures.count ∙ ap length all ∙ all_counted finding rows order c.requires in
    let listed : c.in_ok-findings.findings.first.items ≡ take 100 (pairs_of finding order) = c.in_ok-findings.ensures.first ∙ ap (take 100) all in
    let lines = flat_map (pair_text form finding rows) (take 100 (pairs_of finding order)) in
    let counted : c.push_count.new.text.items ≡ text ++ (label_of finding ++ decimal (count_of finding rows)) =
    c.in_ok-push_count.ensures
    ∙ append_assoc text c.label_of.result.now (decimal c.in_ok-findings.findings.count)
    ∙ (λ i. text ++ (c.label_of.ensures i ++ decimal (count i))) in
    c.in_ok-push_pairs.ensures
    ∙ (λ i. counted i ++ flat_map (pair_text form finding rows) ((c.deref.ensures.value ∙ listed) i))
    ∙ append_assoc text (label_of finding ++ decimal (count_of finding rows)) lines
