use Rattle.std.proofs.Common.{◌≡◌, ◌∙◌, [], ◌∷◌, ◌++◌, ap, arith, append_assoc, codes, decimal, length, min, take}
use Rattle.std.specs.List.{flat_map}
use Rattle.std.proofs.lemmas.List.{take_min}
use Rattle.tq_check.specs.ReferenceReports.{orphan_text}
use Rattle.tq_check.proofs.reference_report.push_listed.Goals as goal

pub returns : goal.returns
returns c =
    let text = c.args.text.now.items in
    let order = c.args.order.now in
    let f = orphan_text c.args.form c.args.children.now.items c.args.column in
    let label = codes "\n  orphans      " in
    let number = label ++ decimal (length order) in
    let lines = flat_map f (take 100 order) in
    let few : c.min-listed.result ≡ min 100 (length order) = omega (arith, c.min-listed.ensures) in
    let listed : take c.min-listed.result order ≡ take 100 order = ap (λ n. take n order) few ∙ take_min 100 order in
    let counted : c.push_count.new.text.items ≡ text ++ number = c.in_ok-push_count.ensures ∙ append_assoc text label (decimal (length order)) in
    let all : c.push_orphans.new.text.items ≡ text ++ (number ++ lines) = c.in_ok-push_orphans.ensures ∙ (λ i. counted i ++ flat_map f (listed i)) ∙ append_assoc text number lines in
    c.in_ok-push.ensures.items ∙ ap (λ l. l ++ 10 ∷ []) all ∙ append_assoc text (number ++ lines) (10 ∷ [])
