use Rattle.std.proofs.Common.{◌∙◌, ◌++◌, ℕ, List, ap, append_assoc, codes}
use Rattle.tq_import.specs.Messages.{unit_rule}
use Rattle.tq_import.proofs.messages.push_format.Goals as goal

pub returns : goal.returns
returns c =
    let text = c.args.text.now.items in
    let front = codes " is not a date in the format " in
    let format = c.args.format.now in
    let end = unit_rule c.args.unit in
    c.in_ok-extend_from_slice-3.ensures.items
    ∙ (λ i. c.in_ok-extend_from_slice-2.ensures.items i ++ c.unit_rule.ensures i)
    ∙ ap (λ (t : List ℕ). (t ++ format) ++ end) c.in_ok-extend_from_slice.ensures.items
    ∙ append_assoc (text ++ front) format end
    ∙ append_assoc text front (format ++ end)
