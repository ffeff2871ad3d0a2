use Rattle.std.proofs.Common.{◌∙◌, ◌++◌, ◌==◌, ℕ, List, ap, append_assoc, codes, decimal, if◌then◌else◌}
use Rattle.tq_import.proofs.messages.push_places_rule.Goals as goal

pub returns : goal.returns
returns c =
    let text = c.args.text.now.items in
    let front = codes " is not a number of 64 bits with at most " in
    let digits = decimal c.args.places in
    let end = if c.args.places == 1 then codes " decimal" else codes " decimals" in
    c.in_ok-extend_from_slice-2.ensures.items
    ∙ (λ i. c.in_ok-push_count.ensures i ++ c.decimals.ensures i)
    ∙ ap (λ (t : List ℕ). (t ++ digits) ++ end) c.in_ok-extend_from_slice.ensures.items
    ∙ append_assoc (text ++ front) digits end
    ∙ append_assoc text front (digits ++ end)
