use Rattle.std.proofs.Common.{◌++◌, ◌∙◌, ap, append_assoc, codes}
use Rattle.tq_profile.specs.ProfileText.{division_line}
use Rattle.tq_profile.proofs.profile_text.push_division.Goals as goal

pub returns : goal.returns
unfolding division_line
returns c =
    let before = c.args.text.now.items in
    let head = codes "  partitioning   " in
    let way = c.division_text.result.now in
    let end = c.ranges_text.result.now in
    c.in_ok-extend_from_slice-3.ensures.items
    ∙ ap (λ text. text ++ end) (c.in_ok-extend_from_slice-2.ensures.items ∙ ap (λ text. text ++ way) c.in_ok-extend_from_slice.ensures.items)
    ∙ ap (λ text. text ++ end) (append_assoc before head way)
    ∙ append_assoc before (head ++ way) end
    ∙ (λ i. before ++ (head ++ c.division_text.ensures i ++ c.ranges_text.ensures i))
