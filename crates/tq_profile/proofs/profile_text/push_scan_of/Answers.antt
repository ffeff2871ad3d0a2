use Rattle.std.proofs.Common.{◌++◌, ◌∙◌, ap, append_assoc}
use Rattle.std.proofs.lemmas.Result.{on_ok_weaker}
use Rattle.tq_profile.specs.ProfileText.{rows_text, scan_of, source_text}
use Rattle.tq_profile.proofs.profile_text.push_scan_of.Goals as goal

pub returns : goal.returns
unfolding scan_of
returns c =
    let before = c.args.text.now.items in
    let room = c.indent.result.now in
    let source = source_text c.args.catalogue.now c.args.source.now in
    let rows = rows_text c.from.result in
    on_ok_weaker c.push_rows.result
    (λ is.
    is ∙ ap (λ text. text ++ rows) (c.in_ok-push_source.ensures ∙ ap (λ text. text ++ source) c.in_ok-extend_from_slice.ensures.items)
    ∙ ap (λ text. text ++ rows) (append_assoc before room source)
    ∙ append_assoc before (room ++ source) rows
    ∙ (λ i. before ++ (c.indent.ensures i ++ source ++ rows_text (c.from.ensures i))))
    c.push_rows.ensures
