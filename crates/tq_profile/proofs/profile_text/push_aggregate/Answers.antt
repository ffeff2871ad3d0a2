use Rattle.std.proofs.Common.{◌++◌, ◌∙◌, ap, append_assoc, codes}
use Rattle.std.specs.List.{flat_map}
use Rattle.std.proofs.lemmas.Result.{on_ok_weaker}
use Rattle.tq_profile.specs.ProfileText.{aggregate_name, group_text}
use Rattle.tq_profile.proofs.profile_text.push_aggregate.Goals as goal

pub returns : goal.returns
unfolding aggregate_name
returns c =
    let before = c.args.text.now.items in
    let head = codes "aggregate  (" in
    let names = flat_map (group_text c.args.catalogue.now) in
    on_ok_weaker c.push_group_columns.result
    (λ is.
    is ∙ ap (λ text. text ++ names c.get.result.now) c.in_ok-extend_from_slice.ensures.items
    ∙ append_assoc before head (names c.get.result.now)
    ∙ ap (λ columns. before ++ (head ++ names columns)) c.get.ensures)
    c.push_group_columns.ensures
