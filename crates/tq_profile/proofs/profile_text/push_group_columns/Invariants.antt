use Rattle.std.proofs.Common.{◌≡◌, ◌++◌, take}
use Rattle.std.specs.List.{flat_map}
use Rattle.tq_profile.specs.ProfileText.{group_text}
use Rattle.tq_profile.proofs.profile_text.push_group_columns.Given as goal

abbrev pub invariant-columns : goal.invariant-columns
invariant-columns l = l.text.items ≡ l.initial.text.items ++ flat_map (group_text l.catalogue) (take l.column-index l.fn.columns)
