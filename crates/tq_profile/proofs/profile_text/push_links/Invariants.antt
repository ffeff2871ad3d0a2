use Rattle.std.proofs.Common.{◌≡◌, ◌++◌, take}
use Rattle.std.specs.List.{flat_map}
use Rattle.tq_profile.specs.ProfileText.{link_text}
use Rattle.tq_profile.proofs.profile_text.push_links.Given as goal

abbrev pub invariant-links : goal.invariant-links
invariant-links l = l.text.items ≡ l.initial.text.items ++ flat_map (link_text l.catalogue) (take l.link-index l.fn.links)
