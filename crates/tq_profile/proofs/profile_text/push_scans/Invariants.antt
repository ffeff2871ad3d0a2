use Rattle.std.proofs.Common.{◌≡◌, ◌++◌, take}
use Rattle.std.specs.List.{flat_map}
use Rattle.tq_profile.specs.ProfileText.{scan_text}
use Rattle.tq_profile.proofs.profile_text.push_scans.Given as goal

abbrev pub invariant-scans : goal.invariant-scans
invariant-scans l = l.text.items ≡ l.initial.text.items ++ flat_map (scan_text l.catalogue l.sources) (take l.scan-index l.fn.scans)
