use Rattle.std.proofs.Common.{◌≡◌, ◌++◌, take}
use Rattle.std.specs.List.{flat_map}
use Rattle.tq_profile.specs.ProfileText.{operator_text}
use Rattle.tq_profile.proofs.profile_text.push_operators.Given as goal

abbrev pub invariant-operators : goal.invariant-operators
invariant-operators l = l.text.items ≡ l.initial.text.items ++ flat_map (operator_text l.catalogue) (take l.figures-index l.fn.operators)
