-- There is a kind for each of the columns so far.
use Rattle.std.proofs.Common.{◌≡◌, ◌≤◌, ◌-◌, [], ◌∷◌}
use Rattle.std.specs.List.{repeat}
use Rattle.tq_import.specs.declared.plan.Conversion.TheVariants.{Number}
use Rattle.tq_import.proofs.kinds.number_kinds.Given as goal

abbrev pub invariant-columns : goal.invariant-columns
invariant-columns l = record {
  some : l.left ≤ l.width;
  kinds : l.kinds.items ≡ repeat (l.width - l.left) (Number 0 ∷ []);
}

abbrev pub decreases-columns : goal.decreases-columns
decreases-columns l = l.left
