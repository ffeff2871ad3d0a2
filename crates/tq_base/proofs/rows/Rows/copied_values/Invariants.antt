-- The values of the rows so far were copied.
use Rattle.std.proofs.Common.{◌≡◌, take}
use Rattle.std.specs.List.{flat_map}
use Rattle.tq_base.specs.declared.fragment.Fragment.{Fragment}
use Rattle.tq_base.proofs.rows.Rows.copied_values.Given as goal

abbrev pub invariant-rows : goal.invariant-rows
invariant-rows l = l.values.items ≡ flat_map (λ (row : Fragment). row.values) (take l.row l.self.items)
