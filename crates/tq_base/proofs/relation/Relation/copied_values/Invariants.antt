-- The values of the rows so far were copied, and there is room for those of the others.
use Rattle.std.proofs.Common.{◌≡◌, ◌*◌, ◌≤◌, length, take}
use Rattle.std.specs.List.{flat_map}
use Rattle.std.specs.Prelude.{vec_capacity, vec_len}
use Rattle.tq_base.specs.declared.fragment.Fragment.{Fragment}
use Rattle.tq_base.proofs.relation.Relation.copied_values.Given as goal

abbrev pub invariant-rows : goal.invariant-rows
invariant-rows l = record {
  values : l.values.items ≡ flat_map (λ (row : Fragment). row.values) (take l.row l.self.items);
  len : vec_len l.values ≡ l.row * l.self.width;
  room : length l.self.items * l.self.width ≤ vec_capacity l.values;
}
