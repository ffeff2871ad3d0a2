-- The row was added in the columns so far.
use Rattle.std.proofs.Common.{◌≡◌, List, [], ◌∷◌, ◌++◌, drop, length, map, take}
use Rattle.tq_base.specs.declared.fragment.Fragment.{Fragment}
use Rattle.tq_totals.specs.Sums.{row_sum}
use Rattle.tq_totals.proofs.sums.add_row.Given as goal

abbrev pub invariant-columns : goal.invariant-columns
invariant-columns l = record {
  len : length l.sums.items ≡ length l.summed;
  parts : (rows : List Fragment) → l.initial.sums.items ≡ map (row_sum rows) l.summed
      → (take l.place l.sums.items ≡ take l.place (map (row_sum (rows ++ record { values = l.row; period = l.fn.period } ∷ [])) l.summed))
      × (drop l.place l.sums.items ≡ drop l.place (map (row_sum rows) l.summed));
}
