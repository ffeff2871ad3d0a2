-- The rows so far have two values, and their numbers are small.
use Rattle.std.proofs.Common.{◌≡◌, ℕ, FitsSigned}
use Rattle.std.specs.Prelude.{All}
use Rattle.std.specs.Int.{w64}
use Rattle.tq_base.specs.declared.fragment.Fragment.{Fragment}
use Rattle.tq_base.specs.RowValues.{number_of, value_at}
use Rattle.tq_tests_base.proofs.grouping.pairs.Given as goal

abbrev pub invariant-rows : goal.invariant-rows
invariant-rows l = record {
  width : l.rows.width ≡ 2;
  small : All (λ (row : Fragment). (place : ℕ) → FitsSigned w64 (number_of (value_at row.values place))) l.rows.items;
}
