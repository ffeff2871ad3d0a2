-- The rows so far can be summed.
use Rattle.std.proofs.Common.{take}
use Rattle.std.specs.Prelude.{All}
use Rattle.tq_base.specs.declared.fragment.Fragment.{Fragment}
use Rattle.tq_agg.specs.Grouping.{AreSummable}
use Rattle.tq_split.proofs.adding.are_summable.Given as goal

abbrev pub invariant-rows : goal.invariant-rows
invariant-rows l = All (λ (row : Fragment). AreSummable l.columns row.values) (take l.row l.rows.items)
