-- The rows of a plan in periods of its window. This project's own.
use Rattle.std.specs.Prelude.{◌≡◌, ◌<◌, ℕ, List, length, slice_index_or}
use Rattle.tq_base.specs.declared.period.Period.{Period}
use Rattle.tq_base.specs.Fragments.{copies}
use Rattle.tq_base.specs.RowLists.{RowList}
use Rattle.tq_agg.specs.Grouping.{Row}
use Rattle.tq_table.specs.Merging.{AreOfWidth}
use Rattle.tq_plan.specs.declared.plans.Plan.{Plan}
use Rattle.tq_exec.specs.Answers.{times_within, ValidRows}

-- rows as wide as the plan's answer: those of the plan at each instant of the period, and none outside it
pub record IsPiece (valid : ValidRows) (plan : Plan) (period : Period) (rows : RowList) : Type 0 where
  pub wide : AreOfWidth (length plan.left.outputs) rows
  pub counted : (v : Row) (t : ℕ) → copies rows.items v t ≡ times_within valid plan period v t

-- each list is the piece of the period at its place
abbrev pub ArePieces : ValidRows → Plan → List Period → List RowList → Type 0
ArePieces valid plan periods lists =
    (i : ℕ) (e : RowList) → i < length periods → (d : Period) → IsPiece valid plan (slice_index_or periods i d) (slice_index_or lists i e)
