-- The figures of an executed plan over tables of rows. This project's own.
use Rattle.std.specs.Prelude.{◌≡◌, ℕ, ℤ, Bool, false, ◌&&◌, int_le, count_by, length, List, [], ◌∷◌, Option, None, Some}
use Rattle.tq_base.specs.declared.fragment.Fragment.{Fragment}
use Rattle.tq_base.specs.declared.key_range.KeyRange.{KeyRange}
use Rattle.tq_base.specs.declared.period.Period.{Period}
use Rattle.tq_base.specs.KeyRanges.{key_of}
use Rattle.tq_base.specs.Keys.{is_overlap}
use Rattle.tq_event.specs.Tables.{rows_in}
use Rattle.tq_plan.specs.KeyRanges.{HasKeysOf}
use Rattle.tq_plan.specs.declared.plans.Plan.{Plan}
use Rattle.tq_plan.specs.declared.plans.QueryPlan.{QueryPlan}
use Rattle.tq_plan.specs.declared.plans.QuerySource.{QuerySource}
use Rattle.tq_profile.specs.declared.figures.ExceptFigures.{ExceptFigures}
use Rattle.tq_profile.specs.declared.figures.Figures.{Figures}
use Rattle.tq_profile.specs.declared.figures.QueryFigures.{QueryFigures}
use Rattle.tq_profile.specs.declared.figures.SourceFigures.{SourceFigures}

-- whether the key lies in the range; none does where there is no range
abbrev pub is_in_range : Option KeyRange → ℤ → Bool
is_in_range None key = false
is_in_range (Some range) key = int_le range.low key && int_le key range.high

-- whether the row is valid at some instant of the window, and its key lies in the range
abbrev pub is_kept : Period → Option KeyRange → Fragment → Bool
is_kept window keys row = is_overlap row.period window && is_in_range keys (key_of row.values)

-- of a source of a query: its table, how many rows that has, a range with the keys of the source's rows in all rows that
-- pass the query's condition, and how many of the table's rows are kept for the window and this range
pub record IsSourceFigures (window : Period) (query : QueryPlan) (tables : List (List Fragment)) (source : QuerySource) (figures : SourceFigures) : Type 0 where
  pub table : figures.table ≡ source.table
  pub read : figures.read ≡ length (rows_in tables source.table)
  pub keys : HasKeysOf query source figures.keys
  pub kept : figures.kept ≡ count_by (is_kept window figures.keys) (rows_in tables source.table)

-- of sources of a query, one by one
abbrev pub AreSourceFigures : Period → QueryPlan → List (List Fragment) → List QuerySource → List SourceFigures → Type 0
AreSourceFigures window query tables [] [] = Unit {0}
AreSourceFigures window query tables [] (figures ∷ more) = ⊥
AreSourceFigures window query tables (source ∷ sources) [] = ⊥
AreSourceFigures window query tables (source ∷ sources) (figures ∷ more) =
    IsSourceFigures window query tables source figures × AreSourceFigures window query tables sources more

-- of a query: its sources. Of its operators nothing is said
pub record IsQueryFigures (window : Period) (query : QueryPlan) (tables : List (List Fragment)) (figures : QueryFigures) : Type 0 where
  pub sources : AreSourceFigures window query tables query.sources figures.sources

-- of the query after EXCEPT ALL, if there is one
abbrev pub IsRightFigures : Period → Option QueryPlan → List (List Fragment) → Option ExceptFigures → Type 0
IsRightFigures window None tables None = Unit {0}
IsRightFigures window None tables (Some figures) = ⊥
IsRightFigures window (Some query) tables None = ⊥
IsRightFigures window (Some query) tables (Some figures) = IsQueryFigures window query tables figures.query

-- of an executed plan over tables of rows: its window, its queries, and how many rows its answer has
pub record AreFigures (tables : List (List Fragment)) (plan : Plan) (answer_rows : ℕ) (figures : Figures) : Type 0 where
  pub window : figures.window ≡ plan.window
  pub left : IsQueryFigures plan.window plan.left tables figures.left
  pub right : IsRightFigures plan.window plan.right tables figures.right
  pub rows : figures.rows ≡ answer_rows
