-- When a partitioning suits a plan over a number of tables. This project's own.
use Rattle.std.specs.Prelude.{◌≡◌, ◌≤◌, ℕ, None, false, length, ⊤}
use Rattle.std.specs.Global.{Vec}
use Rattle.tq_base.specs.declared.period.Period.{Period}
use Rattle.tq_plan.specs.declared.plans.Plan.{Plan}
use Rattle.tq_plan.specs.Cuts.{Tile}
use Rattle.tq_plan.specs.ValidPlans.{no_group}
use Rattle.tq_exec.specs.declared.partitioning.ColumnCuts.{ColumnCuts}
use Rattle.tq_exec.specs.declared.partitioning.Partitioning.{Partitioning}
use Rattle.tq_exec.specs.declared.partitioning.Partitioning.TheVariants.{ByJoinKey, ByTime, ByValue, Undivided}
use Rattle.tq_exec.specs.Partitioning.{ArePartitionedBy, AreLinkedBy}
use Rattle.tq_exec.specs.Partitions.{columns_in}

-- at most 64 partitions of at most 64 tables, by the columns that partition the plan
pub record IsByValue (tables : ℕ) (plan : Plan) (cuts : ColumnCuts) : Type 0 where
  pub few : tables ≤ 64
  pub short : length cuts.cuts.items ≤ 63
  pub partitioned : ArePartitionedBy (columns_in cuts.columns.items) plan

-- the same by the columns that link the sources of a plan that only groups their rows
pub record IsByJoinKey (tables : ℕ) (plan : Plan) (cuts : ColumnCuts) : Type 0 where
  pub few : tables ≤ 64
  pub short : length cuts.cuts.items ≤ 63
  pub alone : plan.right ≡ None
  pub grouped : no_group plan.left.group ≡ false
  pub linked : AreLinkedBy (columns_in cuts.columns.items) plan.left

-- at most 64 periods that tile the plan's window
pub record ArePeriods (plan : Plan) (periods : Vec Period) : Type 0 where
  pub few : length periods.items ≤ 64
  pub tile : Tile plan.window periods.items

abbrev pub IsPartitioningOf : ℕ → Plan → Partitioning → Type 0
IsPartitioningOf tables plan (ByValue cuts) = IsByValue tables plan cuts
IsPartitioningOf tables plan (ByJoinKey cuts) = IsByJoinKey tables plan cuts
IsPartitioningOf tables plan (ByTime periods) = ArePeriods plan periods
IsPartitioningOf tables plan Undivided = ⊤
