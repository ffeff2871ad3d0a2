-- Partitions of the rows of tables, by the normalized keys of their values in a column. This project's own.
use Rattle.std.specs.Prelude.{◌≡◌, ◌<◌, ◌+◌, ◌*◌, ◌++◌, ℕ, nat_le, filter, length, map, min, take, List, Option, None, Some, slice_index_or}
use Rattle.std.specs.Global.{Vec}
use Rattle.std.proofs.Props.{props}
use Rattle.tq_base.specs.declared.fragment.Fragment.{Fragment}
use Rattle.tq_base.specs.declared.value.Value.{Value}
use Rattle.tq_base.specs.NormalizedKeys.{normalized_key}
use Rattle.tq_event.specs.Tables.{rows_in}
use Rattle.tq_base.specs.RowValues.{value_at}
use Rattle.tq_plan.specs.declared.plans.Plan.{Plan}
use Rattle.tq_exec.specs.Answers.{times_at, ValidRows}
use Rattle.tq_exec.specs.Partitioning.{Columns, in_partition}
use Rattle.tq_exec.specs.AnswerParts.{IsAnswerPart}
use Rattle.tq_exec.specs.declared.answer_parts.AnswerPart.{AnswerPart}
use Rattle.tq_exec.specs.declared.answer_parts.Wanted.{Wanted}

-- the partition of a value: how many of the cut points are at most its normalized key
abbrev pub partition_of : List ℕ → Value → ℕ
partition_of cuts value = length (filter (λ cut. nat_le cut (normalized_key value)) cuts)

-- the column by which the rows of a table are partitioned, of the columns for all tables
abbrev pub columns_in : List (Option ℕ) → Columns
columns_in columns table = slice_index_or columns table None

-- the partition of each row, if the table is partitioned
abbrev pub IsPartitionIds : List ℕ → Option ℕ → List Fragment → List ℕ → Type 0
IsPartitionIds cuts None rows ids = Unit {0}
IsPartitionIds cuts (Some column) rows ids = ids ≡ map (λ (row : Fragment). partition_of cuts (value_at row.values column)) rows

-- the partitions of the rows of each table
pub record ArePartitionIds (cuts : List ℕ) (columns : List (Option ℕ)) (tables : List (List Fragment)) (ids : List (Vec ℕ)) : Type 0 where
  pub many : length ids ≡ length tables
  pub each : (table : ℕ) (d : Vec ℕ) → table < length tables → IsPartitionIds cuts (columns_in columns table) (rows_in tables table) (slice_index_or ids table d).items

-- where a chunk of `len` rows begins: each has 65,536 of them, and the last one the rest
abbrev pub chunk_start : ℕ → ℕ → ℕ
chunk_start len chunk = min (chunk * 65536) len

-- the partitions of the rows of a chunk; with those of the rows before it they are those of the rows up to its end
abbrev pub IsChunk : List ℕ → ℕ → List Fragment → ℕ → List ℕ → Type 0
IsChunk cuts column rows chunk ids =
    let partition = λ (row : Fragment). partition_of cuts (value_at row.values column) in
    map partition (take (chunk_start (length rows) chunk) rows) ++ ids ≡ map partition (take (chunk_start (length rows) (chunk + 1)) rows)

ids_prop : (cuts : List ℕ) (column : Option ℕ) (rows : List Fragment) (ids : List ℕ) → IsProp (IsPartitionIds cuts column rows ids)
ids_prop cuts None rows ids = hlevel props
ids_prop cuts (Some column) rows ids = hlevel props

pub partition_ids_prop : (cuts : List ℕ) (columns : List (Option ℕ)) (tables : List (List Fragment)) (ids : List (Vec ℕ)) → IsProp (ArePartitionIds cuts columns tables ids)
partition_ids_prop cuts columns tables ids = hlevel (props, ids_prop)

-- the part of the plan's answer over a partition
abbrev pub IsPartitionPart : Wanted → ValidRows → Plan → List ℕ → List (Option ℕ) → ℕ → AnswerPart → Type 0
IsPartitionPart wanted valid plan cuts columns number part = IsAnswerPart wanted (length plan.left.outputs) (times_at (in_partition (partition_of cuts) (columns_in columns) number valid) plan) part
