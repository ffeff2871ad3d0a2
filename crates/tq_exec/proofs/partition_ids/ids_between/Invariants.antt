-- The partitions of the rows so far.
use Rattle.std.proofs.Common.{◌≡◌, ◌++◌, map, take}
use Rattle.tq_base.specs.declared.fragment.Fragment.{Fragment}
use Rattle.tq_base.specs.RowValues.{value_at}
use Rattle.tq_exec.specs.Partitions.{partition_of}
use Rattle.tq_exec.proofs.partition_ids.ids_between.Given as goal

abbrev pub invariant-rows : goal.invariant-rows
invariant-rows l =
    let partition = λ (row : Fragment). partition_of l.cuts (value_at row.values l.column) in
    map partition (take l.start l.rows.items) ++ l.ids.items ≡ map partition (take l.number l.rows.items)
