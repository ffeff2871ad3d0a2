-- All values so far are numbers in the range, or one was found that is not.
use Rattle.std.proofs.Common.{◌≡◌, take}
use Rattle.std.specs.List.{list_all}
use Rattle.tq_base.specs.KeyRanges.{is_number_in}
use Rattle.tq_base.proofs.column_view.ColumnView.are_numbers_in.Given as goal

abbrev pub invariant-rows : goal.invariant-rows
invariant-rows l = l.are ≡ list_all (is_number_in l.range) (take l.row l.self)
