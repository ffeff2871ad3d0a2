-- What was counted are the rows so far that are kept.
use Rattle.std.proofs.Common.{◌≡◌, ◌≤◌, count_by, take}
use Rattle.tq_profile.specs.Figures.{is_kept}
use Rattle.tq_profile.proofs.figures.count_kept.Given as goal

abbrev pub invariant-rows : goal.invariant-rows
invariant-rows l = record {
  counted : l.kept ≡ count_by (is_kept l.window l.keys) (take l.row l.rows.items);
  few : l.kept ≤ l.row;
}
