-- The sum so far and that of the other rows make the sum; it may be one of 64-bit numbers.
use Rattle.std.proofs.Common.{◌≡◌, ◌+ℤ◌, drop}
use Rattle.std.specs.Prelude.{All}
use Rattle.tq_agg.specs.Grouping.{sum_at}
use Rattle.tq_exec.specs.OutputPlaces.{AreNumbers}
use Rattle.tq_reference.proofs.NarrowLemmas.{IsSumOf}
use Rattle.tq_reference.proofs.groups.sum_at.Given as goal

abbrev pub invariant-rows : goal.invariant-rows
invariant-rows l = record {
  summed : l.sum +ℤ sum_at l.place (drop l.row-index l.rows) ≡ sum_at l.place l.rows;
  small : All AreNumbers l.rows → IsSumOf l.row-index l.sum;
}
