-- What the rows so far add.
use Rattle.std.proofs.Common.{◌≡◌, length}
use Rattle.tq_agg.specs.declared.summands.Summand.TheVariants.{Column}
use Rattle.tq_agg.specs.Totals.{AreWeights}
use Rattle.tq_agg.proofs.summands.weights_in.Given as goal

abbrev pub invariant-rows : goal.invariant-rows
invariant-rows l = record {
  many : length l.weights.items ≡ l.row;
  each : AreWeights l.rows.items (Column l.column) l.weights.items;
}
