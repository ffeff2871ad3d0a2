use Rattle.std.proofs.Common.{◌≡◌, ◌<◌, ℕ, length, slice_index_or}
use Rattle.tq_draw.specs.Pieces.{IsWidest}
use Rattle.tq_draw.proofs.widths.all_widest.Given as goal

abbrev pub invariant-columns : goal.invariant-columns
invariant-columns l = record {
  many : length l.widths.items ≡ l.column;
  each : (k d : ℕ) → k < length l.widths.items → IsWidest k l.rows l.first l.end (slice_index_or l.widths.items k d);
}
