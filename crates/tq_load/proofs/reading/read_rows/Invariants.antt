-- The rows so far are those of the records so far, with only the wanted values kept; none of these records may be open.
use Rattle.std.proofs.Common.{◌≡◌, ◌++◌, ℕ, List, length}
use Rattle.tq_event.specs.Reading.{HasLeft}
use Rattle.tq_load.specs.Feeds.{AreClosed}
use Rattle.tq_load.specs.Parts.{ParseProjected}
use Rattle.tq_load.proofs.reading.read_rows.Given as goal

abbrev pub invariant-rows : goal.invariant-rows
invariant-rows l = record {
  wide : l.rows.width ≡ length l.columns;
  parsed : (all : List (List (List ℕ))) → HasLeft l.fn.reader all
      → (seen : List (List (List ℕ))) × (left : List (List (List ℕ))) × (all ≡ seen ++ left) × HasLeft l.reader left × ParseProjected l.form l.columns l.wanted seen l.rows.items × AreClosed seen;
}
