use Rattle.std.proofs.Common.{◌≡◌, ◌<◌, All, length, take}
use Rattle.std.specs.List.{filter}
use Rattle.tq_base.specs.declared.fragment.Fragment.{Fragment}
use Rattle.tq_draw.specs.Scales.{is_in_window}
use Rattle.tq_draw.proofs.ShownLemmas.{at_places}
use Rattle.tq_draw.proofs.shown_rows.ShownRows.of.Given as goal

abbrev pub invariant-rows : goal.invariant-rows
invariant-rows l = record {
  rows : at_places l.rows l.places.items ≡ filter (λ (row : Fragment). is_in_window l.window row.period) (take l.place l.rows);
  within : All (λ place. place < length l.rows) l.places.items;
}
